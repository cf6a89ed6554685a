-- `elements::squares::Squares::trace_mask` meets its contract. The invariant: the bits below i are those of the mask.
-- Assumes nothing.
use Rattle.std.proofs.Common.{◌≡◌}
use Rattle.elements.specs.Traces.{mask_to}
use Rattle.elements.proofs.squares.Squares.trace_mask.Given as goal

abbrev pub invariant-loop-i : goal.invariant-loop-i
invariant-loop-i l = l.mask ≡ mask_to l.self.f l.self.n l.i
