-- `elements::modulus::Modulus::has_trace` meets its contract: the parity of what the element shares with the mask is its trace.
-- Assumes nothing.
use Rattle.std.proofs.Common.{ℕ, ◌%◌, eqb, ap, ◌∙◌}
use lib.Bits.{bit_and}
use lib.Count.{ones}
use Rattle.elements.specs.Traces.{mask_parity}
use Rattle.elements.proofs.modulus.Modulus.has_trace.Goals as goal

pub returns : goal.returns
returns c =
    let m = c.args.self in
    ap (λ (x : ℕ). eqb x 1)
    (ap (λ (x : ℕ). ones (bit_and c.args.a x) % 2) m.of_mask ∙ mask_parity m.f m.n m.of_field c.args.a c.requires)
