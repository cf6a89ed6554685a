-- `elements::windows::Multiples::wide_product` meets its contract. The invariant: low and high hold the product modulo f of a and what stands
-- below 16 * j in b. Assumes nothing.
use Rattle.std.proofs.Common.{◌*◌, ◌%◌, ◌^◌, ◌<◌}
use Rattle.elements.specs.Windows.{Unreduced}
use Rattle.elements.proofs.windows.Multiples.wide_product.Given as goal

abbrev pub invariant-loop-j : goal.invariant-loop-j
invariant-loop-j l = l.b < 2 ^ l.self.n → Unreduced l.self.f l.self.n l.self.a (l.b % 2 ^ (16 * l.j)) l.low l.high
