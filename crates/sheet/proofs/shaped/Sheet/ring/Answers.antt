-- `sheet::shaped::Sheet::ring` meets its contract: a good shape has its degree in range.
-- Assumes nothing.
use Rattle.sheet.specs.Rebuilding.{shaped_range}
use Rattle.sheet.proofs.shaped.Sheet.ring.Goals as goal

pub invariant_of-result : goal.invariant_of-result
invariant_of-result c = record {
  in_range = rw (c.polynomial.ensures, c.degree.ensures) (shaped_range c.args.self.now.bytes.now c.args.self.now.shaped);
}
