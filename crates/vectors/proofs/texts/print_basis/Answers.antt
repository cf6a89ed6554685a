-- `vectors::texts::print_basis` meets its contract: the text of a smaller degree is the first bytes of its buffer. Assumes nothing.
use mathlib.Core.Path.{sym}
use Prim.Native.Nat.{◌≤◌}
use native.Mathlib.Omega.{arith}
use lib.Seq.{length-take-le}
use Rattle.matrices.specs.Matrices.{text_size}
use Rattle.matrices.specs.Blocks.{text_size-most}
use Rattle.vectors.proofs.texts.print_basis.Goals.{After-text_size-size}
use Rattle.vectors.proofs.texts.print_basis.Given.{Over}
use Rattle.vectors.proofs.texts.print_basis.Goals as goal

-- the text of the last degree is the longest
fits : (g : Over) (c : After-text_size-size g) → c.text_size-size.result ≤ 399
unfolding text_size
fits g c =
    omega (arith, c.text_size-size.ensures, text_size-most 7 c.args.n c.args.n c.requires (omega arith))

pub slice_bounds-text-end : goal.slice_bounds-text-end
slice_bounds-text-end g c = omega (arith, fits g (goal.at.slice_bounds-text-end g c).After-text_size-size)

pub slice_bounds-print_ones-end : goal.slice_bounds-print_ones-end
slice_bounds-print_ones-end g c =
    sym (length-take-le _ _ (omega (arith, fits g (goal.at.slice_bounds-print_ones-end g c).After-text_size-size)))
