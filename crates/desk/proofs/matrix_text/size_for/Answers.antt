-- `desk::matrix_text::size_for` meets its contract: no text is longer than that of the largest degree.
-- Assumes nothing.
use Rattle.std.proofs.Common.{arith}
use Rattle.gf2.specs.Limit.{limit}
use Rattle.matrices.specs.Matrices.{text_size}
use Rattle.matrices.specs.Blocks.{text_size-most}
use Rattle.desk.proofs.matrix_text.size_for.Goals as goal

pub returns : goal.returns
unfolding text_size
returns c =
    let n = c.args.n in
    (λ h. c.text_size.ensures, omega (arith, c.text_size.ensures, text_size-most limit n n c.if-n-gt-LIMIT.false (omega arith)))
