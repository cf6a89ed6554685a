-- `desk::listed::answer_verify` meets its contract: a sheet that reading accepts has a good shape. Assumes nothing.
use Rattle.std.proofs.Common.{sym, ◌∙◌, arith}
use Rattle.sheet.proofs.Answered.{done-shaped}
use Rattle.desk.proofs.listed.answer_verify.Goals as goal

pub polynomial_of-f-requires : goal.polynomial_of-f-requires
polynomial_of-f-requires g c = done-shaped c.args.bytes.now _ (sym c.read.ensures.answer ∙ c.in-Ok.is)

pub row_at-row-requires : goal.row_at-row-requires
row_at-row-requires g c =
    let z = done-shaped c.args.bytes.now c.in-Ok.summary (sym c.read.ensures.answer ∙ c.in-Ok.is) in
    omega (arith, z.size.two)
