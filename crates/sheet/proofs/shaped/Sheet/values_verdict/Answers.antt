-- `sheet::shaped::Sheet::values_verdict` meets its contract: the shape is good, and 4 is left.
-- Assumes nothing.
use Rattle.std.proofs.Common.{[], ◌∷◌, ℕ, ap, ◌∙◌, arith}
use Rattle.refusals.specs.Verdicts.{first_of}
use Rattle.refusals.specs.Answers.{checked_of}
use Rattle.field.specs.Refusals.{element_order}
use Rattle.sheet.specs.Record.{record_count}
use Rattle.sheet.proofs.Clear.{shaped-rest}
use Rattle.sheet.proofs.shaped.Sheet.values_verdict.Goals as goal

pub elements_verdict-requires : goal.elements_verdict-requires
elements_verdict-requires c = omega (arith, c.degree.ensures, c.args.self.now.shaped.size.most)

pub returns : goal.returns
returns c =
    shaped-rest c.args.self.now.bytes.now c.args.self.now.shaped (element_order (record_count c.args.self.now.bytes.now) (c.args.a ∷ c.args.b ∷ []))
    (c.elements_verdict.ensures ∙ ap (λ (n : ℕ). checked_of (first_of (element_order n (c.args.a ∷ c.args.b ∷ [])))) c.degree.ensures)
