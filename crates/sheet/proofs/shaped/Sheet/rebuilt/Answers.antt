-- `sheet::shaped::Sheet::rebuilt` meets its contract: 2 and 3, then 5 and 10.
-- Assumes nothing.
use mathlib.Core.Path.{◌≡◌, sym, ap, ◌∙◌}
use mathlib.Core.List.{List, ◌∷◌}
use Prim.Native.Nat.{ℕ}
use native.Mathlib.Omega.{arith}
use Rattle.refusals.specs.Verdicts.{Verdict, first_of}
use Rattle.refusals.specs.Answers.{checked_of}
use Rattle.refusals.specs.Answered.{answer-refused, part-refuses, part-passes}
use Rattle.field.specs.Refusals.{field_order}
use Rattle.sheet.specs.Record.{record_count, column_in, conjugate_in, polynomial_in}
use Rattle.sheet.specs.Orders.{normal_rule, differ_rules, rebuilt_from, rebuild_order}
use Rattle.sheet.specs.declared.answer.Summary.{Summary}
use Rattle.sheet.specs.Answers.{summary_in, issued_of}
use Rattle.sheet.proofs.shaped.Sheet.rebuilt.Goals as goal
use Rattle.std.specs.Prelude.{Result, Err}
use Rattle.refusals.specs.Answers.{Checked}
use Rattle.std.proofs.Common.{rules, ◌≡◌}
use Rattle.refusals.specs.declared.answer.Refusal.{Refusal}

-- 5 and 10
abbrev rest : (sheet : List ℕ) → (f a : ℕ) → Verdict
rest sheet f a = first_of (normal_rule f (record_count sheet) a ∷ differ_rules sheet (rebuilt_from sheet) 0 (record_count sheet))

-- the verdict on the polynomial that was computed is that on the sheet's own
module _ (sheet : List ℕ) (f : ℕ) (ef : f ≡ polynomial_in sheet) {c : Checked} (e : c ≡ checked_of (first_of (field_order f))) where
  own : c ≡ checked_of (first_of (field_order (polynomial_in sheet)))
  own = e ∙ ap (λ (g : ℕ). checked_of (first_of (field_order g))) ef

  decided : (a : ℕ) → a ≡ conjugate_in sheet 0 → {r : Result Summary Refusal} → r ≡ issued_of (rest sheet f a) (summary_in sheet)
      → first_of (rebuild_order sheet) ≡ rest sheet (polynomial_in sheet) (conjugate_in sheet 0) → r ≡ issued_of (first_of (rebuild_order sheet)) (summary_in sheet)
  decided a ea er v =
      er ∙ ap (λ (g : ℕ). issued_of (rest sheet g a) (summary_in sheet)) ef ∙ ap (λ (b : ℕ). issued_of (rest sheet (polynomial_in sheet) b) (summary_in sheet)) ea
      ∙ ap (λ (w : Verdict). issued_of w (summary_in sheet)) (sym v)

pub number_at-element-requires : goal.number_at-element-requires
number_at-element-requires c = let z = c.args.self.now.shaped.size in (omega (arith, z.whole, z.two), omega arith)

pub rebuilt_basis-requires : goal.rebuilt_basis-requires
unfolding column_in
rebuilt_basis-requires c =
    (record { shaped = c.args.self.now.shaped; polynomial = c.ring-ring.ensures.0; count = c.ring-ring.ensures.1; conjugate = c.number_at-element.ensures })

pub returns-in_err-field_verdict : goal.returns-in_err-field_verdict
returns-in_err-field_verdict c =
    let e : c.from_residual.result ≡ Err c.in_err-field_verdict.field-0.0 = search rules in
    let sheet = c.args.self.now.bytes.now in
    e ∙ answer-refused Err _
    (part-refuses (field_order (polynomial_in sheet)) (normal_rule (polynomial_in sheet) (record_count sheet) (conjugate_in sheet 0) ∷ differ_rules sheet (rebuilt_from sheet) 0 (record_count sheet))
    (own sheet c.ring-ring.result.f c.ring-ring.ensures.0 c.field_verdict.ensures) c.in_err-field_verdict.was)

pub returns : goal.returns
unfolding column_in
returns c =
    let sheet = c.args.self.now.bytes.now in
    decided sheet c.ring-ring.result.f c.ring-ring.ensures.0 c.field_verdict.ensures c.number_at-element.result c.number_at-element.ensures
    (c.rebuilt_basis.ensures ∙ ap (λ (n : ℕ). issued_of (first_of (normal_rule c.ring-ring.result.f n c.number_at-element.result ∷ differ_rules sheet (rebuilt_from sheet) 0 n)) (summary_in sheet)) c.ring-ring.ensures.1)
    (part-passes (field_order (polynomial_in sheet)) (normal_rule (polynomial_in sheet) (record_count sheet) (conjugate_in sheet 0) ∷ differ_rules sheet (rebuilt_from sheet) 0 (record_count sheet))
    (own sheet c.ring-ring.result.f c.ring-ring.ensures.0 c.field_verdict.ensures) c.in_ok-field_verdict.was)
