-- What a verdict gives a call: its answer, document 01's number, place and value for each case of an answer, and the final state of lent
-- memory. Definitions alone.
--
--   refusal_at k p               the refusal for k at the place p
--   answer_of refused done v     the case of a call's answer, whatever its type is
--   left v done came            what lent memory holds at the end
--   Checked, passed             an answer of no value, and that of a call that refuses nothing
--   value_of, checked_of          the cases of an answer with one value, and of one with none
--   Report                      document 01's numbers for an answer of one value, or of none
--   report_of v x                the numbers that a verdict gives a call whose value is x
--   value_report, checked_report  the numbers of a case
--
-- Assumes nothing.
use Rattle.std.specs.Prelude.{List, ℕ, Result, Ok, Err}
use Rattle.refusals.specs.Verdicts.{fault_number, Verdict, clear, refuse}
use Rattle.refusals.specs.declared.fault.Fault.{Fault}
use Rattle.refusals.specs.declared.answer.Refusal.{Refusal}

abbrev pub refusal_at : (fault : Fault) (place : ℕ) → Refusal
refusal_at k p = record { fault = k; place = p }

-- a refusal, with its row and place, or what the call answers where it is done
unfoldable pub answer_of : {A : Type 0} → (Refusal → A) → A → Verdict → A
answer_of refused done clear = done
answer_of refused done (refuse k p) = refused (refusal_at k p)

-- "every lent buffer and list stays as it came" on a refusal
unfoldable pub left : Verdict → (done came : List ℕ) → List ℕ
left clear done came = done
left (refuse k p) done came = came

-- ---- document 01's numbers

pub record Report : Type 0 where
  pub number : ℕ
  pub place : ℕ
  pub value : ℕ

-- "Done is 0 with place 0." "A refusal's other values are zero"
unfoldable pub report_of : Verdict → ℕ → Report
report_of clear x = record { number = 0; place = 0; value = x }
report_of (refuse k p) x = record { number = fault_number k; place = p; value = 0 }

-- ---- a call that answers one value

abbrev pub value_of : Verdict → ℕ → Result ℕ Refusal
value_of v x = answer_of Err (Ok x) v

unfoldable pub value_report : Result ℕ Refusal → Report
value_report (Ok x) = record { number = 0; place = 0; value = x }
value_report (Err r) = record { number = fault_number r.fault; place = r.place; value = 0 }

-- ---- a call that answers nothing but whether it is done

-- "Done": nothing is refused
abbrev pub Checked : Type 0
Checked = Result (Unit {0}) Refusal

abbrev pub passed : Checked
passed = Ok tt

abbrev pub checked_of : Verdict → Checked
checked_of v = answer_of Err passed v

unfoldable pub checked_report : Checked → Report
checked_report (Ok _) = record { number = 0; place = 0; value = 0 }
checked_report (Err r) = record { number = fault_number r.fault; place = r.place; value = 0 }
