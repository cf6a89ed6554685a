-- The laws of `specs/Clear.antt` that a wrong definition breaks, and what rests on them. The head there tells of both files.
-- Assumes nothing.
use Rattle.std.specs.Prelude.{◌≡◌, false, List, ◌++◌, length}
use Rattle.std.proofs.Common.{sym, ap, ◌∙◌, ⊎_elim, zero-add, add-zero, le-ltb, arith}
use Prim.Native.Nat.{ℕ, zero, suc, ◌+◌, ◌-◌, ◌≤◌, ◌<◌}
use Rattle.gf2.specs.Limit.{limit}
use Rattle.gf2.specs.Numbers.{order}
use Rattle.refusals.specs.Verdicts.{Rule, clear, first_of}
use Rattle.refusals.specs.Answers.{checked_of}
use Rattle.refusals.specs.Orders.{first-clear, first-none, first_passes, part-clear}
use Rattle.sheet.specs.Record.{record_count}
use Rattle.sheet.specs.Orders.{bad_length, misplaced, oversized, record_rules, shape_order, length_rule, Shaped}
use Rattle.sheet.specs.Shape.{good_length, length_many, shape-long}
use Rattle.refusals.specs.declared.fault.Fault.TheVariants as faults
use Rattle.refusals.specs.Answers.{Checked}

-- ---- what a clear shape says

records_clear : (sheet : List ℕ) (k i : ℕ) → first_of (record_rules sheet i k) ≡ clear → (j : ℕ) → j < k → (misplaced sheet (i + j) ≡ false) × (oversized sheet (i + j) ≡ false)
unfolding record_rules
records_clear sheet zero i e j h = absurd (omega arith)
records_clear sheet (suc k) i e j h =
    let a = first-clear (record { fault = faults.Misplaced; place = i; applies = misplaced sheet i }) _ e in
    let b = first-clear (record { fault = faults.Oversized; place = i; applies = oversized sheet i }) (record_rules sheet (i + 1) k) a.1 in
    ⊎_elim
    (λ (u : j < 1). let z : i + j ≡ i = omega arith in rw z (a.0, b.0))
    (λ (u : 1 ≤ j).
    let m : ℕ = j - 1 in
    let z : i + 1 + m ≡ i + j = omega arith in
    rw z at (records_clear sheet k (i + 1) b.1 m (omega arith)))
    (order j 1)

pub clear-shaped : (sheet : List ℕ) → first_of (shape_order sheet) ≡ clear → Shaped sheet
clear-shaped sheet e =
    let a = first-clear (length_rule sheet) (record_rules sheet 0 (record_count sheet)) e in
    let at : (i : ℕ) → i < record_count sheet → (misplaced sheet i ≡ false) × (oversized sheet i ≡ false) =
    λ i h. rw zero-add at (records_clear sheet (record_count sheet) 0 a.1 i h) in
    record {
      size = good_length sheet a.0;
      places = λ i h. (at i h).0;
      small = λ i h. (at i h).1;
    }

-- ---- what a good shape says

records_passed : (sheet : List ℕ) (k i : ℕ) → ((j : ℕ) → j < k → (misplaced sheet (i + j) ≡ false) × (oversized sheet (i + j) ≡ false)) → first_of (record_rules sheet i k) ≡ clear
unfolding record_rules
records_passed sheet zero i h = first-none
records_passed sheet (suc k) i h =
    let here = rw add-zero at (h 0 (omega arith)) in
    let rest : first_of (record_rules sheet (i + 1) k) ≡ clear =
    records_passed sheet k (i + 1) (λ j l. let z : i + 1 + j ≡ i + (j + 1) = omega arith in rw z (h (j + 1) (omega arith))) in
    first_passes (record { fault = faults.Misplaced; place = i; applies = misplaced sheet i }) _ here.0
    ∙ first_passes (record { fault = faults.Oversized; place = i; applies = oversized sheet i }) _ here.1 ∙ rest

pub shaped-clear : (sheet : List ℕ) → Shaped sheet → first_of (shape_order sheet) ≡ clear
shaped-clear sheet z =
    let good : bad_length (length sheet) ≡ false =
    sym (length_many (length sheet) (omega (arith, z.size.whole)) z.size.two) ∙ le-ltb limit (record_count sheet) z.size.most in
    shape-long sheet good
    ∙ records_passed sheet (record_count sheet) 0 (λ j l. rw zero-add (z.places j l, z.small j l))

-- so what is left of an order decides it
pub shaped-rest : (sheet : List ℕ) → Shaped sheet → (rest : List Rule) {r : Checked} → r ≡ checked_of (first_of rest) → r ≡ checked_of (first_of (shape_order sheet ++ rest))
shaped-rest sheet z rest e = e ∙ ap checked_of (sym (part-clear (shape_order sheet) rest (shaped-clear sheet z)))
