-- `causes::calls::rebuilt_cause` meets its contract: 2, 3 and 5 by the polynomial and the element that the sheet names, 10 by the record.
-- Assumes nothing.
use mathlib.Core.Path.{◌≡◌, refl, ap, ap₂, ◌∙◌}
use mathlib.Core.List.{List}
use Prim.Native.Nat.{ℕ}
use native.Mathlib.Omega.{arith}
use Rattle.refusals.specs.Telling.{same_fault}
use Rattle.refusals.specs.declared.fault.Fault.TheVariants as faults
use Rattle.sheet.specs.Record.{record_count, conjugate_in, sheet_bytes}
use Rattle.sheet.specs.Orders.{rebuilt_from}
use Rattle.sheet.proofs.Issuing.{shaped-based}
use Rattle.sheet.specs.Rebuilding.{shaped_range, rebuilt_element, rebuilt_sheet}
use Rattle.sheet.specs.declared.loading.Row.{Row}
use Rattle.causes.specs.Causes.{row_of, difference_of, difference_in, basis_cause}
use Rattle.causes.specs.Behind.{rebuild_dependent, rebuild-differs}
use Rattle.causes.specs.Differing.{differ-place}
use Rattle.causes.specs.Cases.{sheet-differs, sheet_basis}
use Rattle.causes.proofs.calls.rebuilt_cause.Goals as goal

pub invariant_of-ring : goal.invariant_of-ring
invariant_of-ring c = record { in_range = rw c.polynomial_of.ensures (shaped_range c.args.sheet.now c.requires.0) }

pub invariant_of-ring-in_default : goal.invariant_of-ring-in_default
invariant_of-ring-in_default c = record { in_range = rw c.polynomial_of.ensures (shaped_range c.args.sheet.now c.requires.0) }

pub basis_cause-requires : goal.basis_cause-requires
basis_cause-requires c =
    let sheet = c.args.sheet.now in
    let ea : c.row_at-first.result.conjugate ≡ conjugate_in sheet 0 = ap (λ (r : Row). r.conjugate) c.row_at-first.ensures in (
      (rebuilt_element sheet c.polynomial_of.result (record_count sheet) c.row_at-first.result.conjugate
          (record { shaped = c.requires.0; polynomial = c.polynomial_of.ensures; count = refl; conjugate = ea })).small,
      λ k. rw (c.polynomial_of.ensures, ea) (rebuild_dependent sheet c.args.refusal.place (rw k at c.requires.1)),
    )

pub returns-in_default : goal.returns-in_default
returns-in_default c =
    let sheet = c.args.sheet.now in
    sheet_basis sheet c.args.refusal (λ e. c.in_default.not-Differs (same_fault c.args.refusal.fault faults.Differs e))
    (c.basis_cause.ensures
    ∙ ap₂ (λ (f a : ℕ). basis_cause f (record_count sheet) a c.args.refusal.fault c.args.refusal.place) c.polynomial_of.ensures (ap (λ (r : Row). r.conjugate) c.row_at-first.ensures))

pub right_row-right-requires : goal.right_row-right-requires
right_row-right-requires c =
    let sheet = c.args.sheet.now in
    let d = rebuild-differs sheet c.args.refusal.place (rw c.in-Differs.is at c.requires.1) in
    (rw (c.polynomial_of.ensures, c.row_at-first.ensures) (shaped-based sheet c.requires.0 d.0), differ-place sheet (rebuilt_from sheet) (record_count sheet) c.args.refusal.place d.1)

pub row_at-requires : goal.row_at-requires
row_at-requires c =
    let sheet = c.args.sheet.now in
    let d = rebuild-differs sheet c.args.refusal.place (rw c.in-Differs.is at c.requires.1) in
    omega (arith, differ-place sheet (rebuilt_from sheet) (record_count sheet) c.args.refusal.place d.1, c.requires.0.size.whole)

pub returns-in-Differs : goal.returns-in-Differs
unfolding difference_in
returns-in-Differs c =
    let sheet = c.args.sheet.now in
    let i = c.args.refusal.place in
    let ea : c.row_at-first.result.conjugate ≡ conjugate_in sheet 0 = ap (λ (r : Row). r.conjugate) c.row_at-first.ensures in
    let same : sheet_bytes c.polynomial_of.result (record_count sheet) c.row_at-first.result.conjugate ≡ rebuilt_from sheet =
    rebuilt_sheet sheet c.polynomial_of.result (record_count sheet) c.row_at-first.result.conjugate
    (record { shaped = c.requires.0; polynomial = c.polynomial_of.ensures; count = refl; conjugate = ea }) in
    sheet-differs sheet c.args.refusal c.in-Differs.is
    (c.difference_of.ensures ∙ ap₂ (difference_of i) c.row_at.ensures (c.right_row-right.ensures ∙ ap (λ (l : List ℕ). row_of l i) same))
