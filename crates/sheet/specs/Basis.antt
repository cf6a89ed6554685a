-- Laws that building and reading share: what building a basis answers, and a basis written as a sheet.
-- Assumes nothing.
use Rattle.std.specs.Prelude.{◌≡◌, refl, Ok, Err, List, ◌∷◌, ℕ, zero, suc, ◌-◌, ◌*◌, ◌%◌, ◌^◌, ◌≤◌, take}
use Rattle.std.proofs.Common.{ap, ◌∙◌, zero-add, one-mul, arith, shl_exact}
use Rattle.gf2.specs.Limit.{limit}
use Rattle.refusals.specs.Verdicts.{Rule, refuse, first_of}
use Rattle.refusals.specs.Orders.{first-applies, first_passes}
use Rattle.normal.specs.Normal.{conjugates, inverse_rows, table_rows, padded}
use Rattle.normal.specs.Basis.{basis_rows, built_of}
use Rattle.normal.specs.Coordinates.{listed-length}
use Rattle.normal.specs.Filling.{padded-at, padded-take}
use Rattle.normal.specs.declared.basis.Basis.{Basis}
use Rattle.normal.specs.Built.{built-ok, built-err}
use Rattle.sheet.specs.Record.{records_to, tail_of, sheet_bytes}
use Rattle.sheet.specs.Orders.{normal_rule}
use Rattle.sheet.specs.Bytes.{pasted}
use Rattle.sheet.specs.Answers.{summary_with, summary_of, at_front}
use Rattle.refusals.specs.declared.fault.Fault.TheVariants as faults

-- ---- what building a basis answers

-- condition 5, by what building the basis found
module _ (f n a : ℕ) (rest : List Rule) where
  pub normal-refused : {set : ℕ} → Err set ≡ built_of f n a → first_of (normal_rule f n a ∷ rest) ≡ refuse faults.NotNormal 0
  normal-refused e = first-applies (normal_rule f n a) rest (rw (built-err f n a e).0 refl)

  pub normal_passed : {basis : Basis} → Ok basis ≡ built_of f n a → first_of (normal_rule f n a ∷ rest) ≡ first_of rest
  normal_passed e = first_passes (normal_rule f n a) rest (rw (built-ok f n a e).0 refl)

pub normal-rows : (f n a : ℕ) {basis : Basis} → Ok basis ≡ built_of f n a → basis ≡ basis_rows f n a
normal-rows f n a e = (built-ok f n a e).1

-- ---- a basis written as a sheet

-- the rows past the n-th are not written
records_to-padded : (k n tail : ℕ) (C I T : List ℕ) → records_to k n tail (padded C) (padded I) (padded T) ≡ records_to k n tail C I T
unfolding records_to
records_to-padded zero n tail C I T = refl
records_to-padded (suc k) n tail C I T =
    rw (records_to-padded k n tail C I T, padded-at C k, padded-at I k, padded-at T k)

pub power-word : (n : ℕ) → n ≤ limit → 1 * 2 ^ n % 2 ^ 64 ≡ 2 ^ n
power-word n h = shl_exact 1 n 64 (omega arith) (omega arith) ∙ one-mul (2 ^ n)

pub tail_word : (f n : ℕ) → n ≤ limit → f - 1 * 2 ^ n % 2 ^ 64 ≡ tail_of f n
tail_word f n h = ap (λ (x : ℕ). f - x) (power-word n h)

pub sheet_written : (f n a : ℕ) (b : Basis) (buffer : List ℕ) → b ≡ basis_rows f n a
    → pasted buffer 0 (records_to n n (tail_of f n) b.conjugates b.inverse b.table) ≡ at_front (sheet_bytes f n a) buffer
unfolding sheet_bytes pasted
sheet_written f n a b buffer e =
    rw (e, records_to-padded n n (tail_of f n) (conjugates f n a) (inverse_rows f n a) (table_rows f n a), zero-add)

pub summary_table : (f n a : ℕ) (b : Basis) → b ≡ basis_rows f n a → summary_with f n a (take n b.table) ≡ summary_of f n a
unfolding summary_of table_rows
summary_table f n a b e =
    rw (e, padded-take (table_rows f n a) n (listed-length n _))
