-- Reading: the first record that differs from the one rebuilt decides condition 10.
--
--   Rebuilt sheet f n a               what a sheet of good shape is rebuilt from: f and n are its polynomial and degree, a its record 0 conjugate
--   differs sheet rebuilt i           record i of the two differs
--   first_differing sheet rebuilt i k  the first of k records from i on that differs; past the last where none does
--
-- Assumes nothing.
use Rattle.std.specs.Prelude.{◌≡◌, refl, Bool, true, false, not, cond, List, ◌++◌, length, get_or, drop}
use Rattle.std.proofs.Common.{◌∙◌, add-one}
use Prim.Native.Nat.{ℕ, zero, suc, ◌+◌, ◌-◌, ◌*◌, ◌≤◌, ◌<◌}
use native.Mathlib.Omega.{arith}
use Rattle.std.proofs.Math.ListN.{drop_of_length-le, length-drop}
use Rattle.std.proofs.Math.Seq.{drop-cons, get_or-take, get_or-drop, length-take-le}
use Rattle.std.proofs.lemmas.List.{take-append-le, drop-append-le}
use borrow.Author.Tests.{eq-eqb, ne_eqb}
use Rattle.refusals.specs.Verdicts.{clear, refuse, first_of}
use Rattle.sheet.specs.Record.{record_size, record_count, record_at, conjugate_in, polynomial_in}
use Rattle.sheet.specs.Orders.{same, differ_rules, Shaped}
use Rattle.refusals.specs.declared.fault.Fault.TheVariants as faults

pub record Rebuilt (sheet : List ℕ) (f n a : ℕ) : Type 0 where
  pub shaped : Shaped sheet
  pub polynomial : f ≡ polynomial_in sheet
  pub count : n ≡ record_count sheet
  pub conjugate : a ≡ conjugate_in sheet 0

unfoldable pub differs : (sheet rebuilt : List ℕ) (i : ℕ) → Bool
differs sheet rebuilt i = not (same (record_at sheet i) (record_at rebuilt i))

unfoldable pub first_differing : (sheet rebuilt : List ℕ) (i k : ℕ) → ℕ
first_differing sheet rebuilt i zero = i
first_differing sheet rebuilt i (suc k) = cond (differs sheet rebuilt i) i (first_differing sheet rebuilt (i + 1) k)

-- ---- byte by byte

module _ (x y : List ℕ) (j : ℕ) where
  pub same-other : j < length x → j < length y → (get_or x j 0 ≡ get_or y j 0 → ⊥) → same (drop j x) (drop j y) ≡ false
  unfolding same
  same-other hx hy e = rw (drop-cons x j 0 hx, drop-cons y j 0 hy, ne_eqb (get_or x j 0) (get_or y j 0) e)

  pub same_next : j < length x → j < length y → get_or x j 0 ≡ get_or y j 0 → same (drop (j + 1) x) (drop (j + 1) y) ≡ same (drop j x) (drop j y)
  unfolding same
  same_next hx hy e = rw (drop-cons x j 0 hx, drop-cons y j 0 hy, eq-eqb (get_or x j 0) (get_or y j 0) e, add-one)

  pub same_end : length x ≤ j → length y ≤ j → same (drop j x) (drop j y) ≡ true
  unfolding same
  same_end hx hy = rw (drop_of_length-le x {i = j} hx, drop_of_length-le y {i = j} hy)

module _ (sheet : List ℕ) (i : ℕ) where
  pub record_at_byte : (k : ℕ) → k < record_size → get_or (record_at sheet i) k 0 ≡ get_or sheet (record_size * i + k) 0
  unfolding record_at
  record_at_byte k h = get_or-take record_size (drop (record_size * i) sheet) k 0 h ∙ get_or-drop (record_size * i) sheet k 0

  pub record_at-length : record_size * i + record_size ≤ length sheet → length (record_at sheet i) ≡ record_size
  unfolding record_at
  record_at-length h = length-take-le record_size (drop (record_size * i) sheet) (rw length-drop (omega arith))

  -- what stands after a sheet changes none of its records
  pub record_at-front : (rest : List ℕ) → record_size * i + record_size ≤ length sheet → record_at (sheet ++ rest) i ≡ record_at sheet i
  unfolding record_at
  record_at-front rest h =
      rw (drop-append-le (record_size * i) sheet rest (omega arith))
      (take-append-le record_size (drop (record_size * i) sheet) rest (rw length-drop (omega arith)))

-- ---- record by record

module _ (sheet rebuilt : List ℕ) (i n : ℕ) where
  pub differ-found : i < n → differs sheet rebuilt i ≡ true → first_differing sheet rebuilt i (n - i) ≡ i
  unfolding first_differing
  differ-found h e = let s : n - i ≡ suc (n - (i + 1)) = omega arith in rw (s, e)

  pub differ_passed : i < n → differs sheet rebuilt i ≡ false → first_differing sheet rebuilt (i + 1) (n - (i + 1)) ≡ first_differing sheet rebuilt i (n - i)
  unfolding first_differing
  differ_passed h e = let s : n - i ≡ suc (n - (i + 1)) = omega arith in rw (s, e)

  pub differ-none : n ≤ i → first_differing sheet rebuilt i (n - i) ≡ i
  unfolding first_differing
  differ-none h = let s : n - i ≡ 0 = omega arith in rw s

pub differing_front : (sheet rebuilt rest : List ℕ) (i k : ℕ) → record_size * (i + k) ≤ length rebuilt → first_differing sheet (rebuilt ++ rest) i k ≡ first_differing sheet rebuilt i k
unfolding first_differing differs
differing_front sheet rebuilt rest i zero h = refl
differing_front sheet rebuilt rest i (suc k) h =
    rw (record_at-front rebuilt i rest (omega arith), differing_front sheet rebuilt rest (i + 1) k (omega arith))

-- ---- condition 10 by that record

pub differ_verdict : (sheet rebuilt : List ℕ) (i k : ℕ) → first_differing sheet rebuilt i k < i + k → first_of (differ_rules sheet rebuilt i k) ≡ refuse faults.Differs (first_differing sheet rebuilt i k)
unfolding first_differing differ_rules first_of differs
differ_verdict sheet rebuilt i zero h = absurd (omega arith)
differ_verdict sheet rebuilt i (suc k) h = go (differs sheet rebuilt i) refl (differ_verdict sheet rebuilt (i + 1) k)
  where
    go : (b : Bool) → differs sheet rebuilt i ≡ b → (first_differing sheet rebuilt (i + 1) k < i + 1 + k → first_of (differ_rules sheet rebuilt (i + 1) k) ≡ refuse faults.Differs (first_differing sheet rebuilt (i + 1) k))
        → first_of (differ_rules sheet rebuilt i (suc k)) ≡ refuse faults.Differs (first_differing sheet rebuilt i (suc k))
    go true e ih = rw e
    go false e ih = let l : first_differing sheet rebuilt (i + 1) k < i + suc k = rw e at h in rw e (ih (omega arith))

pub same_verdict : (sheet rebuilt : List ℕ) (i k : ℕ) → i + k ≤ first_differing sheet rebuilt i k → first_of (differ_rules sheet rebuilt i k) ≡ clear
unfolding first_differing differ_rules first_of differs
same_verdict sheet rebuilt i zero h = refl
same_verdict sheet rebuilt i (suc k) h = go (differs sheet rebuilt i) refl (same_verdict sheet rebuilt (i + 1) k)
  where
    go : (b : Bool) → differs sheet rebuilt i ≡ b → (i + 1 + k ≤ first_differing sheet rebuilt (i + 1) k → first_of (differ_rules sheet rebuilt (i + 1) k) ≡ clear)
        → first_of (differ_rules sheet rebuilt i (suc k)) ≡ clear
    go true e ih = let l : i + suc k ≤ i = rw e at h in absurd (omega arith)
    go false e ih = let l : i + suc k ≤ first_differing sheet rebuilt (i + 1) k = rw e at h in rw e (ih (omega arith))
