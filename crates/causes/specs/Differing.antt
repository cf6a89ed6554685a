-- The first record that differs from the one rebuilt, and the first field in it.
--
--   Differing sheet rebuilt i k p   of k records from i on, p is the first that differs
--   differing_first, differ-place   so it is where 10 is refused, and its place is a record's
--   Bytes, record_held              entries below 256; a record of such is what its six numbers say
--   placed, before-rows             what 8 leaves of a sheet of good shape: all before the rows is right, and as it is rebuilt
--   rows_right                      a record whose three rows are right too is the one rebuilt
--
-- Assumes nothing.
use Rattle.std.specs.Prelude.{◌≡◌, refl, true, false, ◌||◌, length, get_or}
use Rattle.std.proofs.Math.Path.{sym, ap}
use Rattle.std.proofs.Common.{◌∙◌, drop-drop, length-take-le, get_or-take}
use Rattle.std.proofs.Math.Logic.{⊎_elim}
use Rattle.std.proofs.Math.Bool.{Bool, not}
use mathlib.Core.List.{List, [], ◌∷◌, ◌++◌}
use Prim.Native.Nat.{ℕ, zero, suc, ◌+◌, ◌*◌, ◌/◌, ◌%◌, ◌≤◌, ◌<◌}
use native.Mathlib.Omega.{arith}
use Rattle.std.proofs.Math.Dec.{eqb}
use Rattle.std.proofs.Math.ListN.{take, drop, length-drop, get_or-eq_default}
use Rattle.std.proofs.Math.Seq.{take-add, get_or-drop}
use borrow.Author.Tests.{eqb-true, not-false}
use Rattle.gf2.specs.Numbers.{order}
use Rattle.gf2.specs.Truth.{bool_cases, or_false}
use Rattle.refusals.specs.Verdicts.{Rule, refuse, first_of}
use Rattle.refusals.specs.Orders.{refuse_not_clear, first-none, first-applies, first_passes}
use Rattle.refusals.specs.Telling.{refuse-parts}
use Rattle.sheet.specs.Record.{record_size, record_count, column_in, record_at, degree_in, row_in, tail_in, conjugate_in, inverse_in, table_in, polynomial_in, bytes_of, number_in, record_bytes, tail_of, sheet_bytes}
use Rattle.sheet.specs.Orders.{Shaped, same, misplaced, differ_rules, rebuilt_from}
use Rattle.normal.specs.Normal.{conjugates, inverse_rows, table_rows}
use Rattle.sheet.specs.Columns.{record_at_written}
use Rattle.sheet.specs.Sheets.{Based}
use Rattle.sheet.proofs.Issuing.{based-degree, based-two, based-most, based-free}
use Rattle.sheet.specs.Written.{same_equal}
use Rattle.sheet.proofs.Written.{degree_is, row_is, tail_is, conjugate_is, inverse_is, table_is}
use Rattle.refusals.specs.declared.fault.Fault.TheVariants as faults

-- ---- the first record

pub record Differing (sheet rebuilt : List ℕ) (i k p : ℕ) : Type 0 where
  pub from : i ≤ p
  pub below : p < i + k
  pub before : (j : ℕ) → i ≤ j → j < p → record_at sheet j ≡ record_at rebuilt j
  pub other : same (record_at sheet p) (record_at rebuilt p) ≡ false

module _ (sheet rebuilt : List ℕ) where
  abbrev rule : ℕ → Rule
  rule i = record { fault = faults.Differs; place = i; applies = not (same (record_at sheet i) (record_at rebuilt i)) }

  pub differing_first : (k i p : ℕ) → first_of (differ_rules sheet rebuilt i k) ≡ refuse faults.Differs p → Differing sheet rebuilt i k p
  unfolding differ_rules
  differing_first zero i p e = absurd (refuse_not_clear faults.Differs p (sym e ∙ first-none))
  differing_first (suc k) i p e =
      ⊎_elim
      (λ (t : same (record_at sheet i) (record_at rebuilt i) ≡ true).
      let d : Differing sheet rebuilt (i + 1) k p = differing_first k (i + 1) p (sym (first_passes (rule i) (differ_rules sheet rebuilt (i + 1) k) (rw t)) ∙ e) in
      record {
        from = omega (arith, d.from);
        below = omega (arith, d.below);
        before = λ j l h.
            ⊎_elim
            (λ (u : j < i + 1). let z : j ≡ i = omega arith in rw z (same_equal (record_at sheet i) (record_at rebuilt i) t))
            (λ (u : i + 1 ≤ j). d.before j u h)
            (order j (i + 1));
        other = d.other;
      })
      (λ (t : same (record_at sheet i) (record_at rebuilt i) ≡ false).
      let z : i ≡ p = (refuse-parts faults.Differs i faults.Differs p (sym (first-applies (rule i) (differ_rules sheet rebuilt (i + 1) k) (rw t)) ∙ e)).1 in
      record { from = omega arith; below = omega arith; before = λ j l h. absurd (omega arith); other = rw z at t })
      (bool_cases (same (record_at sheet i) (record_at rebuilt i)))

  pub differ-place : (n p : ℕ) → first_of (differ_rules sheet rebuilt 0 n) ≡ refuse faults.Differs p → p < n
  differ-place n p e = omega (arith, (differing_first n 0 p e).below)

-- ---- a record is its six numbers

-- the entries are bytes, as those of every lent slice of bytes are
abbrev pub Bytes : List ℕ → Type 0
Bytes sheet = (i : ℕ) → get_or sheet i 0 < 256

bytes-held : (size : ℕ) (l : List ℕ) → length l ≡ size → Bytes l → bytes_of size (number_in l) ≡ l
unfolding bytes_of number_in
bytes-held zero [] e b = refl
bytes-held zero (x ∷ l) e b = absurd (omega arith)
bytes-held (suc size) [] e b = absurd (omega arith)
bytes-held (suc size) (x ∷ l) e b =
    let h : x < 256 = b 0 in
    let low : (x + 256 * number_in l) % 256 ≡ x = omega arith in
    let high : (x + 256 * number_in l) / 256 ≡ number_in l = omega arith in
    rw (low, high) (ap (λ (m : List ℕ). x ∷ m) (bytes-held size l (omega arith) (λ i. b (suc i))))

module _ (sheet : List ℕ) (bytes : Bytes sheet) where
  column_held : (i at size : ℕ) → record_size * i + at + size ≤ length sheet → bytes_of size (column_in sheet i at size) ≡ take size (drop (record_size * i + at) sheet)
  unfolding column_in
  column_held i at size fits =
      let m : ℕ = record_size * i + at in
      bytes-held size (take size (drop m sheet)) (length-take-le size (drop m sheet) (rw length-drop (omega arith)))
      (λ j.
      ⊎_elim
      (λ (u : j < size). rw (get_or-take size (drop m sheet) j 0 u, get_or-drop m sheet j 0) (bytes (m + j)))
      (λ (u : size ≤ j). rw (get_or-eq_default (take size (drop m sheet)) 0 {n = j} (rw (length-take-le size (drop m sheet) (rw length-drop (omega arith))) u)) (omega arith))
      (order j size))

  pub record_held : (i : ℕ) → record_size * i + record_size ≤ length sheet
      → record_at sheet i ≡ record_bytes (degree_in sheet i) (row_in sheet i) (tail_in sheet i) (conjugate_in sheet i) (inverse_in sheet i) (table_in sheet i)
  unfolding record_at record_bytes
  record_held i fits =
      let l : List ℕ = drop (record_size * i) sheet in
      let part : (at size : ℕ) → at + size ≤ record_size → take size (drop at l) ≡ bytes_of size (column_in sheet i at size) =
      λ at size h. ap (take size) (drop-drop at (record_size * i) sheet) ∙ sym (column_held i at size (omega arith)) in
      six_parts l ∙ rw (part 0 1 (omega arith), part 1 1 (omega arith), part 2 6 (omega arith), part 8 8 (omega arith), part 16 8 (omega arith), part 24 8 (omega arith))
    where
      six_parts : (l : List ℕ) → take record_size l
          ≡ take 1 (drop 0 l) ++ take 1 (drop 1 l) ++ take 6 (drop 2 l) ++ take 8 (drop 8 l) ++ take 8 (drop 16 l) ++ take 8 (drop 24 l)
      six_parts l =
          take-add 24 8 l
          ∙ ap (λ (x : List ℕ). x ++ take 8 (drop 24 l))
          (take-add 16 8 l
          ∙ ap (λ (x : List ℕ). x ++ take 8 (drop 16 l))
          (take-add 8 8 l
          ∙ ap (λ (x : List ℕ). x ++ take 8 (drop 8 l)) (take-add 2 6 l ∙ ap (λ (x : List ℕ). x ++ take 6 (drop 2 l)) (take-add 1 1 l))))

-- ---- a sheet of good shape

module _ (sheet : List ℕ) (z : Shaped sheet) (i : ℕ) (h : i < record_count sheet) where
  -- what 8 leaves: all before the rows is right
  pub placed : (degree_in sheet i ≡ record_count sheet) × (row_in sheet i ≡ i) × (tail_in sheet i ≡ tail_in sheet 0)
  unfolding misplaced
  placed =
      let d : Bool = eqb (degree_in sheet i) (record_count sheet) in
      let r : Bool = eqb (row_in sheet i) i in
      let t : Bool = eqb (tail_in sheet i) (tail_in sheet 0) in
      let x = or_false (not d || not r) (not t) (z.places i h) in
      let y = or_false (not d) (not r) x.0 in
      (eqb-true (degree_in sheet i) (record_count sheet) (not-false d y.0), eqb-true (row_in sheet i) i (not-false r y.1), eqb-true (tail_in sheet i) (tail_in sheet 0) (not-false t x.1))

  module _ (b : Based (polynomial_in sheet) (record_count sheet) (conjugate_in sheet 0)) where
    abbrev f : ℕ
    f = polynomial_in sheet

    abbrev n : ℕ
    n = record_count sheet

    abbrev a : ℕ
    a = conjugate_in sheet 0

    tail_rebuilt : tail_of f n ≡ tail_in sheet 0
    tail_rebuilt = omega arith

    -- and so it is in the sheet rebuilt
    pub before-rows : (degree_in sheet i ≡ degree_in (rebuilt_from sheet) i) × (row_in sheet i ≡ row_in (rebuilt_from sheet) i) × (tail_in sheet i ≡ tail_in (rebuilt_from sheet) i)
    before-rows =
        let deg = based-degree f n a b in
        let two = based-two f n a b in
        let most = based-most f n a b in
        let free = based-free f n a b in (
          placed.0 ∙ sym (degree_is f n a deg two most b.below free i h),
          placed.1 ∙ sym (row_is f n a deg two most b.below free i h),
          placed.2 ∙ sym (tail_is f n a deg two most b.below free i h ∙ tail_rebuilt),
        )

    -- a record whose three rows are right is the one rebuilt
    pub rows_right : Bytes sheet → conjugate_in sheet i ≡ conjugate_in (rebuilt_from sheet) i → inverse_in sheet i ≡ inverse_in (rebuilt_from sheet) i → table_in sheet i ≡ table_in (rebuilt_from sheet) i
        → record_at sheet i ≡ record_at (rebuilt_from sheet) i
    unfolding sheet_bytes
    rows_right bytes ec ev et =
        let deg = based-degree f n a b in
        let two = based-two f n a b in
        let most = based-most f n a b in
        let free = based-free f n a b in
        record_held sheet bytes i (omega (arith, z.size.whole))
        ∙ rw (
          placed.0,
          placed.1,
          placed.2 ∙ sym tail_rebuilt,
          ec ∙ conjugate_is f n a deg two most b.below free i h,
          ev ∙ inverse_is f n a deg two most b.below free i h,
          et ∙ table_is f n a deg two most b.below free i h,
        ) (sym (record_at_written n i n (tail_of f n) (conjugates f n a) (inverse_rows f n a) (table_rows f n a) h))
