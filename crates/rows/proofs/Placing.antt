-- The laws of `specs/Placing.antt` that a wrong definition breaks, and what rests on them. The head there tells of both files.
-- Assumes nothing.
use Rattle.std.specs.Prelude.{◌≡◌, List, ℕ, ◌+◌, ◌-◌, ◌*◌, ◌^◌, ◌≤◌, ◌<◌, length, set, get_or}
use Rattle.std.proofs.Common.{sym, ap, ap₂, ◌∙◌, ⊎_elim, zero-mul, one-mul, arith, pow_pos, pow_mono}
use Rattle.std.proofs.Math.Decide.{ℕ_discrete}
use Rattle.std.proofs.Math.Pow.{pow-lt}
use Rattle.gf2.specs.Poly.{◌⊕◌}
use Rattle.gf2.specs.Numbers.{order, pow-next}
use Rattle.gf2.specs.Steps.{bit-mul-lt}
use Rattle.gf2.specs.Sum.{zero-⊕, ⊕-zero, ⊕_self, ⊕_cancel, ⊕-lt, bit-⊕-mul}
use Rattle.rows.specs.Rows.{comb, Inverse}
use Rattle.rows.specs.Linear.{Linear, linear_ext, linear_same, linear_⊕}
use Rattle.rows.specs.Sums.{comb-⊕, comb-bit, comb-power, comb-lt}
use Rattle.rows.specs.Bits.{bit_of, ◌∩◌}
use Rattle.rows.specs.Sharing.{bit_of-lt, bit_of-⊕, bit_of-zero, bit_of-below, power-past, bit_of-power, bit_of-other, ∩-all, apart-bit}
use Rattle.rows.specs.Pivots.{ones-all, ones-more}
use Rattle.rows.specs.Added.{added, Placed, added-placed}
use Rattle.rows.specs.Insertion.{Inserted, Reduced}
use Rattle.rows.proofs.Insertion.{sums-all, idle-row}
use Rattle.rows.specs.Placing.{new-power, new_column, new_row, old-power, old_row}

-- ---- the row goes in

module _ {C : List ℕ} {n k : ℕ} {a b : List ℕ} {p : ℕ} (in_place : Inserted C n k a b p) {x t : ℕ} (r : Reduced C n k b p x t)
    {c : ℕ} (c_lt : c < n) (pivot : bit_of x c ≡ 1) {A B : List ℕ} (placed-a : Placed c x a a A) (placed-b : Placed c t a b B) where
  -- column c has no pivot yet
  column_none : 2 ^ c ∩ p ≡ 0
  column_none = new_column x p c r.clear pivot

  -- sums of the new names by those of the old
  new-names : (y : ℕ) → y < 2 ^ n → comb B y ≡ comb b y ⊕ bit_of (comb a y ⊕ y) c * t
  new-names =
      linear_ext (comb B) (λ y. comb b y ⊕ bit_of (comb a y ⊕ y) c * t) (comb-⊕ B)
      (linear_⊕ (comb b) (λ y. bit_of (comb a y ⊕ y) c * t) (comb-⊕ b) bit_linear) n
      (λ i h. comb-power B i ∙ at i (ℕ_discrete i c))
    where
      moved : Linear (λ y. comb a y ⊕ y)
      moved = linear_⊕ (comb a) (λ y. y) (comb-⊕ a) linear_same

      bit_linear : Linear (λ y. bit_of (comb a y ⊕ y) c * t)
      bit_linear v w =
          ap (λ (z : ℕ). bit_of z c * t) (moved v w)
          ∙ ap (λ (z : ℕ). z * t) (bit_of-⊕ (comb a v ⊕ v) (comb a w ⊕ w) c)
          ∙ bit-⊕-mul (bit_of (comb a v ⊕ v) c) (bit_of (comb a w ⊕ w) c) t (bit_of-lt (comb a v ⊕ v) c) (bit_of-lt (comb a w ⊕ w) c)

      bit_at : (i d : ℕ) → bit_of (2 ^ i) c ≡ d → bit_of (comb a (2 ^ i) ⊕ 2 ^ i) c ≡ bit_of (get_or a i 0) c ⊕ d
      bit_at i d e = bit_of-⊕ (comb a (2 ^ i)) (2 ^ i) c ∙ ap₂ (λ (u v : ℕ). bit_of u c ⊕ v) (comb-power a i) e

      at : (i : ℕ) → Dec (i ≡ c) → get_or B i 0 ≡ comb b (2 ^ i) ⊕ bit_of (comb a (2 ^ i) ⊕ 2 ^ i) c * t
      at i (yes e) =
          let one : bit_of (comb a (2 ^ c) ⊕ 2 ^ c) c ≡ 1 =
          bit_at c 1 (bit_of-power c) ∙ ap (λ (z : ℕ). bit_of z c ⊕ 1) (idle-row in_place c column_none) ∙ rw (bit_of-zero c) (zero-⊕ 1) in
          rw e (placed-b.new ∙ sym (ap₂ ◌⊕◌ (comb-power b c ∙ in_place.idle c column_none) (rw one (one-mul t)) ∙ zero-⊕ t))
      at i (no ne) =
          let same : bit_of (comb a (2 ^ i) ⊕ 2 ^ i) c ≡ bit_of (get_or a i 0) c = bit_at i 0 (bit_of-other i c ne) ∙ ⊕-zero _ in
          placed-b.old i ne ∙ sym (ap₂ (λ (u v : ℕ). u ⊕ v * t) (comb-power b i) same)

  -- the new names bring back the rows that were in, and the new one
  new-back : ((i : ℕ) → get_or C i 0 < 2 ^ n) → (j : ℕ) → j < k + 1 → comb B (get_or C j 0) ≡ 2 ^ j
  new-back rows-lt j h = ⊎_elim (λ (l : j < k). was_in l) (λ (l : k ≤ j). let e : j ≡ k = omega arith in rw e taken) (order j k)
    where
      was_in : j < k → comb B (get_or C j 0) ≡ 2 ^ j
      was_in l =
          let row : ℕ = get_or C j 0 in
          let back : comb b row ≡ 2 ^ j = in_place.back j l in
          let same : comb a row ≡ row = sums-all in_place row ∙ ap (comb C) back ∙ comb-power C j in
          new-names row (rows-lt j)
          ∙ ap₂ (λ (u v : ℕ). u ⊕ bit_of v c * t) back (ap (λ (v : ℕ). v ⊕ row) same ∙ ⊕_self row)
          ∙ rw (bit_of-zero c, zero-mul t) (⊕-zero (2 ^ j))

      taken : comb B (get_or C k 0) ≡ 2 ^ k
      taken =
          let row : ℕ = get_or C k 0 in
          let rest : comb a row ⊕ x ≡ row =
          ap₂ ◌⊕◌ (sums-all in_place row) r.name ∙ sym (comb-⊕ C (comb b row) t) ∙ ap (comb C) r.split ∙ comb-power C k in
          let left : comb a row ⊕ row ≡ x = ap (λ (v : ℕ). comb a row ⊕ v) (sym rest) ∙ ⊕_cancel (comb a row) x in
          new-names row (rows-lt k) ∙ ap (λ (v : ℕ). comb b row ⊕ v) (rw (left, pivot) (one-mul t)) ∙ r.split

  row_inserted : ((i : ℕ) → get_or C i 0 < 2 ^ n) → Inserted C n (k + 1) A B (p ⊕ 2 ^ c)
  row_inserted rows-lt =
      record {
        sums = λ i. sum-at i (ℕ_discrete i c);
        own = λ i h. own_at i h (ℕ_discrete i c);
        idle = λ i e. idle-at i e (ℕ_discrete i c);
        back = new-back rows-lt;
        names = λ i. name-at i (ℕ_discrete i c);
        columns = ⊕-lt n p (2 ^ c) in_place.columns (pow-lt c_lt);
        count = ones-more n c p c_lt (apart-bit x p c r.clear pivot) ∙ ap (λ (z : ℕ). z + 1) in_place.count;
      }
    where
      sum-at : (i : ℕ) → Dec (i ≡ c) → get_or A i 0 ≡ comb C (get_or B i 0)
      sum-at i (yes e) = rw e (placed-a.new ∙ r.name ∙ ap (comb C) (sym placed-b.new))
      sum-at i (no ne) =
          let d : ℕ = bit_of (get_or a i 0) c in
          placed-a.old i ne
          ∙ ap₂ ◌⊕◌ (in_place.sums i) (ap (λ (z : ℕ). d * z) r.name ∙ sym (comb-bit C d t (bit_of-lt (get_or a i 0) c)))
          ∙ sym (comb-⊕ C (get_or b i 0) (d * t))
          ∙ ap (comb C) (sym (placed-b.old i ne))

      own_at : (i : ℕ) → i < n → Dec (i ≡ c) → get_or A i 0 ∩ (p ⊕ 2 ^ c) ≡ 2 ^ i ∩ (p ⊕ 2 ^ c)
      own_at i h (yes e) =
          rw e (ap (λ (z : ℕ). z ∩ (p ⊕ 2 ^ c)) placed-a.new ∙ new_row x p c r.clear pivot ∙ sym (new-power x p c r.clear pivot))
      own_at i h (no ne) =
          ap (λ (z : ℕ). z ∩ (p ⊕ 2 ^ c)) (placed-a.old i ne)
          ∙ old_row x p c r.clear pivot (get_or a i 0)
          ∙ in_place.own i h
          ∙ sym (old-power x p c r.clear pivot i ne)

      idle-at : (i : ℕ) → 2 ^ i ∩ (p ⊕ 2 ^ c) ≡ 0 → Dec (i ≡ c) → get_or B i 0 ≡ 0
      idle-at i z (yes e) =
          let none : 2 ^ c ≡ 0 = sym (new-power x p c r.clear pivot) ∙ (rw e at z) in
          absurd (omega (arith, pow_pos c))
      idle-at i z (no ne) =
          let none : 2 ^ i ∩ p ≡ 0 = sym (old-power x p c r.clear pivot i ne) ∙ z in
          placed-b.old i ne
          ∙ ap₂ (λ (u v : ℕ). u ⊕ bit_of v c * t) (in_place.idle i none) (idle-row in_place i none)
          ∙ rw (bit_of-zero c, zero-mul t) (zero-⊕ 0)

      name-at : (i : ℕ) → Dec (i ≡ c) → get_or B i 0 < 2 ^ (k + 1)
      name-at i (yes e) = rw (e, placed-b.new, pow-next) r.high
      name-at i (no ne) =
          let h : t < 2 ^ (k + 1) = rw pow-next r.high in
          let up : 2 ^ k ≤ 2 ^ (k + 1) = pow_mono (omega arith) in
          rw (placed-b.old i ne)
          (⊕-lt (k + 1) (get_or b i 0) (bit_of (get_or a i 0) c * t)
          (omega (arith, in_place.names i))
          (bit-mul-lt (bit_of (get_or a i 0) c) t (2 ^ (k + 1)) (bit_of-lt (get_or a i 0) c) h))

-- ---- a turn: the first m rows have all the pivots, column c is cleared in them, and the row is put at c

pub insertion_turn : {C : List ℕ} {n k : ℕ} {a b : List ℕ} {p : ℕ} → Inserted C n k a b p → ((i : ℕ) → get_or C i 0 < 2 ^ n)
    → {x t : ℕ} → Reduced C n k b p x t → (c m z : ℕ) → bit_of x c ≡ 1 → p < 2 ^ m → length a ≡ z → length b ≡ z → n ≤ z → m ≤ z
    → Inserted C n (k + 1) (set (added m c x a a) c x) (set (added m c t a b) c t) (p ⊕ 2 ^ c)
insertion_turn {n} {a} {b} {p} in_place rows-lt {x} {t} r c m z pivot pm za zb nz mz =
    let c_lt : c < n = bit_of-below n x c r.small pivot in
    row_inserted in_place r c_lt pivot
    (added-placed c x a a m (omega arith) (omega arith) above)
    (added-placed c t a b m (omega arith) (omega arith) above)
    rows-lt
  where
    above : (i : ℕ) → m ≤ i → get_or a i 0 ≡ 0
    above i l = idle-row in_place i (power-past m i p l pm)

-- ---- the end

pub insertion_end : {C : List ℕ} {n k : ℕ} {a b : List ℕ} {p : ℕ} → Inserted C n k a b p → ((i : ℕ) → get_or C i 0 < 2 ^ n) → k ≡ n → Inverse C n b
insertion_end {C} {n} {a} {b} {p} in_place rows-lt e =
    record {
      shape = record { row_lt = λ i. rw e at (in_place.names i); rest = λ i l. in_place.idle i (power-past n i p l in_place.columns) };
      right = λ i h.
          sym (in_place.sums i)
          ∙ sym (∩-all n (get_or a i 0) (a_lt i))
          ∙ ap (λ (z : ℕ). get_or a i 0 ∩ z) (sym all)
          ∙ in_place.own i h
          ∙ ap (λ (z : ℕ). 2 ^ i ∩ z) all
          ∙ ∩-all n (2 ^ i) (pow-lt h);
      left = λ i h. in_place.back i (omega arith);
    }
  where
    all : p ≡ 2 ^ n - 1
    all = ones-all n p in_place.columns (in_place.count ∙ e)

    a_lt : (i : ℕ) → get_or a i 0 < 2 ^ n
    a_lt i = rw (in_place.sums i) (comb-lt n C rows-lt (get_or b i 0))
