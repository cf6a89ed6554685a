-- What `number_of` means, both ways: the words that mean the number v are its decimal numerals, and its hexadecimal numerals after 0x.
--
--   Numeral base bound word v   the word is one or more digits of the base, and their value is v, below the bound
--
-- Assumes nothing.
use Rattle.std.specs.Prelude.{◌≡◌, refl, ◌⊎◌, ◌↔◌, Bool, true, false, List, [], ◌∷◌, ℕ, zero, suc, ◌^◌, ◌<◌, ltb, eqb, length, get_or, take, drop, Some}
use Rattle.std.proofs.Common.{sym, inl, inr, suc-le-suc, le_of_suc-le-suc, not-suc-le-zero, arith, lt-ltb, ltb-true, eqb-true}
use Rattle.words.specs.Notation.{worth, digits_only, value, number_in, marked, number_of}
use Rattle.words.specs.Spelling.{both_true, number_spelled, spelled_number, marked-long}

pub record Numeral (base bound : ℕ) (word : List ℕ) (v : ℕ) : Type 0 where
  pub some : 0 < length word
  pub digits : (i : ℕ) → i < length word → worth (get_or word i 0) < base
  pub means : value base word ≡ v
  pub below : v < bound

-- ---- digits alone

pub digits-each : (base : ℕ) (word : List ℕ) → digits_only base word ≡ true → (i : ℕ) → i < length word → worth (get_or word i 0) < base
unfolding digits_only
digits-each base [] e i h = absurd (not-suc-le-zero h)
digits-each base (byte ∷ bytes) e zero h = ltb-true (worth byte) base (both_true (ltb (worth byte) base) (digits_only base bytes) e).0
digits-each base (byte ∷ bytes) e (suc i) h =
    digits-each base bytes (both_true (ltb (worth byte) base) (digits_only base bytes) e).1 i (le_of_suc-le-suc h)

pub each-digits : (base : ℕ) (word : List ℕ) → ((i : ℕ) → i < length word → worth (get_or word i 0) < base) → digits_only base word ≡ true
unfolding digits_only
each-digits base [] g = refl
each-digits base (byte ∷ bytes) g =
    rw (lt-ltb (worth byte) base (g 0 (omega arith))) (each-digits base bytes λ i h. g (suc i) (suc-le-suc h))

pub numeral_means : (base bound : ℕ) (word : List ℕ) (v : ℕ) → (number_in base bound word ≡ Some v) ↔ Numeral base bound word v
numeral_means base bound word v = (
  λ n.
      let s = number_spelled base bound word v n in
      record { some = s.0.some; digits = digits-each base word s.0.digits; means = s.1; below = omega (arith, s.0.below, s.1) },
  λ m. sym
      (spelled_number base bound word v
      record { some = m.some; digits = each-digits base word m.digits; below = omega (arith, m.means, m.below) }
      m.means),
)

-- ---- the mark

pub marked-means : (word : List ℕ) → (marked word ≡ true) ↔ (take 2 word ≡ 48 ∷ 120 ∷ [])
unfolding marked
marked-means [] = (λ e. let z : ◌≡◌ {A = ℕ} 0 1 = cc in absurd (omega arith), λ e. let z : ◌≡◌ {A = ℕ} 0 1 = cc in absurd (omega arith))
marked-means (a ∷ []) = (λ e. absurd (omega (arith, marked-long (a ∷ []) e)), λ e. let z : ◌≡◌ {A = ℕ} 0 1 = cc in absurd (omega arith))
marked-means (a ∷ (b ∷ bytes)) = (
  λ e.
      let t = both_true (eqb a 48) (eqb b 120) e in
      rw (eqb-true a 48 t.0, eqb-true b 120 t.1),
  λ e.
      let p : a ≡ 48 = cc in
      let q : b ≡ 120 = cc in
      rw (p, q),
)

-- ---- a number

-- `x` is no decimal digit
decimal-unmarked : (word : List ℕ) (v : ℕ) → Numeral 10 (2 ^ 64) word v → marked word ≡ true → ⊥
unfolding marked worth
decimal-unmarked word v m e =
    let x : get_or word 1 0 ≡ 120 = eqb-true (get_or word 1 0) 120 (both_true (eqb (get_or word 0 0) 48) (eqb (get_or word 1 0) 120) e).1 in
    let l : worth 120 < 10 = rw x at (m.digits 1 (marked-long word e)) in
    omega arith

pub number-means : (word : List ℕ) (v : ℕ)
    → (number_of word ≡ Some v) ↔ (Numeral 10 (2 ^ 64) word v ⊎ ((take 2 word ≡ 48 ∷ 120 ∷ []) × Numeral 16 (2 ^ 64) (drop 2 word) v))
unfolding number_of
number-means word v = (go (marked word) refl, back)
  where
    go : (b : Bool) → marked word ≡ b → number_of word ≡ Some v
        → Numeral 10 (2 ^ 64) word v ⊎ ((take 2 word ≡ 48 ∷ 120 ∷ []) × Numeral 16 (2 ^ 64) (drop 2 word) v)
    go true e n =
        let m : number_in 16 (2 ^ 64) (drop 2 word) ≡ Some v = rw e at n in
        inr ((marked-means word).0 e, (numeral_means 16 (2 ^ 64) (drop 2 word) v).0 m)
    go false e n =
        let m : number_in 10 (2 ^ 64) word ≡ Some v = rw e at n in
        inl ((numeral_means 10 (2 ^ 64) word v).0 m)

    unmarked : (b : Bool) → marked word ≡ b → Numeral 10 (2 ^ 64) word v → marked word ≡ false
    unmarked true e m = absurd (decimal-unmarked word v m e)
    unmarked false e m = e

    back : Numeral 10 (2 ^ 64) word v ⊎ ((take 2 word ≡ 48 ∷ 120 ∷ []) × Numeral 16 (2 ^ 64) (drop 2 word) v) → number_of word ≡ Some v
    back (inl m) = rw (unmarked (marked word) refl m) ((numeral_means 10 (2 ^ 64) word v).1 m)
    back (inr m) = rw ((marked-means word).1 m.0) ((numeral_means 16 (2 ^ 64) (drop 2 word) v).1 m.1)
