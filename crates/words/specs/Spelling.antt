-- Words that spell a number: what such a word has, a smaller bound, and the mark 0x.
--
--   Spells base bound word   what `spells` tests, one by one
--
-- Assumes nothing.
use Rattle.std.proofs.Math.Path.{◌≡◌, refl}
use Rattle.std.proofs.Common.{sym, ◌∙◌, arith, length-drop, take_all}
use Rattle.std.specs.Prelude.{Bool, ◌&&◌, List, [], ◌∷◌, ℕ, ◌-◌, ◌^◌, ◌≤◌, ◌<◌, eqb, length, take, drop, None, Some}
use Rattle.std.proofs.Math.Bool.{true, false, cond, and-false}
use Rattle.std.proofs.Math.Dec.{ltb}
use borrow.Author.Tests.{lt-ltb, ltb-true}
use Rattle.words.specs.Notation.{digits_only, value, spells, number_in, marked, number_of}

pub both_true : (a b : Bool) → (a && b) ≡ true → (a ≡ true) × (b ≡ true)
both_true true b e = (refl, e)
both_true false b e = let z : ◌≡◌ {A = ℕ} 0 1 = cc in absurd (omega arith)

-- ---- what a word that spells a number has

pub record Spells (base bound : ℕ) (word : List ℕ) : Type 0 where
  pub some : 0 < length word
  pub digits : digits_only base word ≡ true
  pub below : value base word < bound

module _ (base bound : ℕ) (word : List ℕ) where
  pub spells_has : spells base bound word ≡ true → Spells base bound word
  unfolding spells
  spells_has e =
      let l = both_true (ltb 0 (length word)) (digits_only base word && ltb (value base word) bound) e in
      let r = both_true (digits_only base word) (ltb (value base word) bound) l.1 in
      record { some = ltb-true 0 (length word) l.0; digits = r.0; below = ltb-true (value base word) bound r.1 }

  pub has_spells : Spells base bound word → spells base bound word ≡ true
  unfolding spells
  has_spells s = rw (lt-ltb 0 (length word) s.some, s.digits, lt-ltb (value base word) bound s.below)

  pub number_spelled : (v : ℕ) → number_in base bound word ≡ Some v → Spells base bound word × (value base word ≡ v)
  unfolding number_in
  number_spelled v n = go (spells base bound word) refl
    where
      go : (b : Bool) → spells base bound word ≡ b → Spells base bound word × (value base word ≡ v)
      go true e = let m : Some (value base word) ≡ Some v = rw e at n in (spells_has e, cc)
      go false e =
          let m : None ≡ Some v = rw e at n in
          let z : ◌≡◌ {A = ℕ} 0 1 = cc in
          absurd (omega arith)

  pub number-below : (v : ℕ) → number_in base bound word ≡ Some v → v < bound
  number-below v n = let s = number_spelled v n in omega (arith, s.0.below, s.1)

  pub spelled_number : (v : ℕ) → Spells base bound word → value base word ≡ v → Some v ≡ number_in base bound word
  unfolding number_in
  spelled_number v s e = rw (has_spells s, e)

  pub unclear_unspelled : number_in base bound word ≡ None → spells base bound word ≡ false
  unfolding number_in
  unclear_unspelled n = go (spells base bound word) refl
    where
      go : (b : Bool) → spells base bound word ≡ b → spells base bound word ≡ false
      go true e =
          let m : Some (value base word) ≡ None = rw e at n in
          let z : ◌≡◌ {A = ℕ} 0 1 = cc in
          absurd (omega arith)
      go false e = e

  pub unspelled_unclear : (spells base bound word ≡ true → ⊥) → None ≡ number_in base bound word
  unfolding number_in
  unspelled_unclear h = go (spells base bound word) refl
    where
      go : (b : Bool) → spells base bound word ≡ b → None ≡ cond (spells base bound word) (Some (value base word)) None
      go true e = absurd (h e)
      go false e = rw e

-- ---- a smaller bound

module _ (base bound wide : ℕ) (word : List ℕ) where
  pub narrow_unclear : bound ≤ wide → number_in base wide word ≡ None → None ≡ number_in base bound word
  narrow_unclear l n = unspelled_unclear base bound word λ e.
      let s = spells_has base bound word e in
      let t : true ≡ false = sym (has_spells base wide word record { some = s.some; digits = s.digits; below = omega (arith, s.below) }) ∙ unclear_unspelled base wide word n in
      let z : ◌≡◌ {A = ℕ} 0 1 = cc in
      omega arith

  module _ (v : ℕ) (n : number_in base wide word ≡ Some v) where
    pub narrow_number : v < bound → Some v ≡ number_in base bound word
    narrow_number l =
        let p = number_spelled base wide word v n in
        spelled_number base bound word v record { some = p.0.some; digits = p.0.digits; below = omega (arith, p.1) } p.1

    pub narrow_large : bound ≤ v → None ≡ number_in base bound word
    narrow_large l = unspelled_unclear base bound word λ e.
        omega (arith, (spells_has base bound word e).below, (number_spelled base wide word v n).1)

-- ---- the mark 0x

pub marked-short : (word : List ℕ) → length word < 2 → false ≡ marked word
unfolding marked
marked-short [] h = refl
marked-short (a ∷ []) h = sym (and-false (eqb a 48))
marked-short (a ∷ (b ∷ bytes)) h = absurd (omega arith)

pub marked-long : (word : List ℕ) → marked word ≡ true → 2 ≤ length word
unfolding marked
marked-long [] e = let z : ◌≡◌ {A = ℕ} 0 1 = cc in absurd (omega arith)
marked-long (a ∷ []) e =
    let f : false ≡ true = sym (and-false (eqb a 48)) ∙ e in
    let z : ◌≡◌ {A = ℕ} 0 1 = cc in
    absurd (omega arith)
marked-long (a ∷ (b ∷ bytes)) e = omega arith

-- the part of the word from the third byte to the end
pub hexadecimal_number : (word : List ℕ) → marked word ≡ true → number_in 16 (2 ^ 64) (take (length word - 2) (drop 2 word)) ≡ number_of word
unfolding number_of
hexadecimal_number word e = rw (e, take_all (length word - 2) (drop 2 word) (omega (arith, length-drop 2 word)))

pub decimal-number : (word : List ℕ) → marked word ≡ false → number_in 10 (2 ^ 64) word ≡ number_of word
unfolding number_of
decimal-number word e = rw e
