-- Reading digits one by one: a word is refused at the first byte that is no digit, and at the first digit with which the value
-- reaches the bound, because a value never falls again.
--
--   within base bound before word   what the digits left mean after a value that was read
--   more_by base before byte         the value with one more digit, below 2 ^ 64
--
-- Assumes nothing.
use Rattle.std.proofs.Math.Path.{◌≡◌, refl}
use Rattle.std.specs.Prelude.{◌⊎◌, Bool, cond, ◌&&◌, List, [], ◌∷◌, ℕ, suc, ◌+◌, ◌-◌, ◌*◌, ◌/◌, ◌^◌, ◌≤◌, ◌<◌, length, get_or, drop, Option, None, Some}
use Rattle.std.proofs.Math.Logic.{⊎_elim}
use Rattle.std.proofs.Math.Bool.{true, false, and-false}
use Rattle.std.proofs.Common.{div-lt_iff_lt-mul, le-div_iff_mul-le, mul-le-mul_left, add-one, arith, drop_of_length-le, drop-cons}
use Rattle.std.proofs.Math.Dec.{ltb}
use borrow.Author.Tests.{lt-ltb, le-ltb, ltb-true, ltb-false, le-leb, lt-leb}
use Rattle.words.specs.Notation.{among, worth, digits_only, value_after, spells, number_in}

unfoldable pub within : (base bound before : ℕ) → List ℕ → Option ℕ
within base bound before word = cond (digits_only base word && ltb (value_after base before word) bound) (Some (value_after base before word)) None

unfoldable pub more_by : (base before byte : ℕ) → Option ℕ
more_by base before byte = cond (ltb (worth byte) base && ltb (before * base + worth byte) (2 ^ 64)) (Some (before * base + worth byte)) None

-- ---- what a byte is worth

module _ (first last byte : ℕ) where
  among-within : first ≤ byte → byte ≤ last → among first last byte ≡ true
  among-within l h = rw (le-leb first byte l, le-leb byte last h)

  among-before : byte < first → among first last byte ≡ false
  among-before h = rw (lt-leb first byte h)

  among-after : last < byte → among first last byte ≡ false
  among-after h = rw (lt-leb byte last h, and-false)

module _ (byte : ℕ) where
  pub worth-decimal : 48 ≤ byte → byte ≤ 57 → byte - 48 ≡ worth byte
  unfolding worth
  worth-decimal l h = rw (among-within 48 57 byte l h)

  pub worth_letter : 97 ≤ byte → byte ≤ 102 → byte - 97 + 10 ≡ worth byte
  unfolding worth
  worth_letter l h = rw (among-after 48 57 byte (omega arith), among-within 97 102 byte l h)

  pub worth_capital : 65 ≤ byte → byte ≤ 70 → byte - 65 + 10 ≡ worth byte
  unfolding worth
  worth_capital l h = rw (among-after 48 57 byte (omega arith), among-before 97 102 byte (omega arith), among-within 65 70 byte l h)

  pub worth-none : (byte < 48) ⊎ (57 < byte) → (byte < 97) ⊎ (102 < byte) → (byte < 65) ⊎ (70 < byte) → 16 ≡ worth byte
  unfolding worth
  worth-none a b c =
      let p : among 48 57 byte ≡ false = ⊎_elim (among-before 48 57 byte) (among-after 48 57 byte) a in
      let q : among 97 102 byte ≡ false = ⊎_elim (among-before 97 102 byte) (among-after 97 102 byte) b in
      let r : among 65 70 byte ≡ false = ⊎_elim (among-before 65 70 byte) (among-after 65 70 byte) c in
      rw (p, q, r)

-- ---- a value never falls

grows : (base before digit : ℕ) → 1 ≤ base → before ≤ before * base + digit
grows base before digit h = let m : before * 1 ≤ before * base = mul-le-mul_left before h in omega arith

pub value_grows : (base before : ℕ) (word : List ℕ) → 1 ≤ base → before ≤ value_after base before word
unfolding value_after
value_grows base before [] h = omega arith
value_grows base before (byte ∷ bytes) h =
    omega (arith, grows base before (worth byte) h, value_grows base (before * base + worth byte) bytes h)

-- ---- one more digit, as it is tested without a sum that wraps

module _ (base before digit byte : ℕ) (e : digit ≡ worth byte) where
  pub more_no_digit : base ≤ digit → None ≡ more_by base before byte
  unfolding more_by
  more_no_digit h = rw (le-ltb (worth byte) base (omega (arith, e)))

  module _ (large : 2 ≤ base) (small : base ≤ 16) (d : digit < base) where
    pub more_too_large : (2 ^ 64 - 1 - digit) / base < before → None ≡ more_by base before byte
    unfolding more_by
    more_too_large h =
        let m : 2 ^ 64 - 1 - digit < before * base = (div-lt_iff_lt-mul {k = base} {x = 2 ^ 64 - 1 - digit} {y = before} (omega arith)).0 h in
        rw (lt-ltb (worth byte) base (omega (arith, e)), le-ltb (before * base + worth byte) (2 ^ 64) (omega (arith, e)))

    pub more_fits : before ≤ (2 ^ 64 - 1 - digit) / base → before * base + digit < 2 ^ 64
    more_fits h =
        let m : before * base ≤ 2 ^ 64 - 1 - digit = (le-div_iff_mul-le {k = base} {x = before} {y = 2 ^ 64 - 1 - digit} (omega arith)).0 h in
        omega arith

    pub more-number : before * base + digit < 2 ^ 64 → Some (before * base + digit) ≡ more_by base before byte
    unfolding more_by
    more-number h =
        rw (e, lt-ltb (worth byte) base (omega (arith, e)), lt-ltb (before * base + worth byte) (2 ^ 64) (omega (arith, e)))

-- ---- the digits left

module _ (base before byte : ℕ) (bytes : List ℕ) where
  left-more : (next : ℕ) → more_by base before byte ≡ Some next
      → (next < 2 ^ 64) × (within base (2 ^ 64) next bytes ≡ within base (2 ^ 64) before (byte ∷ bytes))
  unfolding more_by within digits_only value_after
  left-more next m = go (ltb (worth byte) base) (ltb (before * base + worth byte) (2 ^ 64)) refl refl
    where
      go : (a b : Bool) → ltb (worth byte) base ≡ a → ltb (before * base + worth byte) (2 ^ 64) ≡ b
          → (next < 2 ^ 64) × (within base (2 ^ 64) next bytes ≡ within base (2 ^ 64) before (byte ∷ bytes))
      go true true ea eb =
          let n : Some (before * base + worth byte) ≡ Some next = rw (ea, eb) at m in
          let q : next ≡ before * base + worth byte = cc in
          (rw q (ltb-true (before * base + worth byte) (2 ^ 64) eb), rw (q, ea))
      go true false ea eb =
          let n : None ≡ Some next = rw (ea, eb) at m in
          let z : ◌≡◌ {A = ℕ} 0 1 = cc in
          absurd (omega arith)
      go false b ea eb =
          let n : None ≡ Some next = rw ea at m in
          let z : ◌≡◌ {A = ℕ} 0 1 = cc in
          absurd (omega arith)

  left_stop : 1 ≤ base → more_by base before byte ≡ None → within base (2 ^ 64) before (byte ∷ bytes) ≡ None
  unfolding more_by within digits_only value_after
  left_stop h m = go (ltb (worth byte) base) (ltb (before * base + worth byte) (2 ^ 64)) refl refl
    where
      go : (a b : Bool) → ltb (worth byte) base ≡ a → ltb (before * base + worth byte) (2 ^ 64) ≡ b
          → within base (2 ^ 64) before (byte ∷ bytes) ≡ None
      go true true ea eb =
          let n : Some (before * base + worth byte) ≡ None = rw (ea, eb) at m in
          let z : ◌≡◌ {A = ℕ} 0 1 = cc in
          absurd (omega arith)
      go true false ea eb =
          let g : 2 ^ 64 ≤ value_after base (before * base + worth byte) bytes =
          omega (arith, value_grows base (before * base + worth byte) bytes h, ltb-false (before * base + worth byte) (2 ^ 64) eb) in
          rw (ea, le-ltb (value_after base (before * base + worth byte) bytes) (2 ^ 64) g, and-false)
      go false b ea eb = rw ea

-- ---- the turns of the loop

module _ (base before : ℕ) (word : List ℕ) (i : ℕ) where
  pub digits_more : (next : ℕ) → i < length word → more_by base before (get_or word i 0) ≡ Some next
      → (next < 2 ^ 64) × (within base (2 ^ 64) next (drop (i + 1) word) ≡ within base (2 ^ 64) before (drop i word))
  digits_more next h m = rw (drop-cons word i 0 h, add-one) (left-more base before (get_or word i 0) (drop (suc i) word) next m)

  pub digits_stop : 1 ≤ base → i < length word → more_by base before (get_or word i 0) ≡ None → within base (2 ^ 64) before (drop i word) ≡ None
  digits_stop l h m = rw (drop-cons word i 0 h) (left_stop base before (get_or word i 0) (drop (suc i) word) l m)

  pub digits-read : length word ≤ i → before < 2 ^ 64 → within base (2 ^ 64) before (drop i word) ≡ Some before
  unfolding within digits_only value_after
  digits-read h l = rw (drop_of_length-le word {i = i} h, lt-ltb before (2 ^ 64) l)

-- ---- a whole word

module _ (base bound : ℕ) (word : List ℕ) where
  pub word_empty : length word ≡ 0 → None ≡ number_in base bound word
  unfolding number_in spells
  word_empty e = rw e

  pub word_some : (length word ≡ 0 → ⊥) → within base bound 0 word ≡ number_in base bound word
  unfolding number_in spells within
  word_some h = rw (lt-ltb 0 (length word) (omega arith))
