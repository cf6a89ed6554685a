-- A number that `io` prints, in decimal or in hexadecimal after 0x, is read back as itself.
-- Assumes nothing.
use Rattle.std.specs.Prelude.{◌≡◌, Bool, true, false, List, [], ◌∷◌, ◌++◌, ltb, length, Some}
use Rattle.std.proofs.Math.Path.{refl}
use Rattle.std.proofs.Common.{◌∙◌, inl, inr, div-add-mod', div-lt_iff_lt-mul, mod-lt, arith, length-append, lt-ltb, ltb-true, ltb-false}
use Prim.Native.Nat.{ℕ, zero, suc, ◌+◌, ◌*◌, ◌/◌, ◌%◌, ◌^◌, ◌≤◌, ◌<◌}
use Rattle.std.proofs.Math.Nat.{pow-zero, pow-suc}
use Rattle.io.specs.Digits.{hex_digit_ascii, last_digits, IsDigitCount}
use Rattle.words.specs.Notation.{worth, digits_only, value_after, value, number_of}
use Rattle.words.specs.Digits.{worth-decimal, worth_letter}
use Rattle.words.specs.Spelling.{both_true}
use Rattle.words.specs.NumberMeaning.{digits-each, Numeral, number-means}

-- ---- one digit

worth_glyph : (d : ℕ) → d < 16 → worth (hex_digit_ascii d) ≡ d
worth_glyph d h = go (ltb d 10) refl
  where
    go : (b : Bool) → ltb d 10 ≡ b → worth (hex_digit_ascii d) ≡ d
    go true e = rw e (omega (arith, ltb-true d 10 e, worth-decimal (48 + d) (omega arith) (omega (arith, ltb-true d 10 e))))
    go false e = rw e (omega (arith, ltb-false d 10 e, worth_letter (87 + d) (omega (arith, ltb-false d 10 e)) (omega arith)))

-- ---- one digit after the others

value-last : (base before : ℕ) (word : List ℕ) (byte : ℕ) → value_after base before (word ++ (byte ∷ [])) ≡ value_after base before word * base + worth byte
unfolding value_after
value-last base before [] byte = refl
value-last base before (first ∷ word) byte = value-last base (before * base + worth first) word byte

digits_last : (base : ℕ) (word : List ℕ) (byte : ℕ) → digits_only base word ≡ true → worth byte < base → digits_only base (word ++ (byte ∷ [])) ≡ true
unfolding digits_only
digits_last base [] byte e h = rw (lt-ltb (worth byte) base h)
digits_last base (first ∷ word) byte e h =
    let t = both_true (ltb (worth first) base) (digits_only base word) e in
    rw t.0 (digits_last base word byte t.1 h)

-- ---- all digits

module _ (base : ℕ) (large : 2 ≤ base) (small : base ≤ 16) where
  worth-last : (v : ℕ) → worth (hex_digit_ascii (v % base)) ≡ v % base
  worth-last v = worth_glyph (v % base) (omega (arith, mod-lt v {m = base} (omega arith)))

  printed_size : (k v : ℕ) → length (last_digits base k v) ≡ k
  printed_size zero v = refl
  printed_size (suc k) v = rw (length-append (last_digits base k (v / base)) (hex_digit_ascii (v % base) ∷ []), printed_size k (v / base)) (omega arith)

  printed_digits : (k v : ℕ) → digits_only base (last_digits base k v) ≡ true
  unfolding digits_only
  printed_digits zero v = refl
  printed_digits (suc k) v =
      digits_last base (last_digits base k (v / base)) (hex_digit_ascii (v % base)) (printed_digits k (v / base)) (rw (worth-last v) (mod-lt v {m = base} (omega arith)))

  printed_value : (k v : ℕ) → v < base ^ k → value base (last_digits base k v) ≡ v
  unfolding value_after
  printed_value zero v h = omega (arith, pow-zero base)
  printed_value (suc k) v h =
      let p : base ^ suc k ≡ base ^ k * base = pow-suc base k in
      let l : v / base < base ^ k = (div-lt_iff_lt-mul {k = base} {x = v} {y = base ^ k} (omega arith)).1 (omega arith) in
      value-last base 0 (last_digits base k (v / base)) (hex_digit_ascii (v % base)) ∙ rw (printed_value k (v / base) l, worth-last v) (div-add-mod' v base)

  pub printed_numeral : (k v : ℕ) → 1 ≤ k → v < base ^ k → v < 2 ^ 64 → Numeral base (2 ^ 64) (last_digits base k v) v
  printed_numeral k v some h fits =
      record {
        some = omega (arith, printed_size k v);
        digits = digits-each base (last_digits base k v) (printed_digits k v);
        means = printed_value k v h;
        below = fits;
      }

-- ---- what is printed is read back

pub printed_decimal : (v k : ℕ) → v < 2 ^ 64 → IsDigitCount 10 1 v k → number_of (last_digits 10 k v) ≡ Some v
printed_decimal v k h f = (number-means (last_digits 10 k v) v).1 (inl (printed_numeral 10 (omega arith) (omega arith) k v f.0 f.1 h))

-- with zeros in front or without
pub printed_hexadecimal : (v least k : ℕ) → v < 2 ^ 64 → 1 ≤ least → IsDigitCount 16 least v k → number_of (48 ∷ (120 ∷ last_digits 16 k v)) ≡ Some v
printed_hexadecimal v least k h l f =
    (number-means (48 ∷ (120 ∷ last_digits 16 k v)) v).1
    (inr (refl, printed_numeral 16 (omega arith) (omega arith) k v (omega (arith, f.0)) f.1 h))
