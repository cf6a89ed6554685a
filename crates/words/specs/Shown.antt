-- A number that std's formatting writes, by `{}` in decimal or by `{:#x}` in hexadecimal after 0x, is read back as itself: std writes the
-- digits that `io` prints. What is written is told by std's own definitions, those of its contracts.
--
--   DigitsThen base n after text   the text is the digits of n, without zeros in front, and what comes after them
--
-- Assumes nothing.
use Rattle.std.specs.Prelude.{◌≡◌, refl, Bool, true, false, List, [], ◌∷◌, ◌++◌, eqb, length, ℕ, zero, suc, ◌-◌, ◌*◌, ◌/◌, ◌%◌, ◌^◌, ◌<◌, ◌≤◌, Some}
use Rattle.std.specs.Option.{option_and_then}
use Rattle.std.specs.Fmt.{digits, digits_onto, decimal, digits_output, styled_digits_output, padded_integral, char_count, format_spec}
use Rattle.std.proofs.Common.{sym, ◌∙◌, append_assoc, append-nil, div-lt_iff_lt-mul, le-div_iff_mul-le, eqb-true, arith}
use Rattle.std.proofs.lemmas.Bool.{eqb-false}
use Rattle.std.proofs.Math.Nat.{zero-sub, pow-zero, pow-suc}
use Rattle.io.specs.Digits.{hex_digit_ascii, last_digits, IsDigitCount}
use Rattle.words.specs.Notation.{number_of}
use Rattle.words.specs.Printed.{printed_decimal, printed_hexadecimal}

abbrev pub DigitsThen : (base n : ℕ) (after text : List ℕ) → Type 0
DigitsThen base n after text = (k : ℕ) × IsDigitCount base 1 n k × (text ≡ last_digits base k n ++ after)

-- ---- std writes the digits that `io` prints

module _ (base : ℕ) (large : 2 ≤ base) where
  count_one : (n : ℕ) → n / base ≡ 0 → IsDigitCount base 1 n 1
  count_one n z =
      let l : n < base ^ 0 * base = (div-lt_iff_lt-mul {k = base} {x = n} {y = base ^ 0} (omega arith)).0 (omega (arith, pow-zero base)) in
      (omega arith, omega (arith, pow-suc base 0), λ a. absurd (omega arith))

  power_least : (m i : ℕ) → 0 < m → (1 < suc i → base ^ (suc i - 1) ≤ m) → base ^ i ≤ m
  power_least m zero some least = omega (arith, pow-zero base)
  power_least m (suc i) some least = let e : suc (suc i) - 1 ≡ suc i = omega arith in rw e at (least (omega arith))

  count_more : (n k : ℕ) → 0 < n / base → IsDigitCount base 1 (n / base) k → IsDigitCount base 1 n (suc k)
  count_more n zero some c = absurd (omega (arith, c.0))
  count_more n (suc i) some c =
      let e : suc (suc i) - 1 ≡ suc i = omega arith in
      let h : n < base ^ suc i * base = (div-lt_iff_lt-mul {k = base} {x = n} {y = base ^ suc i} (omega arith)).0 c.1 in
      let l : base ^ i * base ≤ n = (le-div_iff_mul-le {k = base} {x = base ^ i} {y = n} (omega arith)).0 (power_least (n / base) i some c.2) in
      (omega arith, omega (arith, pow-suc base (suc i)), λ a. rw e (omega (arith, pow-suc base i)))

  room_left : (m k : ℕ) → 0 < m → m < base ^ k → 0 < k
  room_left m zero some h = omega (arith, pow-zero base)
  room_left m (suc k) some h = omega arith

  onto_printed : (k n : ℕ) (after : List ℕ) → 0 < k → n < base ^ k → DigitsThen base n after (digits_onto k base false n after)
  onto_printed zero n after room h = absurd (omega arith)
  onto_printed (suc k) n after room h =
      let l : n / base < base ^ k = (div-lt_iff_lt-mul {k = base} {x = n} {y = base ^ k} (omega arith)).1 (omega (arith, pow-suc base k)) in
      go (eqb (n / base) 0) refl (λ m. onto_printed k (n / base) (hex_digit_ascii (n % base) ∷ after) (room_left (n / base) k m l) l)
    where
      go : (b : Bool) → eqb (n / base) 0 ≡ b
          → (0 < n / base → DigitsThen base (n / base) (hex_digit_ascii (n % base) ∷ after) (digits_onto k base false (n / base) (hex_digit_ascii (n % base) ∷ after)))
          → DigitsThen base n after (digits_onto (suc k) base false n after)
      go true e ih = (1, count_one n (eqb-true (n / base) 0 e), rw e refl)
      go false e ih =
          let m : 0 < n / base = omega (arith, eqb-false (n / base) 0 e) in
          let r = ih m in
          (suc r.0, count_more n r.0 m r.1, rw e (r.2 ∙ sym (append_assoc (last_digits base r.0 (n / base)) (hex_digit_ascii (n % base) ∷ []) after)))

  digits_whole : (v : ℕ) → digits base false v ≡ digits_onto 64 base false v []
  unfolding digits
  digits_whole v = refl

  pub shown_as_printed : (v : ℕ) → v < base ^ 64 → (k : ℕ) × IsDigitCount base 1 v k × (digits base false v ≡ last_digits base k v)
  shown_as_printed v h =
      let r = onto_printed 64 v [] (omega arith) h in
      (r.0, r.1, digits_whole v ∙ r.2 ∙ append-nil (last_digits base r.0 v))

-- ---- what is written is read back

pub shown_decimal : (v : ℕ) → v < 2 ^ 64 → number_of (decimal v) ≡ Some v
shown_decimal v h =
    let d = shown_as_printed 10 (omega arith) v (omega arith) in
    rw d.2 (printed_decimal v d.0 h d.1)

mark_written : (numeral : List ℕ) → padded_integral (format_spec 32 0 2 0 (2 ^ 64 - 1)) false (48 ∷ (120 ∷ [])) numeral ≡ 48 ∷ (120 ∷ numeral)
unfolding padded_integral char_count
mark_written numeral = rw (zero-sub (length numeral)) (rw (append-nil numeral))

-- a hole with the options of `{:#x}`, `#` alone, and the digits of v, as the clauses of std's `in_radix` and `laid_out` give them; they leave
-- its base open, from which the mark 0x comes
pub shown_hole : (v : ℕ) (hole : _) → v < 2 ^ 64 → digits_output hole ≡ Some (digits 16 false v) → hole.base ≡ 16
    → option_and_then number_of (styled_digits_output hole (format_spec 32 0 2 0 (2 ^ 64 - 1))) ≡ Some v
shown_hole v hole h e b =
    let d = shown_as_printed 16 (omega arith) v (omega arith) in
    rw (e, b, mark_written (digits 16 false v), d.2) (printed_hexadecimal v 1 d.0 h (omega arith) d.1)

-- the hole that the body of `in_radix` makes of v
pub shown_hexadecimal : (v : ℕ) → v < 2 ^ 64
    → option_and_then number_of (styled_digits_output (record { high = 0; low = v; base = 16; upper = false }) (format_spec 32 0 2 0 (2 ^ 64 - 1))) ≡ Some v
shown_hexadecimal v h = shown_hole v (record { high = 0; low = v; base = 16; upper = false }) h refl refl
