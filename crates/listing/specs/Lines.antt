-- The lines of a listing, put part by part.
-- Assumes nothing.
use Rattle.std.specs.Prelude.{◌≡◌, List, ℕ, ◌+◌, ◌-◌, ◌^◌, ◌≤◌, ◌<◌, length, take, set}
use Rattle.std.proofs.Common.{◌∙◌, ⊎_elim, add-one, arith}
use Rattle.std.proofs.Math.Nat.{pow-le-pow_right}
use Rattle.gf2.specs.Numbers.{order}
use Rattle.io.specs.Counts.{IsPrefixLen}
use Rattle.io.specs.Digits.{last_digits, IsDigitCount}
use Rattle.sheet.specs.Record.{conjugate_in, inverse_in, table_in}
use Rattle.causes.specs.declared.answer.Field.{Field}
use Rattle.causes.specs.declared.answer.Field.TheVariants as field
use Rattle.causes.specs.declared.answer.Difference.{Difference}
use Rattle.listing.specs.Text.{space, newline, complexity_word, grade_word, refused_word, conjugate_word, inverse_word, table_word, field_word, number_then, row_line, row_lines, last_line, refused_line, difference_line_lem}
use Rattle.listing.specs.Decimal.{decimal-digits}
use Rattle.listing.specs.Room.{number_places, number_room, field_room}
use Rattle.listing.specs.Putting.{Put, put-none, put_then, put_mark}

-- ---- a number

-- a number below the power of the base has at most as many digits as the exponent says
pub few-digits : (b p v k : ℕ) → 1 < b → 0 < p → v < b ^ p → IsDigitCount b 1 v k → k ≤ p
few-digits b p v k base some h f =
    ⊎_elim
    (λ (u : k < p + 1). omega arith)
    (λ (u : p + 1 ≤ k). let m : b ^ p ≤ b ^ (k - 1) = pow-le-pow_right (omega arith) {i = p} {j = k - 1} (omega arith) in absurd (omega (arith, f.2 (omega arith))))
    (order k (p + 1))

-- a number of 64 bits has at most so many decimal digits
pub digits-few : (v k : ℕ) → v < 2 ^ 64 → IsDigitCount 10 1 v k → k ≤ number_places
digits-few v k h f = few-digits 10 number_places v k (omega arith) (omega arith) (omega arith) f

module _ (start spelled b : List ℕ) (at v k m mark : ℕ) (small : v < 2 ^ 64) (fewest : IsDigitCount 10 1 v k) (spells : take k spelled ≡ last_digits 10 k v)
    (counts : IsPrefixLen k spelled) (put : Put start at (take k spelled) b m) (fits : at + number_room ≤ length start) where
  pub number-ends : m ≤ at + number_places
  number-ends = omega (arith, put.ends, counts.1, digits-few v k small fewest)

  pub number_put : Put start at (number_then v mark) (set b m mark) (m + 1)
  unfolding number_then
  number_put = rw (spells ∙ decimal-digits v k fewest) at (put_mark put mark (omega (arith, number-ends)))

-- ---- lines

pub row_put : (sheet : List ℕ) (i : ℕ) {start t1 t2 t3 t4 : List ℕ} {at m1 m2 m3 m4 conjugate inverse table : ℕ}
    → conjugate ≡ conjugate_in sheet i → inverse ≡ inverse_in sheet i → table ≡ table_in sheet i
    → Put start at (number_then i space) t1 m1 → Put t1 m1 (number_then conjugate space) t2 m2
    → Put t2 m2 (number_then inverse space) t3 m3 → Put t3 m3 (number_then table newline) t4 m4
    → Put start at (row_line sheet i) t4 m4
unfolding row_line
row_put sheet i ec ev et p q r s = rw (← ec, ← ev, ← et) (put_then (put_then (put_then p q) r) s)

pub rows_none : (start sheet : List ℕ) (at : ℕ) → at ≤ length start → Put start at (row_lines sheet 0) start at
unfolding row_lines
rows_none start sheet at h = put-none start at h

pub rows_turn : (sheet : List ℕ) (i : ℕ) {start b c : List ℕ} {at m n : ℕ}
    → Put start at (row_lines sheet i) b m → Put b m (row_line sheet i) c n → Put start at (row_lines sheet (i + 1)) c n
unfolding row_lines
rows_turn sheet i p q = rw (add-one i) (put_then p q)

pub last-put : (complexity : ℕ) {start t1 t2 t3 t4 : List ℕ} {at m1 m2 m3 m4 grade number : ℕ} → number ≡ grade
    → Put start at complexity_word t1 m1 → Put t1 m1 (number_then complexity space) t2 m2
    → Put t2 m2 grade_word t3 m3 → Put t3 m3 (number_then number newline) t4 m4
    → Put start at (last_line complexity grade) t4 m4
unfolding last_line
last-put complexity e p q r s = rw (← e) (put_then (put_then (put_then p q) r) s)

pub refused-put : (number place : ℕ) {start t1 t2 t3 : List ℕ} {at m1 m2 m3 : ℕ}
    → Put start at refused_word t1 m1 → Put t1 m1 (number_then number space) t2 m2 → Put t2 m2 (number_then place newline) t3 m3
    → Put start at (refused_line number place) t3 m3
unfolding refused_line
refused-put number place p q r = put_then (put_then p q) r

pub field-short : (c : Field) → length (field_word c) ≤ field_room
unfolding field_word conjugate_word inverse_word table_word
field-short field.Conjugate = omega arith
field-short field.Inverse = omega arith
field-short field.Table = omega arith

pub difference_put : (d : Difference) {start t1 t2 t3 t4 : List ℕ} {at m1 m2 m3 m4 : ℕ}
    → Put start at (number_then d.place space) t1 m1 → Put t1 m1 (field_word d.field) t2 m2
    → Put t2 m2 (number_then d.stored space) t3 m3 → Put t3 m3 (number_then d.right newline) t4 m4
    → Put start at (difference_line_lem d) t4 m4
unfolding difference_line_lem
difference_put d p q r s = put_then (put_then (put_then p q) r) s
