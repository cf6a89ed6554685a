-- Words as a designer types them, and what they mean.
-- Assumes nothing.
use Rattle.std.specs.Prelude.{◌≡◌, refl, [], ◌∷◌, ◌+◌, ◌^◌, None, Some}
use Rattle.words.specs.Notation.{worth, digits_only, value_after, spells, number_in, marked, number_of, ahead, parts, exponent, every_exponent, falling, powers, exponents_of, polynomial_of}

-- ---- numbers

-- "19"
pub decimal : number_of (49 ∷ 57 ∷ []) ≡ Some 19
unfolding worth digits_only value_after spells number_in marked number_of
decimal = refl

-- "0019"
pub leading_zeros : number_of (48 ∷ 48 ∷ 49 ∷ 57 ∷ []) ≡ Some 19
unfolding worth digits_only value_after spells number_in marked number_of
leading_zeros = refl

-- "18446744073709551615"
pub largest : number_of (49 ∷ 56 ∷ 52 ∷ 52 ∷ 54 ∷ 55 ∷ 52 ∷ 52 ∷ 48 ∷ 55 ∷ 51 ∷ 55 ∷ 48 ∷ 57 ∷ 53 ∷ 53 ∷ 49 ∷ 54 ∷ 49 ∷ 53 ∷ []) ≡ Some 18446744073709551615
unfolding worth digits_only value_after spells number_in marked number_of
largest = refl

-- "0x13"
pub hexadecimal : number_of (48 ∷ 120 ∷ 49 ∷ 51 ∷ []) ≡ Some 19
unfolding worth digits_only value_after spells number_in marked number_of
hexadecimal = refl

-- "0x1F"
pub hexadecimal_capital : number_of (48 ∷ 120 ∷ 49 ∷ 70 ∷ []) ≡ Some 31
unfolding worth digits_only value_after spells number_in marked number_of
hexadecimal_capital = refl

-- "0xaBf"
pub hexadecimal_mixed : number_of (48 ∷ 120 ∷ 97 ∷ 66 ∷ 102 ∷ []) ≡ Some 2751
unfolding worth digits_only value_after spells number_in marked number_of
hexadecimal_mixed = refl

-- ---- words that are no number

-- ""
pub empty : number_of [] ≡ None
unfolding worth digits_only value_after spells number_in marked number_of
empty = refl

-- "0x"
pub mark_alone : number_of (48 ∷ 120 ∷ []) ≡ None
unfolding worth digits_only value_after spells number_in marked number_of
mark_alone = refl

-- "0X13"
pub mark_capital : number_of (48 ∷ 88 ∷ 49 ∷ 51 ∷ []) ≡ None
unfolding worth digits_only value_after spells number_in marked number_of
mark_capital = refl

-- "0x1g"
pub no_digit : number_of (48 ∷ 120 ∷ 49 ∷ 103 ∷ []) ≡ None
unfolding worth digits_only value_after spells number_in marked number_of
no_digit = refl

-- "18446744073709551616"
pub too_large : number_of (49 ∷ 56 ∷ 52 ∷ 52 ∷ 54 ∷ 55 ∷ 52 ∷ 52 ∷ 48 ∷ 55 ∷ 51 ∷ 55 ∷ 48 ∷ 57 ∷ 53 ∷ 53 ∷ 49 ∷ 54 ∷ 49 ∷ 54 ∷ []) ≡ None
unfolding worth digits_only value_after spells number_in marked number_of
too_large = refl

-- "-1"
pub negative : number_of (45 ∷ 49 ∷ []) ≡ None
unfolding worth digits_only value_after spells number_in marked number_of
negative = refl

-- "1 "
pub space-after : number_of (49 ∷ 32 ∷ []) ≡ None
unfolding worth digits_only value_after spells number_in marked number_of
space-after = refl

-- "1f"
pub letters_unmarked : number_of (49 ∷ 102 ∷ []) ≡ None
unfolding worth digits_only value_after spells number_in marked number_of
letters_unmarked = refl

-- "4:1:0"
pub exponents_for_number : number_of (52 ∷ 58 ∷ 49 ∷ 58 ∷ 48 ∷ []) ≡ None
unfolding worth digits_only value_after spells number_in marked number_of
exponents_for_number = refl

-- ---- polynomials

-- "4:1:0"
pub exponents : polynomial_of (52 ∷ 58 ∷ 49 ∷ 58 ∷ 48 ∷ []) ≡ Some 19
unfolding worth digits_only value_after spells number_in marked number_of ahead parts exponent every_exponent falling powers exponents_of polynomial_of
exponents = refl

-- "46:1:0"
pub exponents_of_degree_46 : polynomial_of (52 ∷ 54 ∷ 58 ∷ 49 ∷ 58 ∷ 48 ∷ []) ≡ Some (2 ^ 46 + 3)
unfolding worth digits_only value_after spells number_in marked number_of ahead parts exponent every_exponent falling powers exponents_of polynomial_of
exponents_of_degree_46 = refl

-- "63:0"
pub highest_exponent : polynomial_of (54 ∷ 51 ∷ 58 ∷ 48 ∷ []) ≡ Some (2 ^ 63 + 1)
unfolding worth digits_only value_after spells number_in marked number_of ahead parts exponent every_exponent falling powers exponents_of polynomial_of
highest_exponent = refl

-- "19"
pub polynomial-decimal : polynomial_of (49 ∷ 57 ∷ []) ≡ Some 19
unfolding worth digits_only value_after spells number_in marked number_of ahead parts exponent every_exponent falling powers exponents_of polynomial_of
polynomial-decimal = refl

-- "0x13"
pub polynomial_hexadecimal : polynomial_of (48 ∷ 120 ∷ 49 ∷ 51 ∷ []) ≡ Some 19
unfolding worth digits_only value_after spells number_in marked number_of ahead parts exponent every_exponent falling powers exponents_of polynomial_of
polynomial_hexadecimal = refl

-- ---- words that are no polynomial

-- ""
pub nothing : polynomial_of [] ≡ None
unfolding worth digits_only value_after spells number_in marked number_of ahead parts exponent every_exponent falling powers exponents_of polynomial_of
nothing = refl

-- "1:1"
pub exponent_twice : polynomial_of (49 ∷ 58 ∷ 49 ∷ []) ≡ None
unfolding worth digits_only value_after spells number_in marked number_of ahead parts exponent every_exponent falling powers exponents_of polynomial_of
exponent_twice = refl

-- "1:2"
pub rising : polynomial_of (49 ∷ 58 ∷ 50 ∷ []) ≡ None
unfolding worth digits_only value_after spells number_in marked number_of ahead parts exponent every_exponent falling powers exponents_of polynomial_of
rising = refl

-- "64:0"
pub exponent_too_large : polynomial_of (54 ∷ 52 ∷ 58 ∷ 48 ∷ []) ≡ None
unfolding worth digits_only value_after spells number_in marked number_of ahead parts exponent every_exponent falling powers exponents_of polynomial_of
exponent_too_large = refl

-- "4:"
pub colon-last : polynomial_of (52 ∷ 58 ∷ []) ≡ None
unfolding worth digits_only value_after spells number_in marked number_of ahead parts exponent every_exponent falling powers exponents_of polynomial_of
colon-last = refl

-- ":4"
pub colon-first : polynomial_of (58 ∷ 52 ∷ []) ≡ None
unfolding worth digits_only value_after spells number_in marked number_of ahead parts exponent every_exponent falling powers exponents_of polynomial_of
colon-first = refl

-- "4::1"
pub colon_twice : polynomial_of (52 ∷ 58 ∷ 58 ∷ 49 ∷ []) ≡ None
unfolding worth digits_only value_after spells number_in marked number_of ahead parts exponent every_exponent falling powers exponents_of polynomial_of
colon_twice = refl

-- "0x4:1"
pub hexadecimal_exponent : polynomial_of (48 ∷ 120 ∷ 52 ∷ 58 ∷ 49 ∷ []) ≡ None
unfolding worth digits_only value_after spells number_in marked number_of ahead parts exponent every_exponent falling powers exponents_of polynomial_of
hexadecimal_exponent = refl
