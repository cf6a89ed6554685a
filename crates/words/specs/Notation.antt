-- What a designer types: a word, as its bytes, and the 64-bit number that it means. Definitions alone. A word is one of
--
--   decimal       one or more digits `0` to `9`; leading zeros are allowed
--   hexadecimal   `0x`, and then one or more digits `0` to `9`, `a` to `f`, `A` to `F`
--   exponents     of polynomials only: two or more decimal numbers below 64, with one `:` between, strictly falling
--
-- The value is below 2 ^ 64, and any other word is unclear. `46:1:0` means 2 ^ 46 + 2 ^ 1 + 2 ^ 0.
--
--   among first last byte    the byte is one of those from first to last
--   worth byte               what a byte is worth as a digit; 16, which no base here has, where it is none
--   digits_only base word     every byte is a digit of the base
--   value_after base v word   the number that v and the digits after it spell
--   value base word          the number that the digits spell, the highest first
--   spells base bound word   the word is one or more digits, with a value below the bound
--   number_in base bound w    that value; any other word is unclear
--   marked word              the word begins with `0x`
--   number_of word            what a word means as a number
--   colon, ahead byte split  the mark between exponents; one more byte before the first part
--   parts word               the parts between the colons
--   exponent part            the part is a decimal number below 64
--   every_exponent split      every part is one
--   falling es               each is smaller than the one before
--   powers es                the sum of the powers of two with these exponents
--   exponents_of split        what the parts mean as exponents
--   polynomial_of word        what a word means as a polynomial
--
-- Assumes nothing.
use Rattle.std.specs.Prelude.{Bool, true, cond, ◌&&◌, List, [], ◌∷◌, map, ℕ, ◌+◌, ◌-◌, ◌*◌, ◌^◌, leb, ltb, eqb, length, get_or, drop, Option, None, Some}

-- ---- digits

-- the byte is one of those from first to last
abbrev pub among : (first last byte : ℕ) → Bool
among first last byte = leb first byte && leb byte last

-- `0` to `9` are worth 0 to 9; `a` to `f`, and `A` to `F`, 10 to 15
unfoldable pub worth : (byte : ℕ) → ℕ
worth byte = cond (among 48 57 byte) (byte - 48) (cond (among 97 102 byte) (byte - 97 + 10) (cond (among 65 70 byte) (byte - 65 + 10) 16))

unfoldable pub digits_only : (base : ℕ) → List ℕ → Bool
digits_only base [] = true
digits_only base (byte ∷ bytes) = ltb (worth byte) base && digits_only base bytes

-- the digits after a value that is there already: "4" after 23 is 234
unfoldable pub value_after : (base before : ℕ) → List ℕ → ℕ
value_after base before [] = before
value_after base before (byte ∷ bytes) = value_after base (before * base + worth byte) bytes

abbrev pub value : (base : ℕ) → List ℕ → ℕ
value base word = value_after base 0 word

-- "one or more digits", with a value below the bound
unfoldable pub spells : (base bound : ℕ) → List ℕ → Bool
spells base bound word = ltb 0 (length word) && (digits_only base word && ltb (value base word) bound)

unfoldable pub number_in : (base bound : ℕ) → List ℕ → Option ℕ
number_in base bound word = cond (spells base bound word) (Some (value base word)) None

-- ---- numbers

-- 48 is `0` and 120 is `x`; past a word's end `get_or` is 0
unfoldable pub marked : List ℕ → Bool
marked word = eqb (get_or word 0 0) 48 && eqb (get_or word 1 0) 120

-- "`0x` and then one or more digits"; a word without that mark is decimal
unfoldable pub number_of : List ℕ → Option ℕ
number_of word = cond (marked word) (number_in 16 (2 ^ 64) (drop 2 word)) (number_in 10 (2 ^ 64) word)

-- ---- exponents

-- `:`
abbrev pub colon : ℕ
colon = 58

-- one more byte, before the first part
unfoldable pub ahead : (byte : ℕ) → List (List ℕ) → List (List ℕ)
ahead byte [] = (byte ∷ []) ∷ []
ahead byte (part ∷ rest) = (byte ∷ part) ∷ rest

-- a word with k colons has k + 1 parts, and some may be empty
unfoldable pub parts : List ℕ → List (List ℕ)
parts [] = [] ∷ []
parts (byte ∷ bytes) = cond (eqb byte colon) ([] ∷ parts bytes) (ahead byte (parts bytes))

-- "decimal numbers, each below 64"
unfoldable pub exponent : List ℕ → Bool
exponent part = spells 10 64 part

unfoldable pub every_exponent : List (List ℕ) → Bool
every_exponent [] = true
every_exponent (part ∷ rest) = exponent part && every_exponent rest

-- "strictly falling"
unfoldable pub falling : List ℕ → Bool
falling [] = true
falling (e ∷ []) = true
falling (e ∷ (f ∷ es)) = ltb f e && falling (f ∷ es)

-- "`46:1:0` means 2^46 + 2^1 + 2^0"
unfoldable pub powers : List ℕ → ℕ
powers [] = 0
powers (e ∷ es) = 2 ^ e + powers es

-- the exponents, where every part is one and they fall
unfoldable pub exponents_of : List (List ℕ) → Option ℕ
exponents_of split =
    let es : List ℕ = map (value 10) split in
    cond (every_exponent split && falling es) (Some (powers es)) None

-- "two or more" parts are exponents; "a lone number without `:` is decimal, not an exponent"
unfoldable pub polynomial_of : List ℕ → Option ℕ
polynomial_of word = cond (ltb 1 (length (parts word))) (exponents_of (parts word)) (number_of word)
