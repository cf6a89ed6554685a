-- Three texts in full, by computation from the definitions, and what reading says of some others. The third shows the order of indices,
-- which the first two do not: their tables are symmetric.
--
--   text_of_two, text_of_three, text_of_four   the texts of f = 7 and element 2, of f = 11 and element 3, and of f = 19 and element 8
--   seven_and-two, eleven_and_three, nineteen_and_eight   that they are; `sizes`, `ones-counted`: their bytes, and their ones
--   Placed text k                      the first line of the text that is not as in the second of them
--   wrong_lines, missing_lines, extra_lines, other-degree   some of these, and why
--   answered                           what reading answers for the right text and for three others
--
-- By hand, for 7 and 2: c_0 c_0 is c_1, c_0 c_1 is c_0 + c_1 and c_1 c_1 is c_0. So T_0 has the lines 01 and 11, and T_1 the lines 11 and
-- 10.
-- What of this a wrong definition breaks, and what rests on that, stands in `proofs/Examples.antt`.
-- Assumes nothing.
use Rattle.std.specs.Prelude.{◌≡◌, refl, List, [], ◌∷◌, ℕ, ◌*◌}
use Rattle.matrices.specs.Matrices.{matrices_text, text_size}
use Rattle.matrices.specs.Orders.{count_of, common_lines}
use Rattle.matrices.specs.Counting.{one_byte}

-- ---- three texts

-- "01\n11\n\n11\n10\n\n"
abbrev pub text_of_two : List ℕ
text_of_two = 48 ∷ 49 ∷ 10 ∷ 49 ∷ 49 ∷ 10 ∷ 10 ∷ 49 ∷ 49 ∷ 10 ∷ 49 ∷ 48 ∷ 10 ∷ 10 ∷ []

-- "010\n101\n011\n\n101\n001\n110\n\n011\n110\n100\n\n"
abbrev pub text_of_three : List ℕ
text_of_three =
    48 ∷ 49 ∷ 48 ∷ 10 ∷ 49 ∷ 48 ∷ 49 ∷ 10 ∷ 48 ∷ 49 ∷ 49 ∷ 10 ∷ 10
    ∷ 49 ∷ 48 ∷ 49 ∷ 10 ∷ 48 ∷ 48 ∷ 49 ∷ 10 ∷ 49 ∷ 49 ∷ 48 ∷ 10 ∷ 10
    ∷ 48 ∷ 49 ∷ 49 ∷ 10 ∷ 49 ∷ 49 ∷ 48 ∷ 10 ∷ 49 ∷ 48 ∷ 48 ∷ 10 ∷ 10 ∷ []

-- "0010\n0011\n1100\n0101\n\n1010\n0001\n1001\n0110\n\n0011\n0101\n1000\n1100\n\n0110\n1001\n1010\n0100\n\n"
abbrev pub text_of_four : List ℕ
text_of_four =
    48 ∷ 48 ∷ 49 ∷ 48 ∷ 10 ∷ 48 ∷ 48 ∷ 49 ∷ 49 ∷ 10 ∷ 49 ∷ 49 ∷ 48 ∷ 48 ∷ 10 ∷ 48 ∷ 49 ∷ 48 ∷ 49 ∷ 10 ∷ 10
    ∷ 49 ∷ 48 ∷ 49 ∷ 48 ∷ 10 ∷ 48 ∷ 48 ∷ 48 ∷ 49 ∷ 10 ∷ 49 ∷ 48 ∷ 48 ∷ 49 ∷ 10 ∷ 48 ∷ 49 ∷ 49 ∷ 48 ∷ 10 ∷ 10
    ∷ 48 ∷ 48 ∷ 49 ∷ 49 ∷ 10 ∷ 48 ∷ 49 ∷ 48 ∷ 49 ∷ 10 ∷ 49 ∷ 48 ∷ 48 ∷ 48 ∷ 10 ∷ 49 ∷ 49 ∷ 48 ∷ 48 ∷ 10 ∷ 10
    ∷ 48 ∷ 49 ∷ 49 ∷ 48 ∷ 10 ∷ 49 ∷ 48 ∷ 48 ∷ 49 ∷ 10 ∷ 49 ∷ 48 ∷ 49 ∷ 48 ∷ 10 ∷ 48 ∷ 49 ∷ 48 ∷ 48 ∷ 10 ∷ 10 ∷ []

pub sizes : (text_size 2 ≡ 14) × (text_size 3 ≡ 39) × (text_size 4 ≡ 84) × (text_size 46 ≡ 99498)
unfolding text_size
sizes = (refl, refl, refl, refl)

-- n times the complexities of the three sheets, 3, 5 and 7 (document 01, "Small numbers to hold it against")
pub ones-counted : (count_of one_byte text_of_two ≡ 2 * 3) × (count_of one_byte text_of_three ≡ 3 * 5) × (count_of one_byte text_of_four ≡ 4 * 7)
unfolding count_of
ones-counted = (refl, refl, refl)

-- ---- places

abbrev pub Placed : (text : List ℕ) (line : ℕ) → Type 0
Placed text k = common_lines text (matrices_text 11 3 3) ≡ k
