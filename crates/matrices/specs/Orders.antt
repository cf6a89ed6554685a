-- The refusals of the calls on the text of the matrices (document 02, §4): "writing has those of reading a sheet, then 6 for a buffer below
-- n(n(n+1)+1) bytes; reading text has 1, 4, 2, 3, 5, then 14, text does not match, place the first wrong, missing or extra line counted from
-- 0". Definitions alone.
--
--   count_of b bytes                  how often a byte stands in a list
--   common x y                       the longest common beginning of two lists
--   common_lines x y                  the lines ended in it
--   text_room_rule, match_rule          the conditions: 6, for the buffer of a text; 14
--   write_text_order, read_text_order    the orders of the two calls; `match_order`: the end of the second
--
-- Assumes nothing.
use Rattle.std.specs.Prelude.{cond, not, List, [], ◌∷◌, ◌++◌, ℕ, ◌+◌, eqb, ltb}
use Rattle.gf2.specs.Poly.{degree}
use Rattle.refusals.specs.Verdicts.{Rule}
use Rattle.field.specs.Refusals.{operand_order, field_order}
use Rattle.sheet.specs.Record.{record_count}
use Rattle.sheet.specs.Orders.{same, normal_rule, read_order}
use Rattle.matrices.specs.Matrices.{line_end, matrices_text, text_size}
use Rattle.refusals.specs.declared.fault.Fault.TheVariants as faults

-- ---- the place of 14

unfoldable pub count_of : (b : ℕ) → List ℕ → ℕ
count_of b [] = 0
count_of b (x ∷ xs) = cond (eqb x b) 1 0 + count_of b xs

unfoldable pub common : (x y : List ℕ) → List ℕ
common [] ys = []
common (x ∷ xs) [] = []
common (x ∷ xs) (y ∷ ys) = cond (eqb x y) (x ∷ common xs ys) []

-- "the first wrong, missing or extra line counted from 0": its number is that of the lines before it, each right to its byte 10. So it is the
-- number of bytes 10 in the longest common beginning; whatever stands after the right text is line n(n+1)
unfoldable pub common_lines : (x y : List ℕ) → ℕ
common_lines x y = count_of line_end (common x y)

-- ---- the conditions

-- "6 for a buffer below n(n(n+1)+1) bytes"
abbrev pub text_room_rule : (n room : ℕ) → Rule
text_room_rule n room = record { fault = faults.NoRoom; place = 0; applies = ltb room (text_size n) }

-- "14, text does not match"
abbrev pub match_rule : (text right : List ℕ) → Rule
match_rule text right = record { fault = faults.OtherText; place = common_lines text right; applies = not (same text right) }

-- ---- the orders

-- "writing has those of reading a sheet, then 6"
abbrev pub write_text_order : (sheet : List ℕ) (room : ℕ) → List Rule
write_text_order sheet room = read_order sheet ++ (text_room_rule (record_count sheet) room ∷ [])

-- 5, then 14: what is decided once the basis is built
abbrev pub match_order : (f n a : ℕ) (text : List ℕ) → List Rule
match_order f n a text = normal_rule f n a ∷ match_rule text (matrices_text f n a) ∷ []

-- "reading text has 1, 4, 2, 3, 5, then 14"
abbrev pub read_text_order : (f a : ℕ) (text : List ℕ) → List Rule
read_text_order f a text = operand_order f (a ∷ []) ++ (field_order f ++ match_order f (degree f) a text)
