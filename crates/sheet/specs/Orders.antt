-- The refusals of the calls on sheets (document 01, "Refusal numbers"; document 02, §1 and §6): the rows 5 to 11 of the table, row 4 for a
-- list, and 13, which §1 adds; and the orders of build, reading, converting, multiplying and dividing. Definitions alone.
--
--   .._rule, .._rules   the rows of the table; those that go record by record, or value by value
--   .._order          the orders of the calls, and parts of them
--   Sized, Shaped     what is left of a sheet if none of 7 to 9 applies
--   Fits, Small       what is left of a list if 11 does not apply, and if 4 does not
--
-- Assumes nothing.
use Rattle.std.specs.Prelude.{◌≡◌, Bool, true, false, not, ◌&&◌, ◌||◌, List, [], ◌∷◌, ◌++◌, ℕ, zero, suc, ◌+◌, ◌*◌, ◌/◌, ◌%◌, ◌^◌, ◌≤◌, ◌<◌, ltb, eqb, length, get_or}
use Rattle.gf2.specs.Limit.{limit}
use Rattle.gf2.specs.Poly.{degree}
use Rattle.refusals.specs.Verdicts.{Rule}
use Rattle.field.specs.Refusals.{too_large_lem, element_order, operand_order, field_order}
use Rattle.normal.specs.Normal.{normal}
use Rattle.sheet.specs.Record.{record_size, record_count, degree_in, row_in, tail_in, conjugate_in, inverse_in, table_in, record_at, polynomial_in, sheet_bytes}
use Rattle.refusals.specs.declared.fault.Fault.TheVariants as faults

-- ---- the rows of the table

-- "the element is not normal"
abbrev pub normal_rule : (f n a : ℕ) → Rule
normal_rule f n a = record { fault = faults.NotNormal; place = 0; applies = not (normal f n a) }

-- "buffer to be written is shorter than 32n bytes"
abbrev pub room_rule : (n room : ℕ) → Rule
room_rule n room = record { fault = faults.NoRoom; place = 0; applies = ltb room (record_size * n) }

-- "sheet length is not 32 times a count of 2 to 46"
unfoldable pub bad_length : (size : ℕ) → Bool
bad_length size = not (eqb (size % record_size) 0) || ltb (size / record_size) 2 || ltb limit (size / record_size)

abbrev pub length_rule : (sheet : List ℕ) → Rule
length_rule sheet = record { fault = faults.BadLength; place = 0; applies = bad_length (length sheet) }

-- "a record's degree is not the record count, its row number is not its place, or bytes 2-7 differ from record 0"
unfoldable pub misplaced : (sheet : List ℕ) (i : ℕ) → Bool
misplaced sheet i =
    not (eqb (degree_in sheet i) (record_count sheet)) || not (eqb (row_in sheet i) i) || not (eqb (tail_in sheet i) (tail_in sheet 0))

-- "bytes 2-7 or one of the three rows is 2^n or more"
unfoldable pub oversized : (sheet : List ℕ) (i : ℕ) → Bool
oversized sheet i =
    too_large_lem (record_count sheet) (tail_in sheet i) || too_large_lem (record_count sheet) (conjugate_in sheet i)
    || too_large_lem (record_count sheet) (inverse_in sheet i) || too_large_lem (record_count sheet) (table_in sheet i)

-- "records from 0 upward with 8 before 9 in each": k records from i on
unfoldable pub record_rules : (sheet : List ℕ) (i k : ℕ) → List Rule
record_rules sheet i zero = []
record_rules sheet i (suc k) =
    record { fault = faults.Misplaced; place = i; applies = misplaced sheet i }
    ∷ record { fault = faults.Oversized; place = i; applies = oversized sheet i }
    ∷ record_rules sheet (i + 1) k

-- two lists of bytes are equal
unfoldable pub same : List ℕ → List ℕ → Bool
same [] [] = true
same [] (y ∷ ys) = false
same (x ∷ xs) [] = false
same (x ∷ xs) (y ∷ ys) = eqb x y && same xs ys

-- "a record differs from the one rebuilt": "first such record"
unfoldable pub differ_rules : (sheet rebuilt : List ℕ) (i k : ℕ) → List Rule
differ_rules sheet rebuilt i zero = []
differ_rules sheet rebuilt i (suc k) =
    record { fault = faults.Differs; place = i; applies = not (same (record_at sheet i) (record_at rebuilt i)) } ∷ differ_rules sheet rebuilt (i + 1) k

-- the most values that a list may have
abbrev pub list_limit : ℕ
list_limit = 4096

-- "list lengths differ or exceed 4,096"
abbrev pub list_rule : (values room : ℕ) → Rule
list_rule values room = record { fault = faults.BadList; place = 0; applies = not (eqb values room) || ltb list_limit values }

-- a "coordinate number .. is 2^n or more": "first such index in a list", counted from i
unfoldable pub value_rules : (n i : ℕ) → List ℕ → List Rule
value_rules n i [] = []
value_rules n i (v ∷ vs) = record { fault = faults.TooLarge; place = i; applies = too_large_lem n v } ∷ value_rules n (i + 1) vs

-- "13, divisor or number to invert zero"
abbrev pub zero_rule : (v : ℕ) → Rule
zero_rule v = record { fault = faults.ZeroDivisor; place = 0; applies = eqb v 0 }

-- ---- the orders

-- build's order up to its last condition, which is decided when the basis is built
abbrev pub room_order : (f a room : ℕ) → List Rule
room_order f a room = operand_order f (a ∷ []) ++ (room_rule (degree f) room ∷ field_order f)

-- "Build: 1, 4, 6, 2, 3, 5."
abbrev pub build_order : (f a room : ℕ) → List Rule
build_order f a room = room_order f a room ++ (normal_rule f (degree f) a ∷ [])

-- "7, then records from 0 upward with 8 before 9 in each"
abbrev pub shape_order : (sheet : List ℕ) → List Rule
shape_order sheet = length_rule sheet ∷ record_rules sheet 0 (record_count sheet)

-- "2, 3, 5 for its polynomial and its record 0 conjugate"
abbrev pub basis_order : (f n a : ℕ) → List Rule
basis_order f n a = field_order f ++ (normal_rule f n a ∷ [])

-- the sheet that the polynomial and the record 0 conjugate of a sheet give
abbrev pub rebuilt_from : (sheet : List ℕ) → List ℕ
rebuilt_from sheet = sheet_bytes (polynomial_in sheet) (record_count sheet) (conjugate_in sheet 0)

-- "2, 3, 5 .., then 10": what rebuilding a sheet and comparing it can find
abbrev pub rebuild_order : (sheet : List ℕ) → List Rule
rebuild_order sheet =
    basis_order (polynomial_in sheet) (record_count sheet) (conjugate_in sheet 0) ++ differ_rules sheet (rebuilt_from sheet) 0 (record_count sheet)

-- "Reading a sheet: 7, 8 and 9 as above, then 2, 3, 5 .., then 10."
abbrev pub read_order : (sheet : List ℕ) → List Rule
read_order sheet = shape_order sheet ++ rebuild_order sheet

-- "Convert one, multiply through the sheet: 7, then records .., then 4."
abbrev pub value_order : (sheet values : List ℕ) → List Rule
value_order sheet values = shape_order sheet ++ element_order (record_count sheet) values

abbrev pub polynomial_order : (sheet : List ℕ) (coordinates : ℕ) → List Rule
polynomial_order sheet coordinates = value_order sheet (coordinates ∷ [])

-- converting from polynomials takes any word (document 02, §6): "4 leaves the orders of .. conversion from polynomials"
abbrev pub normal_order : (sheet : List ℕ) → List Rule
normal_order sheet = shape_order sheet

abbrev pub times_order : (sheet : List ℕ) (a b : ℕ) → List Rule
times_order sheet a b = value_order sheet (a ∷ b ∷ [])

-- the inverse and the quotient: the same, and then "13, .. after 4"
abbrev pub inverse_order : (sheet : List ℕ) (a : ℕ) → List Rule
inverse_order sheet a = value_order sheet (a ∷ []) ++ (zero_rule a ∷ [])

abbrev pub quotient_order : (sheet : List ℕ) (dividend divisor : ℕ) → List Rule
quotient_order sheet dividend divisor = value_order sheet (dividend ∷ divisor ∷ []) ++ (zero_rule divisor ∷ [])

-- "Convert a list: the same, with 11 before 4." What stands before 4, for a list of so many values
abbrev pub list_order : (sheet : List ℕ) (values room : ℕ) → List Rule
list_order sheet values room = shape_order sheet ++ (list_rule values room ∷ [])

abbrev pub polynomial_list_order : (sheet from : List ℕ) (room : ℕ) → List Rule
polynomial_list_order sheet from room = list_order sheet (length from) room ++ value_rules (record_count sheet) 0 from

-- "4 leaves the orders of .. conversion from polynomials"
abbrev pub normal_list_order : (sheet from : List ℕ) (room : ℕ) → List Rule
normal_list_order sheet from room = list_order sheet (length from) room

-- ---- what is left where no condition applies

-- after 7
pub record Sized (sheet : List ℕ) : Type 0 where
  pub whole : length sheet ≡ record_size * record_count sheet
  pub two : 2 ≤ record_count sheet
  pub most : record_count sheet ≤ limit

-- after 7, 8 and 9
pub record Shaped (sheet : List ℕ) : Type 0 where
  pub size : Sized sheet
  pub places : (i : ℕ) → i < record_count sheet → misplaced sheet i ≡ false
  pub small : (i : ℕ) → i < record_count sheet → oversized sheet i ≡ false

-- after 11, for a list of so many values whose destination has room for so many
pub record Fits (values room : ℕ) : Type 0 where
  pub lengths : values ≡ room
  pub most : values ≤ list_limit

-- after 4, for a list of coordinate numbers
abbrev pub Small : (n : ℕ) (from : List ℕ) → Type 0
Small n from = (i : ℕ) → i < length from → get_or from i 0 < 2 ^ n
