-- The numbers that each call's order has, as the documents list them, and the places that its table has for them ("Refusal numbers",
-- "Orders."; document 02, §1, §4 and §6): every rule of the order has such a number and such a place.
--
--   OnShape, OnValue, OnDivision, OnWords, OnList, OnReading, OnWritingText   the numbers and places of the calls on a sheet of m records
--   OnReadingText                                            those of reading a text of the matrices, for f of degree n
--     ..listed, ..positive                            an order has these, and none of the numbers is 0
--   field_orders, .._sequence                         the numbers of an order, one after another, are those that the documents list
--
-- Assumes nothing.
use Rattle.std.specs.Prelude.{◌≡◌, refl, ◌⊎◌, List, [], ◌∷◌, ◌++◌, ℕ, zero, suc, ◌+◌, ◌≤◌, ◌<◌, length, replicate}
use Rattle.std.proofs.Common.{ap, ◌∙◌, inl, inr, append_assoc, arith}
use Rattle.gf2.specs.Poly.{degree}
use Rattle.refusals.specs.Verdicts.{Rule}
use Rattle.field.specs.Refusals.{element_rule, multiply_order, square_order, trace_order, check_order}
use Rattle.sheet.specs.Record.{record_count, conjugate_in, polynomial_in}
use Rattle.sheet.specs.Orders.{record_rules, differ_rules, value_rules, list_rule, zero_rule, shape_order, basis_order, rebuilt_from, build_order, read_order, value_order, normal_order, list_order, polynomial_list_order, normal_list_order}
use Rattle.sheet.specs.Listed.{OnShape, OnReading}
use Rattle.sheet.proofs.Listed.{shape-listed, read-listed}
use Rattle.matrices.specs.Matrices.{matrices_text, line_count}
use Rattle.matrices.specs.Orders.{text_room_rule, match_rule, write_text_order, read_text_order}
use Rattle.matrices.specs.Judging.{based_order_lem, based-listed}
use Rattle.matrices.proofs.Places.{place-most}
use Rattle.search.specs.Answers.{search_order}
use Rattle.refusals.specs.Told.{AtZero, Below, Every, numbers_of}
use Rattle.refusals.specs.Telling.{every_append, every_also, listed-at-zero, at-zero-positive, below-positive}
use Rattle.refusals.specs.Verdicts.{fault_number}

-- ---- orders whose places are all 0

pub multiply-listed : (f : ℕ) → Every (AtZero (1 ∷ [])) (multiply_order f)
multiply-listed f = listed-at-zero (multiply_order f) refl

pub square-listed : (f : ℕ) → Every (AtZero (1 ∷ [])) (square_order f)
square-listed f = listed-at-zero (square_order f) refl

pub trace-listed : (f : ℕ) → Every (AtZero (1 ∷ 2 ∷ 3 ∷ [])) (trace_order f)
trace-listed f = listed-at-zero (trace_order f) refl

pub check-listed : (f : ℕ) → Every (AtZero (1 ∷ 2 ∷ 3 ∷ [])) (check_order f)
check-listed f = listed-at-zero (check_order f) refl

pub build-listed : (f a room : ℕ) → Every (AtZero (1 ∷ 4 ∷ 6 ∷ 2 ∷ 3 ∷ 5 ∷ [])) (build_order f a room)
build-listed f a room = listed-at-zero (build_order f a room) refl

pub search-listed : (f first last : ℕ) → Every (AtZero (1 ∷ 4 ∷ 12 ∷ 2 ∷ 3 ∷ [])) (search_order f first last)
search-listed f first last = listed-at-zero (search_order f first last) refl

-- ---- the calls on a sheet of m records: a record's number is its place

-- "then 4"
abbrev pub OnValue : (m : ℕ) → ℕ → ℕ → Type 0
OnValue m k p = AtZero (4 ∷ []) k p ⊎ OnShape m k p

-- "13, .. after 4"
abbrev pub OnDivision : (m : ℕ) → ℕ → ℕ → Type 0
OnDivision m k p = AtZero (13 ∷ []) k p ⊎ OnValue m k p

-- of a list of words 11 alone
abbrev pub OnWords : (m : ℕ) → ℕ → ℕ → Type 0
OnWords m k p = AtZero (11 ∷ []) k p ⊎ OnShape m k p

-- "with 11 before 4", which has the index in a list of l coordinate numbers as its place
abbrev pub OnList : (m l : ℕ) → ℕ → ℕ → Type 0
OnList m l k p = Below (4 ∷ []) l k p ⊎ OnWords m k p

-- "then 6"
abbrev pub OnWritingText : (m : ℕ) → ℕ → ℕ → Type 0
OnWritingText m k p = AtZero (6 ∷ []) k p ⊎ OnReading m k p

-- "1, 4, 2, 3, 5, then 14 .., place the first wrong, missing or extra line": at most the n(n+1) lines are right
abbrev pub OnReadingText : (n : ℕ) → ℕ → ℕ → Type 0
OnReadingText n k p = AtZero (1 ∷ 4 ∷ 2 ∷ 3 ∷ 5 ∷ []) k p ⊎ Below (14 ∷ []) (line_count n + 1) k p

values_listed : (n l i : ℕ) (values : List ℕ) → i + length values ≤ l → Every (Below (4 ∷ []) l) (value_rules n i values)
unfolding value_rules
values_listed n l i [] h = tt
values_listed n l i (v ∷ values) h = ((inl refl, omega arith), values_listed n l (i + 1) values (omega arith))

pub value-listed : (sheet values : List ℕ) → Every (OnValue (record_count sheet)) (value_order sheet values)
value-listed sheet values =
    let m : ℕ = record_count sheet in
    every_append (OnValue m) (shape_order sheet) (element_rule m values ∷ [])
    (every_also (OnShape m) (OnValue m) (λ k p h. inr h) (shape_order sheet) (shape-listed sheet)) (inl (inl refl, refl), tt)

-- the order of the inverse, where values is the number to invert, and of the quotient, where they are dividend and divisor
pub division_listed : (sheet values : List ℕ) (divisor : ℕ) → Every (OnDivision (record_count sheet)) (value_order sheet values ++ (zero_rule divisor ∷ []))
division_listed sheet values divisor =
    let m : ℕ = record_count sheet in
    every_append (OnDivision m) (value_order sheet values) (zero_rule divisor ∷ [])
    (every_also (OnValue m) (OnDivision m) (λ k p h. inr h) (value_order sheet values) (value-listed sheet values)) (inl (inl refl, refl), tt)

pub words_listed : (sheet : List ℕ) (values room : ℕ) → Every (OnWords (record_count sheet)) (list_order sheet values room)
words_listed sheet values room =
    let m : ℕ = record_count sheet in
    every_append (OnWords m) (shape_order sheet) (list_rule values room ∷ [])
    (every_also (OnShape m) (OnWords m) (λ k p h. inr h) (shape_order sheet) (shape-listed sheet)) (inl (inl refl, refl), tt)

pub list-listed : (sheet from : List ℕ) (room : ℕ) → Every (OnList (record_count sheet) (length from)) (polynomial_list_order sheet from room)
list-listed sheet from room =
    let m : ℕ = record_count sheet in
    let l : ℕ = length from in
    every_append (OnList m l) (list_order sheet l room) (value_rules m 0 from)
    (every_also (OnWords m) (OnList m l) (λ k p h. inr h) (list_order sheet l room) (words_listed sheet l room))
    (every_also (Below (4 ∷ []) l) (OnList m l) (λ k p h. inl h) (value_rules m 0 from) (values_listed m l 0 from (omega arith)))

pub write_listed : (sheet : List ℕ) (room : ℕ) → Every (OnWritingText (record_count sheet)) (write_text_order sheet room)
write_listed sheet room =
    let m : ℕ = record_count sheet in
    every_append (OnWritingText m) (read_order sheet) (text_room_rule m room ∷ [])
    (every_also (OnReading m) (OnWritingText m) (λ k p h. inr h) (read_order sheet) (read-listed sheet)) (inl (inl refl, refl), tt)

pub text_listed : (f a : ℕ) (text : List ℕ) → Every (OnReadingText (degree f)) (read_text_order f a text)
text_listed f a text =
    let n : ℕ = degree f in
    every_append (OnReadingText n) (based_order_lem f a) (match_rule text (matrices_text f n a) ∷ [])
    (every_also (AtZero (1 ∷ 4 ∷ 2 ∷ 3 ∷ 5 ∷ [])) (OnReadingText n) (λ k p h. inl h) (based_order_lem f a) (based-listed f a))
    (inr (inl refl, omega (arith, place-most f n a text)), tt)

-- ---- no number is 0

pub shape-positive : (m k p : ℕ) → OnShape m k p → 0 < k
shape-positive m k p (inl h) = at-zero-positive (7 ∷ []) refl k p h
shape-positive m k p (inr h) = below-positive (8 ∷ 9 ∷ []) m refl k p h

pub value-positive : (m k p : ℕ) → OnValue m k p → 0 < k
value-positive m k p (inl h) = at-zero-positive (4 ∷ []) refl k p h
value-positive m k p (inr h) = shape-positive m k p h

pub division_positive : (m k p : ℕ) → OnDivision m k p → 0 < k
division_positive m k p (inl h) = at-zero-positive (13 ∷ []) refl k p h
division_positive m k p (inr h) = value-positive m k p h

pub words_positive : (m k p : ℕ) → OnWords m k p → 0 < k
words_positive m k p (inl h) = at-zero-positive (11 ∷ []) refl k p h
words_positive m k p (inr h) = shape-positive m k p h

pub list-positive : (m l k p : ℕ) → OnList m l k p → 0 < k
list-positive m l k p (inl h) = below-positive (4 ∷ []) l refl k p h
list-positive m l k p (inr h) = words_positive m k p h

pub read-positive : (m k p : ℕ) → OnReading m k p → 0 < k
read-positive m k p (inl h) = at-zero-positive (2 ∷ 3 ∷ 5 ∷ []) refl k p h
read-positive m k p (inr (inl h)) = below-positive (10 ∷ []) m refl k p h
read-positive m k p (inr (inr h)) = shape-positive m k p h

pub write_positive : (m k p : ℕ) → OnWritingText m k p → 0 < k
write_positive m k p (inl h) = at-zero-positive (6 ∷ []) refl k p h
write_positive m k p (inr h) = read-positive m k p h

pub text_positive : (n k p : ℕ) → OnReadingText n k p → 0 < k
text_positive n k p (inl h) = at-zero-positive (1 ∷ 4 ∷ 2 ∷ 3 ∷ 5 ∷ []) refl k p h
text_positive n k p (inr h) = below-positive (14 ∷ []) (line_count n + 1) refl k p h

-- ---- the numbers one after another

-- "Multiply, square: 1, 4. Trace: 1, 4, 2, 3.", which 4 has left (document 02, §6); "Check of f: 1, 2, 3. Build: 1, 4, 6, 2, 3, 5. Search:
-- 1, 4, 12, 2, 3."
pub field_orders : (f a room first last : ℕ)
    → (numbers_of (multiply_order f) ≡ 1 ∷ []) × (numbers_of (square_order f) ≡ 1 ∷ []) × (numbers_of (trace_order f) ≡ 1 ∷ 2 ∷ 3 ∷ [])
    × (numbers_of (check_order f) ≡ 1 ∷ 2 ∷ 3 ∷ []) × (numbers_of (build_order f a room) ≡ 1 ∷ 4 ∷ 6 ∷ 2 ∷ 3 ∷ 5 ∷ [])
    × (numbers_of (search_order f first last) ≡ 1 ∷ 4 ∷ 12 ∷ 2 ∷ 3 ∷ [])
field_orders f a room first last = (refl, refl, refl, refl, refl, refl)

-- "records from 0 upward with 8 before 9 in each"
abbrev pub eight_nine : (records : ℕ) → List ℕ
eight_nine zero = []
eight_nine (suc k) = 8 ∷ 9 ∷ eight_nine k

numbers_append : (xs ys : List Rule) → numbers_of (xs ++ ys) ≡ numbers_of xs ++ numbers_of ys
numbers_append [] ys = refl
numbers_append (r ∷ xs) ys = ap (λ (l : List ℕ). fault_number r.fault ∷ l) (numbers_append xs ys)

records_sequence : (sheet : List ℕ) (i k : ℕ) → numbers_of (record_rules sheet i k) ≡ eight_nine k
unfolding record_rules
records_sequence sheet i zero = refl
records_sequence sheet i (suc k) = ap (λ (l : List ℕ). 8 ∷ 9 ∷ l) (records_sequence sheet (i + 1) k)

shape_then : (sheet : List ℕ) (rest : List Rule) → numbers_of (shape_order sheet ++ rest) ≡ 7 ∷ (eight_nine (record_count sheet) ++ numbers_of rest)
shape_then sheet rest =
    numbers_append (shape_order sheet) rest ∙ ap (λ (l : List ℕ). 7 ∷ (l ++ numbers_of rest)) (records_sequence sheet 0 (record_count sheet))

-- "7, then records ..", and for a word that is converted no more (document 02, §6)
pub normal_sequence : (sheet : List ℕ) → numbers_of (normal_order sheet) ≡ 7 ∷ eight_nine (record_count sheet)
normal_sequence sheet = ap (λ (l : List ℕ). 7 ∷ l) (records_sequence sheet 0 (record_count sheet))

-- "7, then records .., then 4"
pub value_sequence : (sheet values : List ℕ) → numbers_of (value_order sheet values) ≡ 7 ∷ (eight_nine (record_count sheet) ++ (4 ∷ []))
value_sequence sheet values = shape_then sheet (element_rule (record_count sheet) values ∷ [])

-- "13, .. after 4"
pub division_sequence : (sheet values : List ℕ) (divisor : ℕ)
    → numbers_of (value_order sheet values ++ (zero_rule divisor ∷ [])) ≡ (7 ∷ (eight_nine (record_count sheet) ++ (4 ∷ []))) ++ (13 ∷ [])
division_sequence sheet values divisor =
    numbers_append (value_order sheet values) (zero_rule divisor ∷ []) ∙ ap (λ (l : List ℕ). l ++ (13 ∷ [])) (value_sequence sheet values)

fours : (n i : ℕ) (values : List ℕ) → numbers_of (value_rules n i values) ≡ replicate (length values) 4
unfolding value_rules
fours n i [] = refl
fours n i (v ∷ values) = ap (λ (l : List ℕ). 4 ∷ l) (fours n (i + 1) values)

-- "the same, with 11 before 4", which a list of words has not
pub words_sequence : (sheet from : List ℕ) (room : ℕ) → numbers_of (normal_list_order sheet from room) ≡ 7 ∷ (eight_nine (record_count sheet) ++ (11 ∷ []))
words_sequence sheet from room = shape_then sheet (list_rule (length from) room ∷ [])

pub list_sequence : (sheet from : List ℕ) (room : ℕ)
    → numbers_of (polynomial_list_order sheet from room) ≡ 7 ∷ (eight_nine (record_count sheet) ++ (11 ∷ replicate (length from) 4))
list_sequence sheet from room =
    ap numbers_of (append_assoc (shape_order sheet) (list_rule (length from) room ∷ []) (value_rules (record_count sheet) 0 from))
    ∙ shape_then sheet (list_rule (length from) room ∷ value_rules (record_count sheet) 0 from)
    ∙ ap (λ (l : List ℕ). 7 ∷ (eight_nine (record_count sheet) ++ (11 ∷ l))) (fours (record_count sheet) 0 from)

tens : (sheet rebuilt : List ℕ) (i k : ℕ) → numbers_of (differ_rules sheet rebuilt i k) ≡ replicate k 10
unfolding differ_rules
tens sheet rebuilt i zero = refl
tens sheet rebuilt i (suc k) = ap (λ (l : List ℕ). 10 ∷ l) (tens sheet rebuilt (i + 1) k)

-- "7, 8 and 9 as above, then 2, 3, 5 .., then 10"
pub read_sequence : (sheet : List ℕ) → numbers_of (read_order sheet) ≡ 7 ∷ (eight_nine (record_count sheet) ++ (2 ∷ 3 ∷ 5 ∷ replicate (record_count sheet) 10))
read_sequence sheet =
    shape_then sheet (basis_order (polynomial_in sheet) (record_count sheet) (conjugate_in sheet 0) ++ differ_rules sheet (rebuilt_from sheet) 0 (record_count sheet))
    ∙ ap (λ (l : List ℕ). 7 ∷ (eight_nine (record_count sheet) ++ (2 ∷ 3 ∷ 5 ∷ l))) (tens sheet (rebuilt_from sheet) 0 (record_count sheet))

-- "writing has those of reading a sheet, then 6"; "reading text has 1, 4, 2, 3, 5, then 14" (document 02, §4)
pub write_sequence : (sheet : List ℕ) (room : ℕ) → numbers_of (write_text_order sheet room) ≡ numbers_of (read_order sheet) ++ (6 ∷ [])
write_sequence sheet room = numbers_append (read_order sheet) (text_room_rule (record_count sheet) room ∷ [])

pub text_sequence : (f a : ℕ) (text : List ℕ) → numbers_of (read_text_order f a text) ≡ 1 ∷ 4 ∷ 2 ∷ 3 ∷ 5 ∷ 14 ∷ []
text_sequence f a text = refl
