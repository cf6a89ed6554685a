-- Demand 2, sentence by sentence, stated through the answers of the public calls (`build_answer`, `built_buffer`, `normal_answer`,
-- `polynomial_answer`, `times_answer`, `normal_list`, `polynomial_list`, `read_answer`, ..). `SheetOf f n a sheet` says that the sheet is the one of an
-- accepted f of degree n and a normal element a. That the calls give these answers: `Demand1`; the same over the calls: `Performed`.
--
--   issued_exactly, refused_otherwise   "a sheet is issued exactly when the element's conjugates are linearly independent"
--   issued_buffer, issued_sheet         what the buffer then holds
--   holds-..                            "it holds that element's conjugates in order of squaring and its multiplication table", and the rest
--   there_and_back, back-and-there      "converting to either notation and back returns the same value": of any word, its remainder
--   multiplies                          "multiplying through the table, then converting, equals polynomial multiplication"
--   list-..-done, list-..-at            a list of values is converted, at every index as the value alone is
--   lists_there-and-back, ..back-and-there   the round trips of whole lists; ..-same: of values of the field
--   read_exactly                        the sheets that build writes are exactly those that read accepts, with the same answer
--   accepted-..                         so all of this holds of every sheet that reading accepts
--
-- Assumes nothing.
use Rattle.std.specs.Prelude.{◌≡◌, refl, ◌↔◌, true, false, List, ◌++◌, map, ℕ, ◌+◌, ◌*◌, ◌^◌, ◌≤◌, ◌<◌, length, get_or, drop, take}
use Rattle.std.proofs.Common.{sym, ◌∙◌, map-id, add-sub_of_le, arith}
use Rattle.std.proofs.Math.Path.{ap}
use Rattle.std.proofs.Math.Logic.{⊎_elim}
use Rattle.std.proofs.lemmas.Simd.{map-map}
use Rattle.gf2.specs.Poly.{degree, rem, mul_mod}
use Rattle.gf2.specs.Remainder.{rem-small, mul_mod-rem_l, mul_mod-rem_r}
use Rattle.gf2.specs.Truth.{bool_cases}
use Rattle.field.specs.Accepted.{Accepted}
use Rattle.field.specs.Answers.{multiply_answer}
use Rattle.field.specs.Field.{squared}
use Rattle.field.specs.Refusals.{degree_rule}
use Rattle.refusals.specs.Answers.{refusal_at, answer_of, value_of}
use Rattle.refusals.specs.Orders.{first_passes, first-none}
use Rattle.refusals.specs.Verdicts.{Verdict}
use Rattle.rows.specs.Rows.{comb, Independent}
use Rattle.normal.specs.Normal.{conjugates, normal}
use Rattle.normal.proofs.Coordinates.{normal-means}
use Rattle.sheet.specs.Record.{record_size, record_count, degree_in, row_in, tail_in, conjugate_in, inverse_in, table_in, polynomial_in, sheet_bytes}
use Rattle.sheet.specs.Orders.{list_limit, Small}
use Rattle.sheet.specs.Answers.{issued_of, summary_of, summary_in, build_answer, built_buffer, to_polynomial, polynomial_answer, to_normal, normal_answer, through_table, times_answer, read_answer, polynomial_list_answer, polynomial_list, normal_list_answer, normal_list}
use Rattle.sheet.proofs.IssuedLaws.{build_answered, answered_based, build-buffer, build-sheet, read_answered, answered_sheet, polynomial_answered, normal_answered, times_answered, list-normal_answered, list-normal, list-polynomial_answered, list-polynomial}
use Rattle.sheet.proofs.Held.{held-degree, held-row, held_tail, held-conjugate, held-inverse, held-table}
use Rattle.sheet.proofs.Issuing.{free-based, based-degree, based-free, build_tied}
use Rattle.sheet.specs.Lists.{map-length, map-agree, map_at, map_below, map-round}
use Rattle.sheet.specs.Rebuilding.{sheet_bytes-length}
use Rattle.sheet.specs.Sheets.{Based, SheetOf}
use Rattle.sheet.proofs.Through.{coordinates-lt, there_back, back-there, product_lt, product_of}
use Rattle.sheet.specs.declared.answer.Summary.{Summary}
use Rattle.std.specs.Prelude.{Ok, Err}
use Rattle.refusals.specs.Answers.{passed}
use Rattle.refusals.specs.declared.fault.Fault.TheVariants as faults

-- ---- the issue of a sheet

module _ (f : ℕ) (acc : Accepted f) (a : ℕ) (ha : a < 2 ^ degree f) where
  module _ (room : ℕ) (fits : record_size * degree f ≤ room) where
    -- "a sheet is issued exactly when the element's conjugates are linearly independent over the two-element field"
    pub issued_exactly : (build_answer f a room ≡ Ok (summary_of f (degree f) a)) ↔ Independent (conjugates f (degree f) a) (degree f)
    issued_exactly = (
      λ e. based-free f (degree f) a (answered_based f a room (summary_of f (degree f) a) e).0,
      λ free. build_answered f a room (free-based f a acc ha free) fits,
    )

    -- and otherwise refused with number 5
    pub refused_otherwise : (Independent (conjugates f (degree f) a) (degree f) → ⊥) → build_answer f a room ≡ Err (refusal_at faults.NotNormal 0)
    unfolding build_answer answer_of
    refused_otherwise tied =
        ⊎_elim
        (λ (e : normal f (degree f) a ≡ true). absurd (tied ((normal-means f (degree f) a).0 e)))
        (λ (e : normal f (degree f) a ≡ false). ap (λ (v : Verdict). issued_of v (summary_of f (degree f) a)) (build_tied f a room acc ha fits e))
        (bool_cases (normal f (degree f) a))

  module _ (free : Independent (conjugates f (degree f) a) (degree f)) (buffer : List ℕ) (fits : record_size * degree f ≤ length buffer) where
    -- the sheet stands at the buffer's front, and the rest is as it came
    pub issued_buffer : built_buffer f a buffer ≡ sheet_bytes f (degree f) a ++ drop (record_size * degree f) buffer
    issued_buffer = build-buffer f a (free-based f a acc ha free) buffer fits

    pub issued_sheet : SheetOf f (degree f) a (take (record_size * degree f) (built_buffer f a buffer))
    issued_sheet = build-sheet f a (free-based f a acc ha free) buffer fits

-- ---- on such a sheet

module _ (f n a : ℕ) (sheet : List ℕ) (s : SheetOf f n a sheet) where
  -- ---- what record i holds

  module _ (i : ℕ) (h : i < n) where
    -- "degree n"
    pub holds-degree : degree_in sheet i ≡ n
    holds-degree = held-degree f n a sheet s i h

    -- "row number i"
    pub holds_row : row_in sheet i ≡ i
    holds_row = held-row f n a sheet s i h

    -- "f without its term x^n"
    pub holds-polynomial : 2 ^ n + tail_in sheet i ≡ f
    holds-polynomial = ap (λ (t : ℕ). 2 ^ n + t) (held_tail f n a sheet s i h) ∙ add-sub_of_le (based-degree f n a s.based).low

    -- "it holds that element's conjugates in order of squaring"
    pub holds-conjugates : conjugate_in sheet i ≡ squared f n i a
    holds-conjugates = held-conjugate f n a sheet s i h

    -- "inverse row: the normal coordinates of x^i": the number below 2^n that selects conjugates whose sum is x^i
    pub holds-inverse : (inverse_in sheet i < 2 ^ n) × (comb (conjugates f n a) (inverse_in sheet i) ≡ 2 ^ i)
    holds-inverse = held-inverse f n a sheet s i h

    -- "and its multiplication table": row i is the number below 2^n that selects conjugates whose sum is c_0 times c_i
    pub holds-table : (table_in sheet i < 2 ^ n) × (comb (conjugates f n a) (table_in sheet i) ≡ mul_mod f n a (squared f n i a))
    holds-table = held-table f n a sheet s i h

  -- ---- converting and multiplying

  -- "for every value of the field, converting to either notation and back returns the same value"; "Demand 2's return trip from the
  -- polynomial side gives the remainder" (document 02, §6), which for a value of the field is the value (`there-and-back-same`)
  pub there_and_back : (word : ℕ) → (v : ℕ) × (normal_answer sheet word ≡ Ok v) × (polynomial_answer sheet v ≡ Ok (rem f n word))
  there_and_back word =
      let v : ℕ = to_normal sheet word in
      (v, normal_answered f n a sheet s word, polynomial_answered f n a sheet s v (coordinates-lt f n a sheet s word) ∙ ap Ok (there_back f n a sheet s word))

  pub there-and-back-same : (y : ℕ) → y < 2 ^ n → (v : ℕ) × (normal_answer sheet y ≡ Ok v) × (polynomial_answer sheet v ≡ Ok y)
  there-and-back-same y h = let x = there_and_back y in (x.0, x.1, x.2 ∙ ap Ok (rem-small f n y h))

  pub back-and-there : (v : ℕ) → v < 2 ^ n → (y : ℕ) × (polynomial_answer sheet v ≡ Ok y) × (normal_answer sheet y ≡ Ok v)
  back-and-there v h =
      let y : ℕ = to_polynomial sheet v in
      (y, polynomial_answered f n a sheet s v h, normal_answered f n a sheet s y ∙ ap Ok (back-there f n a sheet s v h))

  -- of any words: their product modulo f is that of their remainders
  pub multiplied : (x y : ℕ) → multiply_answer f x y ≡ Ok (mul_mod f n x y)
  unfolding multiply_answer answer_of
  multiplied x y =
      let e : degree f ≡ n = s.based.has_degree in
      let deg = based-degree f n a s.based in
      rw e
      (ap (λ (w : Verdict). value_of w (mul_mod f n (rem f n x) (rem f n y))) (first_passes (degree_rule f) _ s.based.accepted.in_range ∙ first-none)
      ∙ ap Ok (mul_mod-rem_l f n deg x (rem f n y) ∙ mul_mod-rem_r f n deg x y))

  -- "multiplying through the table, then converting, equals polynomial multiplication modulo the defining polynomial": u and v stand for
  -- x and y, their product w stands for z, and z is what the call multiply answers for x and y, their product modulo f
  pub multiplies : (u v : ℕ) → u < 2 ^ n → v < 2 ^ n
      → (w x y z : ℕ) × (times_answer sheet u v ≡ Ok w)
      × (polynomial_answer sheet u ≡ Ok x) × (polynomial_answer sheet v ≡ Ok y)
      × (polynomial_answer sheet w ≡ Ok z) × (multiply_answer f x y ≡ Ok z) × (z ≡ mul_mod f n x y)
  multiplies u v hu hv =
      let w : ℕ = through_table sheet u v in
      let x : ℕ = to_polynomial sheet u in
      let y : ℕ = to_polynomial sheet v in (
        w,
        x,
        y,
        mul_mod f n x y,
        times_answered f n a sheet s u v hu hv,
        polynomial_answered f n a sheet s u hu,
        polynomial_answered f n a sheet s v hv,
        polynomial_answered f n a sheet s w (product_lt f n a sheet s u v hv) ∙ ap Ok (product_of f n a sheet s u v hu hv),
        multiplied x y,
        refl,
      )

  -- ---- lists of up to 4,096 words, and of up to 4,096 coordinate numbers

  module _ (from : List ℕ) (short : length from ≤ list_limit) where
    pub list-normal-done : normal_list_answer sheet from (length from) ≡ passed
    list-normal-done = list-normal_answered f n a sheet s from short

    module _ (into : List ℕ) (e : length into ≡ length from) where
      -- the conversion rule at every index
      pub list-normal-at : (i : ℕ) → i < length from → normal_answer sheet (get_or from i 0) ≡ Ok (get_or (normal_list sheet from into) i 0)
      list-normal-at i h =
          normal_answered f n a sheet s (get_or from i 0)
          ∙ ap Ok (sym (ap (λ (l : List ℕ). get_or l i 0) (list-normal f n a sheet s from short into e) ∙ map_at (to_normal sheet) from i h))

      -- there and back: the remainders
      pub lists_there-and-back : (other : List ℕ) → length other ≡ length from → polynomial_list sheet (normal_list sheet from into) other ≡ map (rem f n) from
      lists_there-and-back other o =
          let there : ℕ → ℕ = to_normal sheet in
          let size : length (map there from) ≡ length from = map-length there from in
          ap (λ (l : List ℕ). polynomial_list sheet l other) (list-normal f n a sheet s from short into e)
          ∙ list-polynomial f n a sheet s (map there from) (rw size short) (map_below there (2 ^ n) (coordinates-lt f n a sheet s) from) other (o ∙ sym size)
          ∙ map-map (to_polynomial sheet) there from
          ∙ map-agree (λ word. to_polynomial sheet (there word)) (rem f n) from (λ i h. there_back f n a sheet s (get_or from i 0))

    module _ (all : Small n from) where
      pub list-polynomial-done : polynomial_list_answer sheet from (length from) ≡ passed
      list-polynomial-done = list-polynomial_answered f n a sheet s from short all

      module _ (into : List ℕ) (e : length into ≡ length from) where
        pub list-polynomial-at : (i : ℕ) → i < length from → polynomial_answer sheet (get_or from i 0) ≡ Ok (get_or (polynomial_list sheet from into) i 0)
        list-polynomial-at i h =
            polynomial_answered f n a sheet s (get_or from i 0) (all i h)
            ∙ ap Ok (sym (ap (λ (l : List ℕ). get_or l i 0) (list-polynomial f n a sheet s from short all into e) ∙ map_at (to_polynomial sheet) from i h))

        module _ (other : List ℕ) (o : length other ≡ length from) where
          -- the list that came, if its values are of the field
          pub lists_there-and-back-same : polynomial_list sheet (normal_list sheet from into) other ≡ from
          lists_there-and-back-same =
              lists_there-and-back into e other o
              ∙ map-agree (rem f n) (λ y. y) from (λ i h. rem-small f n (get_or from i 0) (all i h)) ∙ map-id from

          pub lists_back-and-there : normal_list sheet (polynomial_list sheet from into) other ≡ from
          lists_back-and-there =
              let there : ℕ → ℕ = to_polynomial sheet in
              let size : length (map there from) ≡ length from = map-length there from in
              ap (λ (l : List ℕ). normal_list sheet l other) (list-polynomial f n a sheet s from short all into e)
              ∙ list-normal f n a sheet s (map there from) (rw size short) other (o ∙ sym size)
              ∙ map-round there (to_normal sheet) (2 ^ n) (back-there f n a sheet s) from all

-- ---- reading

-- a sheet that build wrote, at the front of some buffer, answering t
pub record Built (sheet : List ℕ) (t : Summary) : Type 0 where
  pub f : ℕ
  pub a : ℕ
  pub buffer : List ℕ
  pub answer : build_answer f a (length buffer) ≡ Ok t
  pub front : sheet ≡ take (record_size * degree f) (built_buffer f a buffer)

accepted_built : (sheet : List ℕ) (t : Summary) → read_answer sheet ≡ Ok t → Built sheet t
accepted_built sheet t r =
    let f : ℕ = polynomial_in sheet in
    let a : ℕ = conjugate_in sheet 0 in
    let x = answered_sheet sheet t r in
    let d : degree f ≡ record_count sheet = x.0.based.has_degree in
    let b : Based f (degree f) a = rw d x.0.based in
    let bytes : sheet ≡ sheet_bytes f (degree f) a = rw d x.0.bytes in
    let size : length sheet ≡ record_size * degree f = ap length bytes ∙ sheet_bytes-length f (degree f) a in
    let fits : record_size * degree f ≤ length sheet = omega (arith, size) in
    record {
      f = f;
      a = a;
      buffer = sheet;
      answer = build_answered f a (length sheet) b fits ∙ ap Ok (rw d x.1);
      front = bytes ∙ sym (build-sheet f a b sheet fits).bytes;
    }

built_read : (sheet : List ℕ) (t : Summary) → Built sheet t → read_answer sheet ≡ Ok t
built_read sheet t w =
    let x = answered_based w.f w.a (length w.buffer) t w.answer in
    let s = build-sheet w.f w.a x.0 w.buffer x.1 in
    ap read_answer w.front ∙ read_answered w.f (degree w.f) w.a _ s ∙ ap Ok x.2

-- "sheets the builder wrote, which are exactly those that reading accepts"
pub read_exactly : (sheet : List ℕ) (t : Summary) → (read_answer sheet ≡ Ok t) ↔ Built sheet t
read_exactly sheet t = (accepted_built sheet t, built_read sheet t)

-- ---- for a caller who holds a sheet that reading accepts, and nothing else: f, n and a are those that the sheet names itself

module _ (sheet : List ℕ) (t : Summary) (r : read_answer sheet ≡ Ok t) where
  pub accepted-sheet : SheetOf (polynomial_in sheet) (record_count sheet) (conjugate_in sheet 0) sheet
  accepted-sheet = (answered_sheet sheet t r).0

  -- what reading answered is what that sheet's element has
  pub accepted_summary : t ≡ summary_in sheet
  accepted_summary = sym (answered_sheet sheet t r).1

  pub accepted-there-and-back : (word : ℕ)
      → (v : ℕ) × (normal_answer sheet word ≡ Ok v) × (polynomial_answer sheet v ≡ Ok (rem (polynomial_in sheet) (record_count sheet) word))
  accepted-there-and-back = there_and_back (polynomial_in sheet) (record_count sheet) (conjugate_in sheet 0) sheet accepted-sheet

  pub accepted-there-and-back-same : (y : ℕ) → y < 2 ^ record_count sheet → (v : ℕ) × (normal_answer sheet y ≡ Ok v) × (polynomial_answer sheet v ≡ Ok y)
  accepted-there-and-back-same = there-and-back-same (polynomial_in sheet) (record_count sheet) (conjugate_in sheet 0) sheet accepted-sheet

  pub accepted-back-and-there : (v : ℕ) → v < 2 ^ record_count sheet → (y : ℕ) × (polynomial_answer sheet v ≡ Ok y) × (normal_answer sheet y ≡ Ok v)
  accepted-back-and-there = back-and-there (polynomial_in sheet) (record_count sheet) (conjugate_in sheet 0) sheet accepted-sheet

  pub accepted-multiplies : (u v : ℕ) → u < 2 ^ record_count sheet → v < 2 ^ record_count sheet
      → (w x y z : ℕ) × (times_answer sheet u v ≡ Ok w)
      × (polynomial_answer sheet u ≡ Ok x) × (polynomial_answer sheet v ≡ Ok y)
      × (polynomial_answer sheet w ≡ Ok z) × (multiply_answer (polynomial_in sheet) x y ≡ Ok z) × (z ≡ mul_mod (polynomial_in sheet) (record_count sheet) x y)
  accepted-multiplies = multiplies (polynomial_in sheet) (record_count sheet) (conjugate_in sheet 0) sheet accepted-sheet
