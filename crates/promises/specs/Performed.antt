-- Demands 2 and 3 of the calls themselves: of whatever a promise permits a call to return and to leave (`Run`, in `Calls`). Each theorem is
-- one of `Demand2` or `Demand3`, carried over by `Demand1`.
--
--   check_accepts_exactly                                    what check accepts
--   build_issues_exactly, build-refuses_else, build_writes   a sheet is issued exactly when it is due, and where it then stands
--   read_accepts, read_gives                                 what reading accepts
--   returns-remainder, returns-element, returns-coordinates  there with one call and back with the other
--   multiplied-through                                       the product through the table against that of `multiply`
--   list-..-each, lists_return_..                            lists, value by value and there and back
--   search-names, search-names-none, search_in_parts         the search
--
-- What of this a wrong definition breaks, and what rests on that, stands in `proofs/Performed.antt`.
-- Assumes nothing.
use Rattle.std.specs.Prelude.{◌≡◌, ◌↔◌, true, List, ◌++◌, ℕ, suc, ◌*◌, ◌-◌, ◌^◌, ◌≤◌, ◌<◌, length, get_or, drop, take}
use Rattle.std.proofs.Common.{sym, ap₂, ◌∙◌}
use Rattle.gf2.specs.Poly.{degree}
use Rattle.field.specs.Accepted.{Accepted}
use Rattle.field.specs.Checked.{check_accepts}
use Rattle.refusals.specs.Answers.{refusal_at}
use Rattle.rows.specs.Rows.{Independent}
use Rattle.normal.specs.Normal.{conjugates}
use Rattle.sheet.specs.Record.{record_size, sheet_bytes}
use Rattle.sheet.specs.Orders.{list_limit, Small}
use Rattle.sheet.specs.Answers.{summary_of, polynomial_answer}
use Rattle.sheet.proofs.IssuedLaws.{answered_based, build-buffer, build-sheet}
use Rattle.sheet.specs.Sheets.{SheetOf}
use Rattle.sheet.specs.declared.answer.Summary.{Summary}
use Rattle.search.specs.Search.{normal_leader, joined, counted, Named}
use Rattle.search.specs.declared.answer.Best.{Best}
use Rattle.search.specs.declared.answer.Search.TheVariants.{Nothing, Found}
use Rattle.promises.specs.Calls.{Run, check, multiply, build, to-polynomial, to-normal, times, list-to-polynomial, list-to-normal, search}
use Rattle.promises.specs.Demand1.{check_is, build_is, to-polynomial_is, list-to-polynomial_is, list-to-normal_is, search_is}
use Rattle.promises.specs.Demand2.{issued_exactly, refused_otherwise, list-polynomial-done, list-polynomial-at, lists_back-and-there}
use Rattle.promises.specs.Demand3.{search_finds, search_finds_nothing, union_joined}
use Rattle.std.specs.Prelude.{Result, Ok, Err}
use Rattle.refusals.specs.Answers.{passed}
use Rattle.refusals.specs.declared.answer.Refusal.{Refusal}
use Rattle.refusals.specs.declared.fault.Fault.TheVariants as faults

-- ---- check

-- done exactly if f is accepted
pub check_accepts_exactly : (c : Run check) → (c.result ≡ passed) ↔ Accepted c.args.0
check_accepts_exactly c = rw (check_is c) (check_accepts c.args.0)

-- ---- build

module _ (c : Run build) where
  module _ (acc : Accepted c.args.0) (ha : c.args.1.0 < 2 ^ degree c.args.0) (fits : record_size * degree c.args.0 ≤ length c.args.1.1.0.now) where
    -- "a sheet is issued exactly when the element's conjugates are linearly independent"
    pub build_issues_exactly : (c.result ≡ Ok (summary_of c.args.0 (degree c.args.0) c.args.1.0))
        ↔ Independent (conjugates c.args.0 (degree c.args.0) c.args.1.0) (degree c.args.0)
    build_issues_exactly = rw (build_is c).0 (issued_exactly c.args.0 acc c.args.1.0 ha (length c.args.1.1.0.now) fits)

    pub build-refuses_else : (Independent (conjugates c.args.0 (degree c.args.0) c.args.1.0) (degree c.args.0) → ⊥) → c.result ≡ Err (refusal_at faults.NotNormal 0)
    build-refuses_else tied = (build_is c).0 ∙ refused_otherwise c.args.0 acc c.args.1.0 ha (length c.args.1.1.0.now) fits tied

  -- a build that is done left the sheet at the buffer's front, and the rest of the buffer as it came
  pub build_writes : (t : Summary) → c.result ≡ Ok t
      → SheetOf c.args.0 (degree c.args.0) c.args.1.0 (take (record_size * degree c.args.0) c.exit.1.1.0.now)
      × (c.exit.1.1.0.now ≡ sheet_bytes c.args.0 (degree c.args.0) c.args.1.0 ++ drop (record_size * degree c.args.0) c.args.1.1.0.now)
  build_writes t e =
      let x = answered_based c.args.0 c.args.1.0 (length c.args.1.1.0.now) t (sym (build_is c).0 ∙ e) in
      (rw (build_is c).1 (build-sheet c.args.0 c.args.1.0 x.0 c.args.1.1.0.now x.1), (build_is c).1 ∙ build-buffer c.args.0 c.args.1.0 x.0 c.args.1.1.0.now x.1)

-- ---- on such a sheet

-- what every run of a call returns on a sheet: of a conversion, of the product; and of multiply
abbrev pub ElementOf : (sheet : List ℕ) (v : ℕ) (r : Result ℕ Refusal) → Type 0
ElementOf sheet v r = (d : Run to-polynomial) → d.args.0.now ≡ sheet → d.args.1.0 ≡ v → d.result ≡ r

abbrev pub CoordinatesOf : (sheet : List ℕ) (y : ℕ) (r : Result ℕ Refusal) → Type 0
CoordinatesOf sheet y r = (d : Run to-normal) → d.args.0.now ≡ sheet → d.args.1.0 ≡ y → d.result ≡ r

abbrev pub ProductOf : (sheet : List ℕ) (u v : ℕ) (r : Result ℕ Refusal) → Type 0
ProductOf sheet u v r = (c : Run times) → c.args.0.now ≡ sheet → c.args.1.0 ≡ u → c.args.1.1.0 ≡ v → c.result ≡ r

abbrev pub Multiplied : (f x y : ℕ) (r : Result ℕ Refusal) → Type 0
Multiplied f x y r = (c : Run multiply) → c.args.0 ≡ f → c.args.1.0 ≡ x → c.args.1.1.0 ≡ y → c.result ≡ r

pub elements : (sheet : List ℕ) (v : ℕ) (r : Result ℕ Refusal) → polynomial_answer sheet v ≡ r → ElementOf sheet v r
elements sheet v r e d es ev = to-polynomial_is d ∙ ap₂ (λ (s : List ℕ) (x : ℕ). polynomial_answer s x) es ev ∙ e

-- ---- lists of up to 4,096 words, and of up to 4,096 coordinate numbers

-- a list that is lent to be read, and one as long to be written
pub record Words (from into : List ℕ) : Type 0 where
  pub short : length from ≤ list_limit
  pub as_long : length into ≡ length from

module _ (f n a : ℕ) (c : Run list-to-polynomial) (s : SheetOf f n a c.args.0.now) (l : Words c.args.1.0.now c.args.1.1.0.now) (all : Small n c.args.1.0.now) where
  pub list-polynomial-each : (c.result ≡ passed)
      × ((i : ℕ) → i < length c.args.1.0.now → ElementOf c.args.0.now (get_or c.args.1.0.now i 0) (Ok (get_or c.exit.1.1.0.now i 0)))
  list-polynomial-each = (
    (list-to-polynomial_is c).0 ∙ rw l.as_long (list-polynomial-done f n a c.args.0.now s c.args.1.0.now l.short all),
    λ i h. elements c.args.0.now (get_or c.args.1.0.now i 0) _
        (rw (list-to-polynomial_is c).1 (list-polynomial-at f n a c.args.0.now s c.args.1.0.now l.short all c.args.1.1.0.now l.as_long i h)),
  )

  pub lists_return_coordinates : (d : Run list-to-normal) → d.args.0.now ≡ c.args.0.now → d.args.1.0.now ≡ c.exit.1.1.0.now
      → length d.args.1.1.0.now ≡ length c.args.1.0.now → d.exit.1.1.0.now ≡ c.args.1.0.now
  lists_return_coordinates d es ef o =
      (list-to-normal_is d).1
      ∙ rw (es, ef, (list-to-polynomial_is c).1)
      (lists_back-and-there f n a c.args.0.now s c.args.1.0.now l.short all c.args.1.1.0.now l.as_long d.args.1.1.0.now o)

-- ---- the search

module _ (c : Run search) (acc : Accepted c.args.0) (range : c.args.1.0 ≤ c.args.1.1.0) (ends : c.args.1.1.0 < 2 ^ degree c.args.0) where
  -- the normal class leader whose table has the fewest ones, the smallest where several tie, and the count of all normal leaders there
  pub search-names : (x : Best)
      → (c.result ≡ Found x)
      ↔ (Named c.args.0 (degree c.args.0) c.args.1.0 c.args.1.1.0 x × (x.count ≡ counted c.args.1.0 (suc c.args.1.1.0 - c.args.1.0) (normal_leader c.args.0 (degree c.args.0))))
  search-names x = rw (search_is c) (search_finds c.args.0 acc c.args.1.0 c.args.1.1.0 range ends x)

  pub search-names-none : (c.result ≡ Nothing) ↔ ((a : ℕ) → c.args.1.0 ≤ a → a ≤ c.args.1.1.0 → normal_leader c.args.0 (degree c.args.0) a ≡ true → ⊥)
  search-names-none = rw (search_is c) (search_finds_nothing c.args.0 acc c.args.1.0 c.args.1.1.0 range ends)

-- a range cut after mid: the answers of the parts give that of the whole, for every f and all ends
pub search_in_parts : (mid : ℕ) (whole left right : Run search)
    → left.args.0 ≡ whole.args.0 → left.args.1.0 ≡ whole.args.1.0 → left.args.1.1.0 ≡ mid
    → right.args.0 ≡ whole.args.0 → right.args.1.0 ≡ suc mid → right.args.1.1.0 ≡ whole.args.1.1.0
    → whole.args.1.0 ≤ mid → mid < whole.args.1.1.0 → whole.result ≡ joined left.result right.result
search_in_parts mid whole left right lf l0 l1 rf r0 r1 h k =
    search_is whole ∙ union_joined whole.args.0 whole.args.1.0 mid whole.args.1.1.0 h k
    ∙ ap₂ joined (sym (search_is left ∙ rw (lf, l0, l1))) (sym (search_is right ∙ rw (rf, r0, r1)))
