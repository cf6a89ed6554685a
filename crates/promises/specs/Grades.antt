-- The grade follows the element (document 02, §3), sentence by sentence, through the answers of the public calls. `Says f n a c k` (in `Graded` of
-- `normal`) has the sentences: what the grade's number k says of the element a of degree n with complexity c. That the calls give these answers:
-- `Demand1`. The rest of demand 3 stands as it was: `Demand3`.
--
--   build_grades, read_grades, listing_grades, search_grades   "Found records, build, reading and listings follow": each has the complexity and
--                                                              the grade of its own element, for all inputs
--   class_answer                                               build answers the same for all conjugates of a normal element
--   found_for_class                                            what a found record has, build answers for every element of the class
--   .._runs                                                    of the calls themselves: of every run of them
--
-- That a run of `listing` leaves the listing: `listing_is` in `Demand1`. The C functions return the numbers of the same answers: `Exports`.
-- What of this a wrong definition breaks, and what rests on that, stands in `proofs/Grades.antt`.
-- Assumes nothing.
use Rattle.std.specs.Prelude.{◌≡◌, refl, true, List, ◌++◌, ℕ, ◌*◌, ◌^◌, ◌≤◌, ◌<◌, length}
use Rattle.std.proofs.Math.Path.{sym, ap}
use Rattle.std.proofs.Common.{◌∙◌, arith}
use Rattle.gf2.specs.Poly.{degree}
use Rattle.field.specs.Field.{squared}
use Rattle.field.specs.Accepted.{Accepted}
use Rattle.field.specs.Checked.{accepted-degree, accepted-returns}
use Rattle.field.specs.Frobenius.{squared-lt}
use Rattle.rows.specs.Rows.{Independent}
use Rattle.normal.specs.Normal.{conjugates, normal, table_rows, complexity}
use Rattle.normal.proofs.Coordinates.{normal-means}
use Rattle.normal.proofs.Conjugated.{conjugate-normal, complexity_of_conjugate}
use Rattle.normal.specs.Grades.{grade_number}
use Rattle.normal.specs.Graded.{Says}
use Rattle.normal.proofs.Graded.{grade_says, grade_of_conjugate}
use Rattle.sheet.specs.Record.{record_size, record_count, conjugate_in, polynomial_in}
use Rattle.sheet.specs.Answers.{summary_of, build_answer, read_answer}
use Rattle.sheet.proofs.IssuedLaws.{answered_based, answered_sheet}
use Rattle.sheet.specs.declared.answer.Summary.{Summary}
use Rattle.listing.specs.Text.{row_lines, last_line, listing_by, listing_of}
use Rattle.search.specs.Search.{LeaderOf, complexity_at, grade_at}
use Rattle.search.specs.Answers.{search_answer}
use Rattle.search.proofs.Searched.{answer-own}
use Rattle.search.specs.declared.answer.Best.{Best}
use Rattle.search.specs.declared.answer.Search.TheVariants.{Found}
use Rattle.promises.specs.Calls.{Run, build, search}
use Rattle.promises.specs.Demand1.{build_is, search_is}
use Rattle.promises.specs.Demand2.{issued_exactly}
use Rattle.std.specs.Prelude.{Ok}

-- c is the complexity of the basis of a, and k says what §3 has a grade's number say
abbrev pub Graded : (f n a c k : ℕ) → Type 0
Graded f n a c k = (c ≡ complexity (table_rows f n a)) × Says f n a c k

summary_graded : (f n a : ℕ) (t : Summary) → summary_of f n a ≡ t → Graded f n a t.complexity (grade_number t.grade)
unfolding summary_of
summary_graded f n a t e = rw (← e) (refl, grade_says f n a (complexity (table_rows f n a)))

pub build_grades : (f a room : ℕ) (t : Summary) → build_answer f a room ≡ Ok t → Graded f (degree f) a t.complexity (grade_number t.grade)
build_grades f a room t e = summary_graded f (degree f) a t (answered_based f a room t e).2

-- of a sheet that reading accepts, the element is its record 0 conjugate
pub read_grades : (sheet : List ℕ) (t : Summary) → read_answer sheet ≡ Ok t
    → Graded (polynomial_in sheet) (record_count sheet) (conjugate_in sheet 0) t.complexity (grade_number t.grade)
read_grades sheet t e = summary_graded (polynomial_in sheet) (record_count sheet) (conjugate_in sheet 0) t (answered_sheet sheet t e).1

-- and the last line of its listing has these two numbers
pub listing_grades : (sheet : List ℕ) (t : Summary) → read_answer sheet ≡ Ok t
    → (c k : ℕ) × (listing_of sheet ≡ row_lines sheet (record_count sheet) ++ last_line c k) × Graded (polynomial_in sheet) (record_count sheet) (conjugate_in sheet 0) c k
unfolding listing_of listing_by
listing_grades sheet t e = (t.complexity, grade_number t.grade, rw e, read_grades sheet t e)

pub search_grades : (f first last : ℕ) (x : Best) → search_answer f first last ≡ Found x
    → Graded f (degree f) x.element x.complexity (grade_number x.grade)
unfolding grade_at complexity_at
search_grades f first last x e =
    let s = answer-own f first last x e in
    (s.0, rw (s.1, s.0) (grade_says f (degree f) x.element (complexity (table_rows f (degree f) x.element))))

-- ---- the class

module _ (f : ℕ) (accepted : Accepted f) (a : ℕ) (element : a < 2 ^ degree f) (is_normal : normal f (degree f) a ≡ true) where
  free : Independent (conjugates f (degree f) a) (degree f)
  free = (normal-means f (degree f) a).0 is_normal

  module _ (i : ℕ) (within : i ≤ degree f) where
    same_summary : summary_of f (degree f) (squared f (degree f) i a) ≡ summary_of f (degree f) a
    unfolding summary_of
    same_summary =
        let d = accepted-degree f accepted in
        let r = accepted-returns f accepted in
        rw (
          grade_of_conjugate f (degree f) d.is_degree d.two r a i within element free,
          complexity_of_conjugate f (degree f) d.is_degree d.two r a element i within free,
        )

    pub class_answer : (room : ℕ) → record_size * degree f ≤ room → build_answer f (squared f (degree f) i a) room ≡ build_answer f a room
    class_answer room fits =
        let d = accepted-degree f accepted in
        let b : ℕ = squared f (degree f) i a in
        (issued_exactly f accepted b (squared-lt f (degree f) d.is_degree i a element) room fits).1
        (conjugate-normal f (degree f) d.is_degree d.two (accepted-returns f accepted) a element i within free)
        ∙ ap Ok same_summary ∙ sym ((issued_exactly f accepted a element room fits).1 free)

  -- the element that is found leads the class of a
  pub found_for_class : (first last : ℕ) (x : Best) → search_answer f first last ≡ Found x → LeaderOf f (degree f) a x.element
      → (room : ℕ) (t : Summary) → build_answer f a room ≡ Ok t → (t.complexity ≡ x.complexity) × (t.grade ≡ x.grade)
  unfolding grade_at complexity_at summary_of
  found_for_class first last x e l room t et =
      let s = answer-own f first last x e in
      let w : l.index ≤ degree f = omega (arith, l.within) in
      let p : summary_of f (degree f) x.element ≡ t = ap (summary_of f (degree f)) (sym l.conjugate) ∙ same_summary l.index w ∙ (answered_based f a room t et).2 in
      (sym (ap (λ (u : Summary). u.complexity) p) ∙ sym s.0, sym (ap (λ (u : Summary). u.grade) p) ∙ sym s.1)

-- ---- of the calls themselves

pub build_grades_runs : (c : Run build) (t : Summary) → c.result ≡ Ok t
    → Graded c.args.0 (degree c.args.0) c.args.1.0 t.complexity (grade_number t.grade)
build_grades_runs c t e = build_grades c.args.0 c.args.1.0 (length c.args.1.1.0.now) t (sym (build_is c).0 ∙ e)

pub search_grades_runs : (c : Run search) (x : Best) → c.result ≡ Found x
    → Graded c.args.0 (degree c.args.0) x.element x.complexity (grade_number x.grade)
search_grades_runs c x e = search_grades c.args.0 c.args.1.0 c.args.1.1.0 x (sym (search_is c) ∙ e)
