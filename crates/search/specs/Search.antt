-- What a search looks for (document 01, "Search"): class leaders, the normal ones among them, and the best of a range with their
-- count. Definitions alone; the laws stand in the files beside this one.
--
--   leader f n a              a is a class leader
--   LeaderOf f n a l          l is a conjugate of a and a class leader, and every class leader among the conjugates of a is l
--   normal_leader f n a        a normal class leader
--   complexity_at f n a        the complexity of the table of a
--   grade_at f n a             the grade of the basis of a
--   found_by f n a c           the found record of a, whose table has c ones, where a is the one normal leader of a range
--   alone f n a               the same with the ones of the table of a
--   precedes c e d g          complexity c and element e come before complexity d and element g
--   with_count x k             a found record with another count
--   better x y                the better of two found records, with the counts of both
--   joined x y                the answer over two adjoining ranges, from the answers x over the left and y over the right
--   candidate_of f n a         the answer over the single element a
--   walked f n first k        the answer over the k elements from first on
--   ranged f n first last     the answer over the elements from first to last
--   Answered w                w is no refusal
--   count_of x                 the count of an answer, "where nothing counts as 0"
--   counted first k t         how many of the k numbers from first on pass t
--   Named f n first last x    the found record x names the best normal leader from first to last
--
-- n is the degree of f throughout; the elements are below 2 ^ n.
-- Assumes nothing.
use Rattle.std.specs.Prelude.{◌≡◌, Bool, true, not, cond, ◌&&◌, ◌||◌, ℕ, zero, suc, ◌+◌, ◌-◌, ◌≤◌, ◌<◌, ltb, eqb}
use Rattle.gf2.specs.Bounded.{some}
use Rattle.field.specs.Field.{squared}
use Rattle.normal.specs.Normal.{normal, table_rows, complexity}
use Rattle.normal.specs.Grades.{grade_of}
use Rattle.normal.specs.declared.grade.Grade.{Grade}
use Rattle.search.specs.declared.answer.Best.{Best}
use Rattle.search.specs.declared.answer.Search.{Search}
use Rattle.search.specs.declared.answer.Search.TheVariants.{Refused, Nothing, Found}

-- ---- leaders

-- "A class leader is an element that is the smallest, as a whole number, of its own conjugates": none of them is smaller
unfoldable pub leader : (f n a : ℕ) → Bool
leader f n a = not (some n (λ i. ltb (squared f n i a) a))

pub record LeaderOf (f n a l : ℕ) : Type 0 where
  pub index : ℕ
  pub within : index < n
  pub conjugate : squared f n index a ≡ l
  pub leads : leader f n l ≡ true
  pub least : l ≤ a
  pub only : (j : ℕ) → j < n → leader f n (squared f n j a) ≡ true → squared f n j a ≡ l

unfoldable pub normal_leader : (f n a : ℕ) → Bool
normal_leader f n a = leader f n a && normal f n a

-- "Complexity is the number of ones in the n table rows."
unfoldable pub complexity_at : (f n a : ℕ) → ℕ
complexity_at f n a = complexity (table_rows f n a)

unfoldable pub grade_at : (f n a : ℕ) → Grade
grade_at f n a = grade_of f n a (complexity_at f n a)

-- ---- found records

-- "found, with the element, its complexity, its grade and the count": the one place where such a record is made
unfoldable pub found_by : (f n a c : ℕ) → Best
found_by f n a c = record { element = a; complexity = c; grade = grade_of f n a c; count = 1 }

abbrev pub alone : (f n a : ℕ) → Best
alone f n a = found_by f n a (complexity_at f n a)

-- "least complexity, then smallest element"
unfoldable pub precedes : (c e d g : ℕ) → Bool
precedes c e d g = ltb c d || (eqb c d && ltb e g)

abbrev pub with_count : Best → ℕ → Best
with_count x k = record { element = x.element; complexity = x.complexity; grade = x.grade; count = k }

-- x is kept unless y comes before it; "Counts of two adjoining ranges add up to the count of their union"
unfoldable pub better : (x y : Best) → Best
better x y =
    cond (precedes y.complexity y.element x.complexity x.element)
    (with_count y (x.count + y.count))
    (with_count x (x.count + y.count))

-- ---- answers

-- A refusal of either part is one of the whole. The right part's comes first: its end is the end of the whole.
unfoldable pub joined : (x y : Search) → Search
joined x (Refused k) = Refused k
joined x Nothing = x
joined (Refused k) (Found y) = Refused k
joined Nothing (Found y) = Found y
joined (Found x) (Found y) = Found (better x y)

unfoldable pub candidate_of : (f n a : ℕ) → Search
candidate_of f n a = cond (normal_leader f n a) (Found (alone f n a)) Nothing

unfoldable pub walked : (f n first k : ℕ) → Search
walked f n first zero = Nothing
walked f n first (suc k) = joined (walked f n first k) (candidate_of f n (first + k))

-- "Given f, first and last (both included)"
unfoldable pub ranged : (f n first last : ℕ) → Search
ranged f n first last = walked f n first (suc last - first)

-- an answer that is no refusal
pub data Answered : Search → Type 0 where
  nothing : Answered Nothing
  found : (x : Best) → Answered (Found x)

unfoldable pub count_of : Search → ℕ
count_of (Refused k) = 0
count_of Nothing = 0
count_of (Found x) = x.count

unfoldable pub counted : (first k : ℕ) → (ℕ → Bool) → ℕ
counted first zero t = 0
counted first (suc k) t = counted first k t + cond (t (first + k)) 1 0

-- "Found names least complexity, then smallest element"
pub record Named (f n first last : ℕ) (x : Best) : Type 0 where
  pub from : first ≤ x.element
  pub upto : x.element ≤ last
  pub leads : normal_leader f n x.element ≡ true
  pub ones : x.complexity ≡ complexity_at f n x.element
  pub graded : x.grade ≡ grade_at f n x.element
  pub fewest : (a : ℕ) → first ≤ a → a ≤ last → normal_leader f n a ≡ true → x.complexity ≤ complexity_at f n a
  pub smallest : (a : ℕ) → first ≤ a → a ≤ last → normal_leader f n a ≡ true → complexity_at f n a ≡ x.complexity → x.element ≤ a
