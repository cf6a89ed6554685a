-- Demand 3: the search names the best normal class leader of a range (document 01, "Search"). Each theorem speaks of `search_answer`, the
-- function that the promise of `search` pins its answer to, and of notions of the crates below:
--
--   normal_leader f n a             a is a class leader and normal
--   LeaderOf f n a l               l is the one class leader among the conjugates of a
--   complexity_at f n a             the number of ones in the table of a
--   counted first k t              how many of the k numbers from first on pass t
--   Named f n first last x         x names the normal leader of least complexity from first to last, the smallest where several tie
--   joined x y                     the better of two answers, the left one on a tie, with the counts of both
--
-- In order: what leaders are; the search of a range; of a whole field; of adjoining ranges. That the answer is unique: `search_determined` in `Demand1`.
-- Assumes nothing.
use Rattle.std.specs.Prelude.{◌≡◌, ◌↔◌, true, ℕ, suc, ◌+◌, ◌-◌, ◌^◌, ◌≤◌, ◌<◌}
use Rattle.std.proofs.Common.{sym, ap, ap₂, ◌∙◌, arith}
use Rattle.gf2.specs.Poly.{degree, Degree}
use Rattle.field.specs.Field.{squared}
use Rattle.field.specs.Accepted.{Accepted}
use Rattle.field.specs.Checked.{accepted-degree, accepted-returns}
use Rattle.normal.specs.Normal.{normal, table_rows}
use Rattle.search.specs.Search.{leader, LeaderOf, normal_leader, complexity_at, with_count, joined, ranged, Answered, count_of, counted, Named}
use Rattle.search.specs.Answers.{search_answer}
use Rattle.search.specs.Leaders.{leader-means, leader_exists, leader-normal}
use Rattle.search.specs.Joined.{joined-left}
use Rattle.search.proofs.Joined.{joined-count, joined-right}
use Rattle.search.proofs.Walks.{ranged_answered, ranged-count}
use Rattle.search.proofs.Named.{ranged-nothing, ranged-found}
use Rattle.search.proofs.Whole.{whole-best, whole-nothing}
use Rattle.search.proofs.Searched.{accepted-answer, search-joined}
use Rattle.search.specs.declared.answer.Best.{Best}
use Rattle.search.specs.declared.answer.Search.TheVariants.{Nothing, Found}

-- "A class leader is an element that is the smallest, as a whole number, of its own conjugates."
pub leader_is_smallest : (f n a : ℕ) → (leader f n a ≡ true) ↔ ((i : ℕ) → i < n → a ≤ squared f n i a)
leader_is_smallest = leader-means

module _ (f : ℕ) (accepted : Accepted f) where
  is_degree : Degree f (degree f)
  is_degree = (accepted-degree f accepted).is_degree

  two : 2 ≤ degree f
  two = (accepted-degree f accepted).two

  returns : squared f (degree f) (degree f) 2 ≡ 2
  returns = accepted-returns f accepted

  -- ---- leaders

  -- every element has exactly one leader among its conjugates
  pub one-leader : (a : ℕ) → a < 2 ^ degree f → (l : ℕ) × LeaderOf f (degree f) a l
  one-leader = leader_exists f (degree f) is_degree two returns

  -- that of a normal element is normal and has the same table
  pub one-normal-leader : (a : ℕ) → a < 2 ^ degree f → normal f (degree f) a ≡ true
      → (l : ℕ) × LeaderOf f (degree f) a l × (normal f (degree f) l ≡ true) × (table_rows f (degree f) l ≡ table_rows f (degree f) a)
  one-normal-leader a element is_normal =
      let s = one-leader a element in
      let t = leader-normal f (degree f) is_degree two returns a element s.0 s.1 is_normal in
      (s.0, s.1, t.0, t.1)

  -- ---- a range

  module _ (first last : ℕ) (range : first ≤ last) (elements : last < 2 ^ degree f) where
    -- the normal class leader whose table has the fewest ones, the smallest where several tie, and the count of all normal leaders there
    pub search_finds : (x : Best)
        → (search_answer f first last ≡ Found x)
        ↔ (Named f (degree f) first last x × (x.count ≡ counted first (suc last - first) (normal_leader f (degree f))))
    search_finds = rw (accepted-answer f accepted first last range elements) (ranged-found f (degree f) first last range)

    -- nothing, exactly if no normal leader lies there
    pub search_finds_nothing : (search_answer f first last ≡ Nothing) ↔ ((a : ℕ) → first ≤ a → a ≤ last → normal_leader f (degree f) a ≡ true → ⊥)
    search_finds_nothing = rw (accepted-answer f accepted first last range elements) (ranged-nothing f (degree f) first last range)

    -- no other answer, so one of the two
    pub search_answers : Answered (search_answer f first last)
    search_answers = rw (accepted-answer f accepted first last range elements) (ranged_answered f (degree f) first last)

    -- the count is that of all normal leaders, "where nothing counts as 0"
    pub search-counts : count_of (search_answer f first last) ≡ counted first (suc last - first) (normal_leader f (degree f))
    search-counts = rw (accepted-answer f accepted first last range elements) (ranged-count f (degree f) first last)

  -- ---- the whole field

  module _ (a : ℕ) (element : a < 2 ^ degree f) (is_normal : normal f (degree f) a ≡ true) where
    whole-answer : search_answer f 0 (2 ^ degree f - 1) ≡ ranged f (degree f) 0 (2 ^ degree f - 1)
    whole-answer = accepted-answer f accepted 0 (2 ^ degree f - 1) (omega arith) (omega arith)

    -- no normal element, leader or not, has fewer ones than the one named, and none with as few is smaller
    pub whole-field-best : (x : Best) → search_answer f 0 (2 ^ degree f - 1) ≡ Found x
        → (x.complexity ≤ complexity_at f (degree f) a) × (complexity_at f (degree f) a ≡ x.complexity → x.element ≤ a)
    whole-field-best x e =
        whole-best f (degree f) is_degree two returns a element is_normal x (sym whole-answer ∙ e)

    -- and where there is a normal element, one is named
    pub whole-field-found : search_answer f 0 (2 ^ degree f - 1) ≡ Nothing → ⊥
    whole-field-found e =
        whole-nothing f (degree f) is_degree two returns a element is_normal (sym whole-answer ∙ e)

-- ---- adjoining ranges

-- the answers of two adjoining ranges determine the answer of their union, for every f and all ends, refused or not
pub union_joined : (f first mid last : ℕ) → first ≤ mid → mid < last
    → search_answer f first last ≡ joined (search_answer f first mid) (search_answer f (suc mid) last)
union_joined = search-joined

module _ (f : ℕ) (accepted : Accepted f) (first mid last : ℕ) (left : first ≤ mid) (right : mid < last) (elements : last < 2 ^ degree f) where
  -- "Counts of two adjoining ranges add up to the count of their union, where nothing counts as 0."
  pub counts-add : count_of (search_answer f first last) ≡ count_of (search_answer f first mid) + count_of (search_answer f (suc mid) last)
  counts-add =
      ap count_of (union_joined f first mid last left right)
      ∙ joined-count (search_answers f accepted first mid left (omega arith)) (search_answers f accepted (suc mid) last right elements)

  module _ (x y : Best) (ex : search_answer f first mid ≡ Found x) (ey : search_answer f (suc mid) last ≡ Found y) where
    parts : search_answer f first last ≡ joined (Found x) (Found y)
    parts = union_joined f first mid last left right ∙ ap₂ joined ex ey

    -- the left one's best is that of the union on a tie, with the counts of both
    pub union_left : x.complexity ≤ y.complexity → search_answer f first last ≡ Found (with_count x (x.count + y.count))
    union_left h =
        let s = ((search_finds f accepted first mid left (omega arith) x).0 ex).0 in
        let t = ((search_finds f accepted (suc mid) last right elements y).0 ey).0 in
        parts ∙ joined-left x y h (omega (arith, s.upto, t.from))

    pub union_right : y.complexity < x.complexity → search_answer f first last ≡ Found (with_count y (x.count + y.count))
    union_right h = parts ∙ joined-right x y h
