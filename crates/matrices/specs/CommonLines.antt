-- The longest common beginning of two lists, and the lines ended in it.
--
--   count-append, count-common                  how often a byte stands in two lists, and in what they share
--   common-left, common-right, common_longest   it is a beginning of both lists, and none is longer
--   lines-whole, lines-part, lines-most         the lines shared with a block and what follows it: all of the block's, or not, or at most all
--   lines-all                                   a list with all lines of another begins with it
--   lines_other, lines_next                     what a scan finds, byte by byte
--
-- Assumes nothing.
use Rattle.std.specs.Prelude.{◌≡◌, refl, ◌⊎◌, true, false, ℕ, ◌+◌, ◌≤◌, ◌<◌, eqb, length, get_or, drop}
use Rattle.std.proofs.Math.Path.{sym, ap}
use Rattle.std.proofs.Common.{◌∙◌, inl, inr, ⊎_elim, zero-add, add_assoc, add-one}
use Rattle.std.proofs.Math.Bool.{cond}
use mathlib.Core.List.{List, [], ◌∷◌, ◌++◌}
use native.Mathlib.Omega.{arith}
use Rattle.std.proofs.Math.Seq.{drop-cons}
use borrow.Author.Tests.{eq-eqb, ne_eqb, eqb-true}
use Rattle.gf2.specs.Truth.{bool_cases}
use Rattle.matrices.specs.Matrices.{line_end}
use Rattle.matrices.specs.Orders.{count_of, common, common_lines}

-- ---- counting bytes

module _ (b : ℕ) where
  pub count-append : (x y : List ℕ) → count_of b (x ++ y) ≡ count_of b x + count_of b y
  unfolding count_of
  count-append [] y = sym (zero-add (count_of b y))
  count-append (a ∷ x) y =
      ap (λ (m : ℕ). cond (eqb a b) 1 0 + m) (count-append x y) ∙ sym (add_assoc (cond (eqb a b) 1 0) (count_of b x) (count_of b y))

  pub count-common : (x y : List ℕ) → count_of b (common x y) ≤ count_of b y
  unfolding count_of common
  count-common [] y = omega arith
  count-common (a ∷ x) [] = omega arith
  count-common (a ∷ x) (c ∷ y) = go (bool_cases (eqb a c)) (count-common x y)
    where
      go : (eqb a c ≡ true) ⊎ (eqb a c ≡ false) → count_of b (common x y) ≤ count_of b y → count_of b (common (a ∷ x) (c ∷ y)) ≤ count_of b (c ∷ y)
      go (inl e) ih = rw (e, eqb-true a c e) (omega (arith, ih))
      go (inr e) ih = rw e (omega arith)

-- ---- the longest common beginning

pub common-nil : (x : List ℕ) → common x [] ≡ []
unfolding common
common-nil [] = refl
common-nil (a ∷ x) = refl

pub common_itself : (x : List ℕ) → common x x ≡ x
unfolding common
common_itself [] = refl
common_itself (a ∷ x) = rw (eq-eqb a a refl, common_itself x)

-- the first list begins with it, and so does the second
pub common-left : (x y : List ℕ) → x ≡ common x y ++ drop (length (common x y)) x
unfolding common
common-left [] y = refl
common-left (a ∷ x) [] = refl
common-left (a ∷ x) (b ∷ y) = go (bool_cases (eqb a b)) (common-left x y)
  where
    go : (eqb a b ≡ true) ⊎ (eqb a b ≡ false) → x ≡ common x y ++ drop (length (common x y)) x → a ∷ x ≡ common (a ∷ x) (b ∷ y) ++ drop (length (common (a ∷ x) (b ∷ y))) (a ∷ x)
    go (inl e) ih = rw e (ap (λ (l : List ℕ). a ∷ l) ih)
    go (inr e) ih = rw e refl

pub common-right : (x y : List ℕ) → y ≡ common x y ++ drop (length (common x y)) y
unfolding common
common-right [] y = refl
common-right (a ∷ x) [] = refl
common-right (a ∷ x) (b ∷ y) = go (bool_cases (eqb a b)) (common-right x y)
  where
    go : (eqb a b ≡ true) ⊎ (eqb a b ≡ false) → y ≡ common x y ++ drop (length (common x y)) y → b ∷ y ≡ common (a ∷ x) (b ∷ y) ++ drop (length (common (a ∷ x) (b ∷ y))) (b ∷ y)
    go (inl e) ih = rw e (ap (λ (l : List ℕ). b ∷ l) ih ∙ ap (λ (c : ℕ). c ∷ (common x y ++ drop (length (common x y)) y)) (sym (eqb-true a b e)))
    go (inr e) ih = rw e refl

-- nothing longer is a beginning of both
pub common_longest : (front x y : List ℕ) → length front ≤ length (common (front ++ x) (front ++ y))
unfolding common
common_longest [] x y = omega arith
common_longest (b ∷ front) x y = rw (eq-eqb b b refl) (omega (arith, common_longest front x y))

-- ---- against a block that ends a line, and what follows it

-- the list has the whole block, and what follows is compared with the rest; or it ends in the block, and the rest does not matter
abbrev Whole : (x block rest : List ℕ) → Type 0
Whole x block rest = (common x block ≡ block) × (common x (block ++ rest) ≡ block ++ common (drop (length block) x) rest)

abbrev Part : (x front rest : List ℕ) → Type 0
Part x front rest =
    (common x (front ++ (line_end ∷ [])) ≡ common x front) × (common x (front ++ (line_end ∷ []) ++ rest) ≡ common x (front ++ (line_end ∷ [])))

ended : (x front rest : List ℕ) → Whole x (front ++ (line_end ∷ [])) rest ⊎ Part x front rest
unfolding common
ended [] [] rest = inr (refl, refl)
ended [] (b ∷ front) rest = inr (refl, refl)
ended (a ∷ x) [] rest = go (bool_cases (eqb a line_end))
  where
    go : (eqb a line_end ≡ true) ⊎ (eqb a line_end ≡ false) → Whole (a ∷ x) (line_end ∷ []) rest ⊎ Part (a ∷ x) [] rest
    go (inl e) = inl (rw (e, eqb-true a line_end e, common-nil x), rw (e, eqb-true a line_end e) refl)
    go (inr e) = inr (rw e refl, rw e refl)
ended (a ∷ x) (b ∷ front) rest = go (bool_cases (eqb a b)) (ended x front rest)
  where
    go : (eqb a b ≡ true) ⊎ (eqb a b ≡ false) → Whole x (front ++ (line_end ∷ [])) rest ⊎ Part x front rest
        → Whole (a ∷ x) (b ∷ (front ++ (line_end ∷ []))) rest ⊎ Part (a ∷ x) (b ∷ front) rest
    go (inl e) (inl w) = inl (rw (e, eqb-true a b e, w.0) refl, rw (e, eqb-true a b e, w.1) refl)
    go (inl e) (inr p) = inr (rw (e, p.0) refl, rw (e, p.1) refl)
    go (inr e) s = inr (rw e refl, rw e refl)

module _ (x front rest : List ℕ) where
  abbrev block : List ℕ
  block = front ++ (line_end ∷ [])

  block-ends : count_of line_end block ≡ count_of line_end front + 1
  block-ends = count-append line_end front (line_end ∷ []) ∙ ap (λ (m : ℕ). count_of line_end front + m) (unfold count_of in refl)

  part_less : common x block ≡ common x front → common_lines x block < count_of line_end block
  unfolding common_lines
  part_less e = rw (e, block-ends) (omega (arith, count-common line_end x front))

  -- all lines of the block are there
  pub lines-whole : common_lines x block ≡ count_of line_end block → common_lines x (block ++ rest) ≡ count_of line_end block + common_lines (drop (length block) x) rest
  lines-whole e =
      ⊎_elim
      (λ (w : Whole x block rest). unfold common_lines in (ap (count_of line_end) w.1 ∙ count-append line_end block (common (drop (length block) x) rest)))
      (λ (p : Part x front rest). absurd (omega (arith, part_less p.0, e)))
      (ended x front rest)

  -- a line of it is not
  pub lines-part : common_lines x block < count_of line_end block → common_lines x (block ++ rest) ≡ common_lines x block
  lines-part h =
      ⊎_elim
      (λ (w : Whole x block rest). let e : common_lines x block ≡ count_of line_end block = unfold common_lines in ap (count_of line_end) w.0 in absurd (omega (arith, e, h)))
      (λ (p : Part x front rest). unfold common_lines in ap (count_of line_end) p.1)
      (ended x front rest)

  -- and never more than all
  pub lines-most : common_lines x block ≤ count_of line_end block
  unfolding common_lines
  lines-most = count-common line_end x block

-- a list with all lines of another begins with it
pub lines-all : (x front : List ℕ) → common_lines x (front ++ (line_end ∷ [])) ≡ count_of line_end (front ++ (line_end ∷ [])) → common x (front ++ (line_end ∷ [])) ≡ front ++ (line_end ∷ [])
lines-all x front e =
    ⊎_elim
    (λ (w : Whole x (front ++ (line_end ∷ [])) []). w.0)
    (λ (p : Part x front []). absurd (omega (arith, part_less x front [] p.0, e)))
    (ended x front [])

-- ---- byte by byte

module _ (x y : List ℕ) (j : ℕ) where
  pub lines_other : j < length x → j < length y → (get_or x j 0 ≡ get_or y j 0 → ⊥) → common_lines (drop j x) (drop j y) ≡ 0
  unfolding common_lines common count_of
  lines_other hx hy e = rw (drop-cons x j 0 hx, drop-cons y j 0 hy, ne_eqb (get_or x j 0) (get_or y j 0) e)

  pub lines_next : j < length x → j < length y → get_or x j 0 ≡ get_or y j 0
      → cond (eqb (get_or x j 0) line_end) 1 0 + common_lines (drop (j + 1) x) (drop (j + 1) y) ≡ common_lines (drop j x) (drop j y)
  unfolding common_lines common count_of
  lines_next hx hy e = rw (drop-cons x j 0 hx, drop-cons y j 0 hy, eq-eqb (get_or x j 0) (get_or y j 0) e, add-one)
