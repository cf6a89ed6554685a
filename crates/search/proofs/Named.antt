-- What the walk over a range names: the best normal leader there, and nothing exactly where there is none.
--
--   Names f n first stop x     the found record x names the best normal leader from first to below stop, by the order of complexities and elements
--   Answers f n first stop w   w is the right answer there, but for its count
--
-- Assumes nothing.
use Rattle.std.specs.Prelude.{◌≡◌, ◌⊎◌, ◌↔◌, true, false}
use Rattle.std.proofs.Math.Path.{refl, sym, ap}
use Rattle.std.proofs.Common.{◌∙◌, inl, inr, le_antisymm, add-zero, add-suc, add-sub_of_le}
use Rattle.std.proofs.Math.Logic.{⊎_elim}
use Prim.Native.Nat.{ℕ, zero, suc, ◌+◌, ◌-◌, ◌≤◌, ◌<◌}
use Rattle.std.proofs.Math.Nat.{le_refl}
use native.Mathlib.Omega.{arith}
use Rattle.gf2.specs.Numbers.{order}
use Rattle.gf2.specs.Truth.{bool_cases, not_both, not_true_false}
use Rattle.normal.specs.declared.grade.Grade.{Grade}
use Rattle.search.specs.Search.{normal_leader, complexity_at, grade_at, found_by, alone, precedes, with_count, joined, candidate_of, walked, ranged, Answered, nothing, found, count_of, counted, Named}
use Rattle.search.specs.Preceding.{not_precedes, precedes_trans, precedes_self}
use Rattle.search.specs.Joined.{before, better-left, joined-nothing}
use Rattle.search.proofs.Joined.{better-right}
use Rattle.search.specs.declared.answer.Best.{Best}
use Rattle.search.specs.declared.answer.Search.{Search}
use Rattle.search.specs.declared.answer.Search.TheVariants.{Nothing, Found}
use Rattle.search.specs.Walks.{candidate_is, candidate_none}
use Rattle.search.proofs.Walks.{ranged-count, ranged_answered}

record Names (f n first stop : ℕ) (x : Best) : Type 0 where
  pub from : first ≤ x.element
  pub below : x.element < stop
  pub leads : normal_leader f n x.element ≡ true
  pub ones : x.complexity ≡ complexity_at f n x.element
  pub graded : x.grade ≡ grade_at f n x.element
  pub least : (a : ℕ) → first ≤ a → a < stop → normal_leader f n a ≡ true
      → precedes (complexity_at f n a) a x.complexity x.element ≡ false

-- "nothing, when no normal leader lies in the range"
data Answers (f n first stop : ℕ) : Search → Type 0 where
  none : ((a : ℕ) → first ≤ a → a < stop → normal_leader f n a ≡ true → ⊥) → Answers f n first stop Nothing
  best : (x : Best) → Names f n first stop x → Answers f n first stop (Found x)

-- one more element
module _ (f n first m : ℕ) (h : first ≤ m) where
  below_next : (a : ℕ) → a < suc m → (a < m) ⊎ (a ≡ m)
  below_next a l = ⊎_elim (λ (u : a < m). inl u) (λ (u : m ≤ a). inr (omega arith)) (order a m)

  module _ (e : normal_leader f n m ≡ false) where
    passed_by : {w : Search} → Answers f n first m w → Answers f n first (suc m) w
    passed_by (none empty) =
        none (λ a p l t. ⊎_elim (λ (u : a < m). empty a p u t) (λ (u : a ≡ m). not_both (normal_leader f n m) (rw u at t) e) (below_next a l))
    passed_by (best x s) =
        best x
        (record {
          from = s.from;
          below = omega (arith, s.below);
          leads = s.leads;
          ones = s.ones;
          graded = s.graded;
          least = λ a p l t. ⊎_elim (λ (u : a < m). s.least a p u t) (λ (u : a ≡ m). absurd (not_both (normal_leader f n m) (rw u at t) e)) (below_next a l);
        })

  module _ (e : normal_leader f n m ≡ true) where
    abbrev here : Best
    here = alone f n m

    -- none of those met comes before it
    taken : (k : ℕ) → ((a : ℕ) → first ≤ a → a < m → normal_leader f n a ≡ true → precedes (complexity_at f n a) a (complexity_at f n m) m ≡ false)
        → Names f n first (suc m) (with_count here k)
    unfolding found_by grade_at
    taken k all =
        record {
          from = h;
          below = le_refl (suc m);
          leads = e;
          ones = refl;
          graded = refl;
          least = λ a p l t. ⊎_elim (λ (u : a < m). all a p u t) (λ (u : a ≡ m). rw u (precedes_self (complexity_at f n m) m)) (below_next a l);
        }

    joined-here : {w : Search} → Answers f n first m w → Answers f n first (suc m) (joined w (Found here))
    unfolding joined found_by
    joined-here (none empty) = best here (taken 1 (λ a p u t. absurd (empty a p u t)))
    joined-here (best x s) =
        ⊎_elim
        (λ (q : before here x ≡ true).
        rw (better-right x here q)
        (best (with_count here (x.count + 1))
        (taken (x.count + 1)
        (λ a p u t. not_true_false (precedes (complexity_at f n a) a (complexity_at f n m) m)
        (λ r. not_both (precedes (complexity_at f n a) a x.complexity x.element)
        (precedes_trans (complexity_at f n a) a (complexity_at f n m) m x.complexity x.element r q) (s.least a p u t))))))
        (λ (q : before here x ≡ false).
        rw (better-left x here q)
        (best (with_count x (x.count + 1))
        (record {
          from = s.from;
          below = omega (arith, s.below);
          leads = s.leads;
          ones = s.ones;
          graded = s.graded;
          least = λ a p l t. ⊎_elim (λ (u : a < m). s.least a p u t) (λ (u : a ≡ m). rw u q) (below_next a l);
        })))
        (bool_cases (before here x))

  next_answers : {w : Search} → Answers f n first m w → Answers f n first (suc m) (joined w (candidate_of f n m))
  next_answers {w} s =
      ⊎_elim
      (λ (e : normal_leader f n m ≡ true). rw (candidate_is f n m e) (joined-here e s))
      (λ (e : normal_leader f n m ≡ false). rw (candidate_none f n m e, joined-nothing w) (passed_by e s))
      (bool_cases (normal_leader f n m))

walked_answers : (f n first k : ℕ) → Answers f n first (first + k) (walked f n first k)
unfolding walked
walked_answers f n first zero = none (λ a p l t. omega (arith, add-zero first))
walked_answers f n first (suc k) = rw add-suc (next_answers f n first (first + k) (omega arith) (walked_answers f n first k))

-- ---- from first to last

abbrev made : (element complexity : ℕ) → Grade → (count : ℕ) → Best
made e c g k = record { element = e; complexity = c; grade = g; count = k }

made-same : {e e' c c' k k' : ℕ} {g g' : Grade} → e ≡ e' → c ≡ c' → g ≡ g' → k ≡ k' → made e c g k ≡ made e' c' g' k'
made-same p q r t = rw (p, q, r, t)

best-same : (x y : Best) → x.element ≡ y.element → x.complexity ≡ y.complexity → x.grade ≡ y.grade → x.count ≡ y.count → x ≡ y
best-same x y = made-same

module _ (f n first last : ℕ) where
  -- two records that are named differ in their counts at most
  named-same : (x y : Best) → Named f n first last x → Named f n first last y → y.count ≡ x.count → x ≡ y
  named-same x y s t k =
      let c : x.complexity ≡ y.complexity =
      le_antisymm (rw (← t.ones) at (s.fewest y.element t.from t.upto t.leads)) (rw (← s.ones) at (t.fewest x.element s.from s.upto s.leads)) in
      let e : x.element ≡ y.element =
      le_antisymm (s.smallest y.element t.from t.upto t.leads (sym t.ones ∙ sym c)) (t.smallest x.element s.from s.upto s.leads (sym s.ones ∙ c)) in
      let g : x.grade ≡ y.grade = s.graded ∙ ap (grade_at f n) e ∙ sym t.graded in
      best-same x y e c g (sym k)

  -- what is found has the complexity and the grade of its own element
  pub ranged-own : (x : Best) → ranged f n first last ≡ Found x → (x.complexity ≡ complexity_at f n x.element) × (x.grade ≡ grade_at f n x.element)
  unfolding ranged
  ranged-own x e = go (rw e at (walked_answers f n first (suc last - first)))
    where
      go : Answers f n first (first + (suc last - first)) (Found x) → (x.complexity ≡ complexity_at f n x.element) × (x.grade ≡ grade_at f n x.element)
      go (best y s) = (s.ones, s.graded)

  module _ (h : first ≤ last) where
    ranged_answers : Answers f n first (suc last) (ranged f n first last)
    unfolding ranged
    ranged_answers =
        let l : first ≤ suc last = omega arith in
        rw (add-sub_of_le l) at (walked_answers f n first (suc last - first))

    pub ranged-nothing : (ranged f n first last ≡ Nothing) ↔ ((a : ℕ) → first ≤ a → a ≤ last → normal_leader f n a ≡ true → ⊥)
    ranged-nothing = (λ e. met (rw e at ranged_answers), λ empty. only empty ranged_answers)
      where
        met : Answers f n first (suc last) Nothing → (a : ℕ) → first ≤ a → a ≤ last → normal_leader f n a ≡ true → ⊥
        met (none empty) a p l t = empty a p (omega arith) t

        only : {w : Search} → ((a : ℕ) → first ≤ a → a ≤ last → normal_leader f n a ≡ true → ⊥) → Answers f n first (suc last) w → w ≡ Nothing
        only empty (none _) = refl
        only empty (best x s) = absurd (empty x.element s.from (omega (arith, s.below)) s.leads)

    pub ranged-named : (x : Best) → ranged f n first last ≡ Found x → Named f n first last x
    ranged-named x e = go (rw e at ranged_answers)
      where
        go : Answers f n first (suc last) (Found x) → Named f n first last x
        go (best y s) =
            record {
              from = s.from;
              upto = omega (arith, s.below);
              leads = s.leads;
              ones = s.ones;
              graded = s.graded;
              fewest = λ a p l t. ⊎_elim
                  (λ (u : x.complexity < complexity_at f n a). omega arith)
                  (λ (u : (x.complexity ≡ complexity_at f n a) × (x.element ≤ a)). omega (arith, u.0))
                  (not_precedes (complexity_at f n a) a x.complexity x.element (s.least a p (omega arith) t));
              smallest = λ a p l t q. ⊎_elim
                  (λ (u : x.complexity < complexity_at f n a). absurd (omega arith))
                  (λ (u : (x.complexity ≡ complexity_at f n a) × (x.element ≤ a)). u.1)
                  (not_precedes (complexity_at f n a) a x.complexity x.element (s.least a p (omega arith) t));
            }

    -- "found, with the element, its complexity, its grade and the count of normal leaders in the range"
    pub ranged-found : (x : Best)
        → (ranged f n first last ≡ Found x) ↔ (Named f n first last x × (x.count ≡ counted first (suc last - first) (normal_leader f n)))
    unfolding count_of
    ranged-found x = (λ e. (ranged-named x e, sym (ap count_of e) ∙ ranged-count f n first last), λ s. go (ranged f n first last) refl s.0 s.1 (ranged_answered f n first last))
      where
        go : (w : Search) → ranged f n first last ≡ w → Named f n first last x → x.count ≡ counted first (suc last - first) (normal_leader f n) → Answered w
            → ranged f n first last ≡ Found x
        go w e s k nothing = absurd (ranged-nothing.0 e x.element s.from s.upto s.leads)
        go w e s k (found y) = e ∙ ap Found (named-same y x (ranged-named y e) s (k ∙ sym (ranged-count f n first last) ∙ ap count_of e))
