-- One leader joined to what is held, as far as it is decided: its count of ones has to be exact only up to a bound that what is held gives.
--
--   unbounded                the largest number of 32 bits, which no count passes
--   as_answer held           the answer that a walk holds: found, or nothing; it is no refusal
--   bound_of w                how many ones a table may have and still be the best beside w
--   Joinable f n w a x       a is a leader of which x is decided, as far as joining it to w needs, and one more can be counted
--
-- In order: a record with an inexact count is kept or not as the exact one would be; a found record joined, case by case; the found
-- record of an element, and when it is a new best; the leader that is joined.
-- What of this a wrong definition breaks, and what rests on that, stands in `proofs/JoiningLaws.antt`.
-- Assumes nothing.
use Rattle.std.specs.Prelude.{◌≡◌, true, false, ℕ, ◌+◌, ◌^◌, ◌≤◌, ◌<◌}
use Rattle.std.proofs.Math.Path.{refl, sym, ap}
use Rattle.std.proofs.Common.{◌∙◌, inl, inr}
use Rattle.std.proofs.Math.Logic.{⊎_elim}
use native.Mathlib.Omega.{arith}
use Rattle.gf2.specs.Numbers.{order}
use Rattle.gf2.specs.Truth.{not_true_false}
use Rattle.normal.specs.Normal.{normal}
use Rattle.field.specs.Accepted.{Operand}
use Rattle.elements.specs.Fields.{ElementOf}
use Rattle.elements.specs.Ones.{Within}
use Rattle.elements.specs.Decided.{Decides}
use Rattle.std.specs.declared.option.Option.{Option}
use Rattle.std.specs.declared.option.Option.TheVariants.{None, Some}
use Rattle.search.specs.Search.{leader, complexity_at, found_by, better, joined, candidate_of, count_of}
use Rattle.search.specs.Preceding.{Precedes, precedes-means}
use Rattle.search.specs.Joined.{before, better-left, joined-nothing}
use Rattle.search.specs.Walks.{candidate_is, candidate_none, normal-leader, not_normal}
use Rattle.refusals.specs.declared.fault.Fault.{Fault}
use Rattle.search.specs.declared.answer.Best.{Best}
use Rattle.search.specs.declared.answer.Search.{Search}
use Rattle.search.specs.declared.answer.Search.TheVariants.{Refused, Nothing, Found}

abbrev pub unbounded : ℕ
unbounded = 4294967295

abbrev pub as_answer : Option Best → Search
as_answer None = Nothing
as_answer (Some x) = Found x

-- Nothing is joined to a refusal, so that there any bound will do.
abbrev pub bound_of : Search → ℕ
bound_of (Refused k) = 0
bound_of Nothing = unbounded
bound_of (Found x) = x.complexity

pub record Joinable (f n : ℕ) (w : Search) (a : ℕ) (x : Option ℕ) : Type 0 where
  pub of_element : ElementOf f n a
  pub leads : leader f n a ≡ true
  pub decides : Decides f n a (bound_of w) x
  pub counts : count_of w + 1 < 2 ^ 64

-- ---- an inexact count

module _ (f n a : ℕ) (x : Best) where
  -- above the bound nothing comes before x
  behind : (c : ℕ) → x.complexity < c → before (found_by f n a c) x ≡ false
  unfolding found_by
  behind c h = not_true_false (before (found_by f n a c) x) (λ p. go ((precedes-means c a x.complexity x.element).0 p))
    where
      go : Precedes c a x.complexity x.element → ⊥
      go (inl u) = omega arith
      go (inr u) = omega (arith, u.0)

  better-within : (c d : ℕ) → Within x.complexity c d → better x (found_by f n a c) ≡ better x (found_by f n a d)
  unfolding found_by
  better-within c d e =
      ⊎_elim
      (λ (h : x.complexity < c).
      let l : x.complexity < d = omega arith in
      better-left x (found_by f n a c) (behind c h) ∙ sym (better-left x (found_by f n a d) (behind d l)))
      (λ (h : c ≤ x.complexity).
      let s : c ≡ d = omega arith in
      ap (λ (k : ℕ). better x (found_by f n a k)) s)
      (order x.complexity c)

-- c is a number of 32 bits
joined-within : (f n a : ℕ) (w : Search) (c d : ℕ) → c ≤ unbounded → Within (bound_of w) c d
    → joined w (Found (found_by f n a c)) ≡ joined w (Found (found_by f n a d))
unfolding joined
joined-within f n a (Refused k) c d h e = refl
joined-within f n a Nothing c d h e = let s : c ≡ d = omega arith in ap (λ (k : ℕ). Found (found_by f n a k)) s
joined-within f n a (Found x) c d h e = ap Found (better-within f n a x c d e)

-- ---- a found record, by the cases of what is held

pub join_refused : (w : Search) (k : Fault) (x : Best) → w ≡ Refused k → Refused k ≡ joined w (Found x)
unfolding joined
join_refused w k x e = rw e

pub join_first : (w : Search) (x y : Best) → w ≡ Nothing → y ≡ x → Found y ≡ joined w (Found x)
unfolding joined
join_first w x y e ey = rw (e, ey)

pub join_better : (w : Search) (x held r : Best) → w ≡ Found held → r ≡ better held x → Found r ≡ joined w (Found x)
unfolding joined
join_better w x held r e er = rw (e, er)

pub counts_fit : (w : Search) (x : Best) → w ≡ Found x → count_of w + 1 < 2 ^ 64 → x.count + 1 < 2 ^ 64
unfolding count_of
counts_fit w x e h = rw e at h

-- ---- the found record of a

pub operand_of : {f n a : ℕ} → ElementOf f n a → Operand f n a
operand_of s =
    let d = s.of_field in
    record { in_range = record { two = d.two; most = d.most; is_degree = d.is_degree }; small = s.below }

-- ---- the leader a

module _ (f n : ℕ) (w : Search) (a : ℕ) (x : Option ℕ) (s : Joinable f n w a x) where
  pub join_not_normal : x ≡ None → w ≡ joined w (candidate_of f n a)
  join_not_normal e =
      let t : normal f n a ≡ false = rw e at s.decides in
      sym (rw (candidate_none f n a (not_normal f n a s.leads t)) (joined-nothing w))

  pub join_normal : (c : ℕ) → x ≡ Some c → c ≤ unbounded → (r : Search) → r ≡ joined w (Found (found_by f n a c)) → r ≡ joined w (candidate_of f n a)
  unfolding complexity_at
  join_normal c e h r er =
      let t : Decides f n a (bound_of w) (Some c) = rw e at s.decides in
      er
      ∙ joined-within f n a w c (complexity_at f n a) h t.1
      ∙ ap (joined w) (sym (candidate_is f n a (normal-leader f n a s.leads t.0)))
