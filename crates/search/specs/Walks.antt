-- The walk over a range: one element, the walk by turns, how it is cut anywhere, and its count, which is that of all normal leaders
-- there. What it names: `Named`.
-- What of this a wrong definition breaks, and what rests on that, stands in `proofs/Walks.antt`.
-- Assumes nothing.
use Rattle.std.specs.Prelude.{◌≡◌, true, false, cond}
use Rattle.std.proofs.Common.{le_refl, arith}
use Rattle.std.proofs.Math.Logic.{⊎_elim}
use Prim.Native.Nat.{ℕ, ◌≤◌}
use Rattle.gf2.specs.Truth.{bool_cases, and_parts}
use Rattle.normal.specs.Normal.{normal}
use Rattle.search.specs.Search.{leader, normal_leader, found_by, alone, candidate_of, Answered, nothing, found, count_of}
use Rattle.search.specs.declared.answer.Search.TheVariants.{Nothing, Found}

-- ---- one element

module _ (f n a : ℕ) where
  pub candidate_is : normal_leader f n a ≡ true → candidate_of f n a ≡ Found (alone f n a)
  unfolding candidate_of
  candidate_is e = rw e

  pub candidate_none : normal_leader f n a ≡ false → candidate_of f n a ≡ Nothing
  unfolding candidate_of
  candidate_none e = rw e

  pub normal-leader : leader f n a ≡ true → normal f n a ≡ true → normal_leader f n a ≡ true
  unfolding normal_leader
  normal-leader p q = rw (p, q)

  pub no_leader : leader f n a ≡ false → normal_leader f n a ≡ false
  unfolding normal_leader
  no_leader p = rw p

  pub not_normal : leader f n a ≡ true → normal f n a ≡ false → normal_leader f n a ≡ false
  unfolding normal_leader
  not_normal p q = rw (p, q)

  pub leader_is_normal : normal_leader f n a ≡ true → normal f n a ≡ true
  unfolding normal_leader
  leader_is_normal e = (and_parts (leader f n a) (normal f n a) e).1

  pub candidate_answered : Answered (candidate_of f n a)
  candidate_answered =
      ⊎_elim
      (λ (e : normal_leader f n a ≡ true). rw (candidate_is e) (found (alone f n a)))
      (λ (e : normal_leader f n a ≡ false). rw (candidate_none e) nothing)
      (bool_cases (normal_leader f n a))

  pub candidate_count : count_of (candidate_of f n a) ≡ cond (normal_leader f n a) 1 0
  unfolding count_of found_by
  candidate_count =
      ⊎_elim
      (λ (e : normal_leader f n a ≡ true). rw (candidate_is e, e))
      (λ (e : normal_leader f n a ≡ false). rw (candidate_none e, e))
      (bool_cases (normal_leader f n a))

  pub candidate_count-le : count_of (candidate_of f n a) ≤ 1
  candidate_count-le =
      ⊎_elim
      (λ (e : normal_leader f n a ≡ true). rw (candidate_count, e) (le_refl 1))
      (λ (e : normal_leader f n a ≡ false). rw (candidate_count, e) (omega arith))
      (bool_cases (normal_leader f n a))
