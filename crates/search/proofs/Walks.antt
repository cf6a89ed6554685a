-- The laws of `specs/Walks.antt` that a wrong definition breaks, and what rests on them. The head there tells of both files.
-- Assumes nothing.
use Rattle.std.specs.Prelude.{◌≡◌}
use Rattle.std.proofs.Math.Path.{refl, ap₂}
use Rattle.std.proofs.Common.{sym, ap, ◌∙◌, add_assoc, arith}
use Prim.Native.Nat.{ℕ, zero, suc, ◌+◌, ◌-◌, ◌≤◌, ◌<◌}
use Rattle.std.proofs.Math.Nat.{add-zero, add-suc}
use Rattle.search.specs.Search.{normal_leader, joined, candidate_of, walked, ranged, Answered, nothing, count_of, counted}
use Rattle.search.specs.Joined.{joined-nothing, joined_answered}
use Rattle.search.proofs.Joined.{joined_assoc, joined-count}
use Rattle.search.specs.declared.answer.Search.TheVariants.{Nothing}
use Rattle.search.specs.Walks.{candidate_answered, candidate_count}

-- ---- the walk

module _ (f n first : ℕ) where
  pub walked_none : walked f n first 0 ≡ Nothing
  unfolding walked
  walked_none = refl

  pub walked_next : (k : ℕ) → walked f n first (suc k) ≡ joined (walked f n first k) (candidate_of f n (first + k))
  unfolding walked
  walked_next k = refl

  pub walked_answered : (k : ℕ) → Answered (walked f n first k)
  unfolding walked
  walked_answered zero = nothing
  walked_answered (suc k) = joined_answered (walked_answered k) (candidate_answered f n (first + k))

  -- a walk may be cut anywhere
  pub walked_cut : (j k : ℕ) → walked f n first (j + k) ≡ joined (walked f n first j) (walked f n (first + j) k)
  unfolding walked
  walked_cut j zero = rw add-zero (sym (joined-nothing (walked f n first j)))
  walked_cut j (suc k) =
      rw add-suc
      (ap₂ joined (walked_cut j k) (ap (candidate_of f n) (sym (add_assoc first j k)))
      ∙ joined_assoc (walked f n first j) (walked f n (first + j) k) (candidate_of f n (first + j + k)))

  -- ---- counts

  pub walked-count : (k : ℕ) → count_of (walked f n first k) ≡ counted first k (normal_leader f n)
  unfolding walked counted count_of
  walked-count zero = refl
  walked-count (suc k) =
      joined-count (walked_answered k) (candidate_answered f n (first + k)) ∙ ap₂ ◌+◌ (walked-count k) (candidate_count f n (first + k))

-- ---- from first to last

module _ (f n first last : ℕ) where
  pub ranged-count : count_of (ranged f n first last) ≡ counted first (suc last - first) (normal_leader f n)
  unfolding ranged
  ranged-count = walked-count f n first (suc last - first)

  pub ranged_answered : Answered (ranged f n first last)
  unfolding ranged
  ranged_answered = walked_answered f n first (suc last - first)

-- adjoining ranges
pub ranged_cut : (f n first mid last : ℕ) → first ≤ mid → mid < last
    → ranged f n first last ≡ joined (ranged f n first mid) (ranged f n (suc mid) last)
unfolding ranged
ranged_cut f n first mid last h l =
    let s : suc last - first ≡ (suc mid - first) + (suc last - suc mid) = omega arith in
    let t : first + (suc mid - first) ≡ suc mid = omega arith in
    ap (walked f n first) s ∙ walked_cut f n first (suc mid - first) (suc last - suc mid)
    ∙ ap (λ (m : ℕ). joined (walked f n first (suc mid - first)) (walked f n m (suc last - suc mid))) t
