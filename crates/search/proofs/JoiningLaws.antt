-- The laws of `specs/Joining.antt` that a wrong definition breaks, and what rests on them. The head there tells of both files.
-- Assumes nothing.
use Rattle.std.specs.Prelude.{◌≡◌, true, false, ℕ, ◌+◌}
use Rattle.std.proofs.Math.Path.{refl}
use Rattle.search.specs.Search.{found_by, precedes, with_count, better}
use Rattle.search.specs.Joined.{better-left}
use Rattle.search.proofs.Joined.{better-right}
use Rattle.search.specs.declared.answer.Best.{Best}

-- ---- the found record of a

module _ (f n a : ℕ) where
  pub found_once : (c : ℕ) → with_count (found_by f n a c) 1 ≡ found_by f n a c
  unfolding found_by
  found_once c = refl

  module _ (x : Best) (c : ℕ) where
    -- a new best
    pub better-new : precedes c a x.complexity x.element ≡ true → better x (found_by f n a c) ≡ with_count (found_by f n a c) (x.count + 1)
    unfolding found_by
    better-new e = better-right x (found_by f n a c) e

    pub better-kept : precedes c a x.complexity x.element ≡ false → better x (found_by f n a c) ≡ with_count x (x.count + 1)
    unfolding found_by
    better-kept e = better-left x (found_by f n a c) e
