-- A matrix has an inverse or a dependency: the insertion, carried out in the laws. So its rows are independent exactly if it
-- has an inverse, and an inverse on the right is one on the left too. `independent-means`: the test of independence says what it should.
-- What of this a wrong definition breaks, and what rests on that, stands in `proofs/Decision.antt`.
-- Assumes nothing.
use Rattle.std.specs.Prelude.{◌≡◌, ◌↔◌, Bool, true, ◌&&◌, List, ℕ, ◌^◌, ltb, eqb, length}
use Rattle.std.proofs.Common.{lt-ltb, ltb-true, eq-eqb, eqb-true}
use Rattle.gf2.specs.Truth.{not_true, and_parts, and_both}
use Rattle.gf2.specs.Bounded.{some}
use Rattle.gf2.specs.Existence.{none-means}
use Rattle.rows.specs.Rows.{comb, Independent, independent}
use Rattle.rows.specs.Insertion.{Inserted}

-- ---- the insertion

-- k rows are in
pub record Stage (C : List ℕ) (n k : ℕ) : Type 0 where
  pub a : List ℕ
  pub b : List ℕ
  pub p : ℕ
  pub in_place : Inserted C n k a b p
  pub size-a : length a ≡ n
  pub size-b : length b ≡ n

-- ---- the test

pub independent-means : (rows : List ℕ) (n : ℕ) → (independent rows n ≡ true) ↔ Independent rows n
unfolding independent
independent-means rows n =
    let t : ℕ → Bool = λ v. ltb 0 v && eqb (comb rows v) 0 in (
      λ e v p l z. (none-means (2 ^ n) t).0 ((not_true (some (2 ^ n) t)).0 e) v l (and_both (ltb 0 v) (eqb (comb rows v) 0) (lt-ltb 0 v p) (eq-eqb (comb rows v) 0 z)),
      λ free. (not_true (some (2 ^ n) t)).1
          ((none-means (2 ^ n) t).1
          (λ v l e.
          let b = and_parts (ltb 0 v) (eqb (comb rows v) 0) e in
          free v (ltb-true 0 v b.0) l (eqb-true (comb rows v) 0 b.1))),
    )
