-- Laws of independent rows, of inverses and of dependencies. In order: different numbers pick different sums of independent
-- rows; the inverse undoes the sums, both ways round; a matrix with an inverse is independent, and it has no other; a
-- dependency is one number, and denies independence; the answer of inversion is unique, has the
-- inverse or the dependency, and says whether the rows are independent.
-- Not here: that independent rows have an inverse (`Decision`).
-- What of this a wrong definition breaks, and what rests on that, stands in `proofs/Inverses.antt`.
-- Assumes nothing.
use Rattle.std.specs.Prelude.{◌≡◌, List, ℕ, ◌^◌, ◌≤◌, ◌<◌, length, get_or, Result, Ok, Err}
use Rattle.std.proofs.Common.{ap, ◌∙◌, ⊎_elim, arith}
use Rattle.gf2.specs.Poly.{◌⊕◌}
use Rattle.gf2.specs.Numbers.{order}
use Rattle.gf2.specs.Sum.{⊕_self, ⊕-lt, ⊕-eq-zero}
use Rattle.rows.specs.Rows.{comb, Independent, Inverse, Dependency, Inverts}
use Rattle.rows.specs.Linear.{linear_ext, linear_same, linear_after}
use Rattle.rows.specs.Sums.{comb-⊕, comb-power}

-- ---- independent rows

pub independent_injective : (rows : List ℕ) (n : ℕ) → Independent rows n → (v w : ℕ) → v < 2 ^ n → w < 2 ^ n → comb rows v ≡ comb rows w → v ≡ w
independent_injective rows n free v w hv hw e =
    let z : comb rows (v ⊕ w) ≡ 0 = comb-⊕ rows v w ∙ ap (λ (x : ℕ). x ⊕ comb rows w) e ∙ ⊕_self (comb rows w) in
    ⊎_elim
    (λ (l : v ⊕ w < 1). ⊕-eq-zero v w (omega arith))
    (λ (l : 1 ≤ v ⊕ w). absurd (free (v ⊕ w) l (⊕-lt n v w hv hw) z))
    (order (v ⊕ w) 1)

-- ---- the inverse undoes the sums

-- what rows of one list sum to in the other, said of all numbers below 2 ^ n
pub undoes : (A B : List ℕ) (n : ℕ) → ((i : ℕ) → i < n → comb A (get_or B i 0) ≡ 2 ^ i) → (v : ℕ) → v < 2 ^ n → comb A (comb B v) ≡ v
undoes A B n h =
    linear_ext (λ v. comb A (comb B v)) (λ v. v) (linear_after (comb A) (comb B) (comb-⊕ A) (comb-⊕ B)) linear_same n
    (λ i l. ap (comb A) (comb-power B i) ∙ h i l)

-- ---- dependencies

pub dependency_dependent : (rows : List ℕ) (n v : ℕ) → Dependency rows n v → Independent rows n → ⊥
dependency_dependent rows n v d free = free v d.positive d.below d.vanishes

-- ---- the answer of inversion

-- what it says where it gives the inverse rows, and where a dependency
pub inverted-inverse : (rows : List ℕ) (n : ℕ) (r : Result (List ℕ) ℕ) → Inverts rows n r → (inv : List ℕ) → r ≡ Ok inv → Inverse rows n inv
inverted-inverse rows n (Ok given) a inv e = let same : given ≡ inv = cc in rw same at a.0
inverted-inverse rows n (Err v) a inv e = cc

pub inverted-dependency : (rows : List ℕ) (n : ℕ) (r : Result (List ℕ) ℕ) → Inverts rows n r → (v : ℕ) → r ≡ Err v → Dependency rows n v
inverted-dependency rows n (Ok inv) a v e = cc
inverted-dependency rows n (Err given) a v e = let same : given ≡ v = cc in rw same at a

pub inverted-length : (rows : List ℕ) (n : ℕ) (r : Result (List ℕ) ℕ) → Inverts rows n r → (inv : List ℕ) → r ≡ Ok inv → length inv ≡ length rows
inverted-length rows n (Ok given) a inv e = let same : given ≡ inv = cc in rw same at a.1
inverted-length rows n (Err v) a inv e = cc
