-- The laws of `specs/Decision.antt` that a wrong definition breaks, and what rests on them. The head there tells of both files.
-- Assumes nothing.
use Rattle.std.specs.Prelude.{◌≡◌, refl, ◌⊎◌, ◌↔◌, List, ℕ, zero, suc, ◌+◌, ◌^◌, ◌≤◌, ◌<◌, set, get_or, replicate}
use Rattle.std.proofs.Common.{sym, ap, ◌∙◌, inl, inr, ⊎_elim, le_refl, add-one, arith}
use Rattle.std.specs.Int.Count.{count_trailing_zeros}
use Rattle.std.proofs.lemmas.List.{length-replicate}
use Rattle.gf2.specs.Poly.{◌⊕◌}
use Rattle.gf2.specs.Numbers.{order}
use Rattle.rows.specs.Rows.{comb, Matrix, Independent, Inverse, Dependency}
use Rattle.rows.specs.Sums.{comb-zero, comb-power, comb-lt}
use Rattle.rows.specs.Bits.{◌∩◌}
use Rattle.rows.specs.Inverses.{undoes, dependency_dependent}
use Rattle.rows.proofs.Inverses.{inverse-right, inverse-independent}
use Rattle.rows.specs.Added.{added, length-placed}
use Rattle.rows.specs.Insertion.{Reduced, pivot_set, insertion_start}
use Rattle.rows.proofs.Insertion.{row_reduced, row_dependent}
use Rattle.rows.proofs.Placing.{insertion_turn, insertion_end}
use Rattle.rows.specs.Decision.{Stage}

-- ---- the insertion

module _ (C : List ℕ) (n : ℕ) (rows-lt : (i : ℕ) → get_or C i 0 < 2 ^ n) where
  next : (k : ℕ) → k < n → Stage C n k → Stage C n (k + 1) ⊎ ((v : ℕ) × Dependency C n v)
  next k h s =
      let row : ℕ = get_or C k 0 in
      let r = row_reduced s.in_place rows-lt (comb s.a (row ∩ s.p)) (comb s.b (row ∩ s.p)) (2 ^ k) refl refl refl in
      go (row ⊕ comb s.a (row ∩ s.p)) (2 ^ k ⊕ comb s.b (row ∩ s.p)) r
    where
      go : (x t : ℕ) → Reduced C n k s.b s.p x t → Stage C n (k + 1) ⊎ ((v : ℕ) × Dependency C n v)
      go x t r =
          ⊎_elim
          (λ (z : x < 1). inr (t, row_dependent s.in_place rows-lt r h (omega arith)))
          (λ (l : 1 ≤ x).
          let c : ℕ = count_trailing_zeros n x in
          inl
          record {
            a = set (added n c x s.a s.a) c x;
            b = set (added n c t s.a s.b) c t;
            p = s.p ⊕ 2 ^ c;
            in_place =
                insertion_turn s.in_place rows-lt r c n n (pivot_set n r (λ e. omega arith) (le_refl n)) s.in_place.columns
                s.size-a s.size-b (le_refl n) (le_refl n);
            size-a = length-placed c x s.a s.a n ∙ s.size-a;
            size-b = length-placed c t s.a s.b n ∙ s.size-b;
          })
          (order x 1)

  stages : (k : ℕ) → k ≤ n → Stage C n k ⊎ ((v : ℕ) × Dependency C n v)
  stages zero h =
      inl
      record {
        a = replicate n 0;
        b = replicate n 0;
        p = 0;
        in_place = insertion_start C n n;
        size-a = length-replicate n 0;
        size-b = length-replicate n 0;
      }
  stages (suc k) h =
      ⊎_elim
      (λ (s : Stage C n k). rw add-one at (next k h s))
      (λ (d : (v : ℕ) × Dependency C n v). inr d)
      (stages k (omega arith))

  pub inverse-or-dependency : ((inv : List ℕ) × Inverse C n inv) ⊎ ((v : ℕ) × Dependency C n v)
  inverse-or-dependency =
      ⊎_elim
      (λ (s : Stage C n n). inl (s.b, insertion_end s.in_place rows-lt refl))
      (λ (d : (v : ℕ) × Dependency C n v). inr d)
      (stages n (le_refl n))

-- ---- what follows

module _ (rows : List ℕ) (n : ℕ) (m : Matrix rows n) where
  -- independent exactly if it has an inverse
  pub independent-inverse : Independent rows n ↔ ((inv : List ℕ) × Inverse rows n inv)
  independent-inverse = (
    λ free.
        ⊎_elim
        (λ (i : (inv : List ℕ) × Inverse rows n inv). i)
        (λ (d : (v : ℕ) × Dependency rows n v). absurd (dependency_dependent rows n d.0 d.1 free))
        (inverse-or-dependency rows n m.row_lt),
    λ i. inverse-independent rows n i.0 i.1,
  )

  -- every number below 2 ^ n is a sum of independent rows
  pub independent_onto : Independent rows n → (y : ℕ) → y < 2 ^ n → (v : ℕ) × (v < 2 ^ n) × (comb rows v ≡ y)
  independent_onto free y h =
      let i = independent-inverse.0 free in
      (comb i.0 y, comb-lt n i.0 i.1.shape.row_lt y, inverse-right rows n i.0 i.1 y h)

-- an inverse on the right is one on the left too
pub inverse_of_right : (rows : List ℕ) (n : ℕ) (inv : List ℕ) → Matrix inv n → ((i : ℕ) → i < n → comb rows (get_or inv i 0) ≡ 2 ^ i) → Inverse rows n inv
inverse_of_right rows n inv m h =
    let d = (independent-inverse inv n m).0 free in
    record {
      shape = m;
      right = h;
      left = λ i l.
          let e : get_or rows i 0 ≡ get_or d.0 i 0 =
          sym (comb-power rows i) ∙ ap (comb rows) (sym (d.1.right i l)) ∙ undo (get_or d.0 i 0) (d.1.shape.row_lt i) in
          ap (comb inv) e ∙ d.1.right i l;
    }
  where
    undo : (v : ℕ) → v < 2 ^ n → comb rows (comb inv v) ≡ v
    undo = undoes rows inv n h

    free : Independent inv n
    free v p l e = let z : v ≡ 0 = sym (undo v l) ∙ ap (comb rows) e ∙ comb-zero rows in omega arith
