-- What the conjugates of a normal element share, and its trace. Where squaring n times leaves x: every conjugate is normal and has
-- the same table, so the same complexity. Over an irreducible f besides: the trace is 1.
-- Assumes nothing.
use Rattle.std.specs.Prelude.{◌≡◌}
use Rattle.std.proofs.Common.{sym, ◌∙◌, one-mul, arith}
use Rattle.std.proofs.Math.Path.{ap, ap₂}
use Rattle.std.proofs.Math.Logic.{⊎_elim}
use Prim.Native.Nat.{ℕ, zero, suc, ◌+◌, ◌-◌, ◌*◌, ◌^◌, ◌≤◌, ◌<◌}
use Rattle.std.proofs.Math.Nat.{pow-suc}
use Rattle.std.proofs.Math.Pow.{pow_pos, pow_mono}
use Rattle.gf2.specs.Poly.{◌⊕◌, mul_mod, Degree}
use Rattle.gf2.specs.Sum.{⊕_comm, ⊕-low}
use Rattle.field.specs.Field.{squared, trace_to, trace, Irreducible}
use Rattle.field.specs.Ring.{mul_mod-lt}
use Rattle.field.specs.Frobenius.{squared-lt, squared-zero, squared-add, squared-mul_mod, squared-undone}
use Rattle.field.specs.Trace.{trace-bit}
use Rattle.field.specs.ConjugateSums.{conjugate_sum, conjugate_sum-zero, conjugate_sum-⊕, conjugate_sum-power}
use Rattle.rows.specs.Rows.{comb, Independent}
use Rattle.normal.specs.Normal.{conjugates, coordinates, table_rows, complexity}
use Rattle.normal.proofs.Selected.{selected_sum, selected_lt, selected_squared}
use Rattle.normal.specs.Coordinates.{listed_ext}
use Rattle.normal.proofs.Coordinates.{coordinates_are, coordinates_unique}

module _ (f n : ℕ) (deg : Degree f n) (big : 2 ≤ n) (returns : squared f n n 2 ≡ 2) (a : ℕ) (ha : a < 2 ^ n) where
  -- ---- every conjugate

  module _ (i : ℕ) (hi : i ≤ n) where
    squared_kernel : (x : ℕ) → x < 2 ^ n → squared f n i x ≡ 0 → x ≡ 0
    squared_kernel x h e = squared-undone f n deg big returns i hi x 0 h e ∙ squared-zero f n deg (n - i)

    pub conjugate-normal : Independent (conjugates f n a) n → Independent (conjugates f n (squared f n i a)) n
    conjugate-normal free v p h e =
        free v p h (squared_kernel (comb (conjugates f n a) v) (selected_lt f n deg a ha v h) (sym (selected_squared f n deg i a v h) ∙ e))

    squared_swap : (j : ℕ) → squared f n i (squared f n j a) ≡ squared f n j (squared f n i a)
    squared_swap j =
        let s : i + j ≡ j + i = omega arith in
        sym (squared-add f n deg i j a) ∙ ap (λ (k : ℕ). squared f n k a) s ∙ squared-add f n deg j i a

    -- each table row's equation is squared i times
    pub table_of_conjugate : Independent (conjugates f n a) n → table_rows f n (squared f n i a) ≡ table_rows f n a
    unfolding table_rows
    table_of_conjugate free =
        let b : ℕ = squared f n i a in
        listed_ext n (λ j. coordinates f n b (mul_mod f n b (squared f n j b))) (λ j. coordinates f n a (mul_mod f n a (squared f n j a)))
        (λ j h.
        let y : ℕ = mul_mod f n a (squared f n j a) in
        let c = coordinates_are f n deg a ha free y (mul_mod-lt f n deg a (squared f n j a)) in
        coordinates_unique f n deg b (squared-lt f n deg i a ha) (conjugate-normal free) (mul_mod f n b (squared f n j b)) (coordinates f n a y) c.0
        (selected_squared f n deg i a (coordinates f n a y) c.0 ∙ ap (squared f n i) c.1 ∙ squared-mul_mod f n deg i a (squared f n j a)
        ∙ ap (mul_mod f n b) (squared_swap j)))

    pub complexity_of_conjugate : Independent (conjugates f n a) n → complexity (table_rows f n (squared f n i a)) ≡ complexity (table_rows f n a)
    complexity_of_conjugate free = ap complexity (table_of_conjugate free)

  -- ---- the trace

  -- the number with the lowest k bits set selects the first k conjugates
  all_selected : (k : ℕ) → conjugate_sum f n (2 ^ k - 1) a ≡ trace_to f n k a
  unfolding trace_to
  all_selected zero = conjugate_sum-zero f n deg a
  all_selected (suc k) =
      let e : 1 * 2 ^ k ⊕ (2 ^ k - 1) ≡ 1 * 2 ^ k + (2 ^ k - 1) = ⊕-low 1 k (2 ^ k - 1) (omega (arith, pow_pos k)) in
      let s : 2 ^ suc k - 1 ≡ (2 ^ k - 1) ⊕ 2 ^ k =
      rw pow-suc (sym (⊕_comm (2 ^ k - 1) (2 ^ k) ∙ ap (λ (x : ℕ). x ⊕ (2 ^ k - 1)) (sym (one-mul (2 ^ k))) ∙ e ∙ (omega (arith, pow_pos k)))) in
      ap (λ (g : ℕ). conjugate_sum f n g a) s ∙ conjugate_sum-⊕ f n deg (2 ^ k - 1) (2 ^ k) a
      ∙ ap₂ ◌⊕◌ (all_selected k) (conjugate_sum-power f n deg k a)

  pub normal-trace : Irreducible f → Independent (conjugates f n a) n → trace f n a ≡ 1
  unfolding trace
  normal-trace irr free =
      let p : 2 ^ 2 ≤ 2 ^ n = pow_mono big in
      let all : comb (conjugates f n a) (2 ^ n - 1) ≡ trace_to f n n a = selected_sum f n deg a (2 ^ n - 1) (omega arith) ∙ all_selected n in
      ⊎_elim
      (λ (e : trace f n a ≡ 0). absurd (free (2 ^ n - 1) (omega arith) (omega arith) (all ∙ e)))
      (λ (e : trace f n a ≡ 1). e)
      (trace-bit f n deg big irr returns a ha)
