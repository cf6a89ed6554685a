-- The laws of `specs/Insertion.antt` that a wrong definition breaks, and what rests on them. The head there tells of both files.
-- Assumes nothing.
use Rattle.std.specs.Prelude.{◌≡◌, ◌⊎◌, List, ℕ, ◌+◌, ◌-◌, ◌*◌, ◌^◌, ◌≤◌, ◌<◌, get_or}
use Rattle.std.proofs.Common.{sym, ap, ap₂, ◌∙◌, inl, inr, ⊎_elim, zero-mul, one-mul, arith, pow_pos, pow_mono}
use Rattle.gf2.specs.Poly.{◌⊕◌}
use Rattle.gf2.specs.Numbers.{bit_cases, order, pow-next}
use Rattle.gf2.specs.Sum.{zero-⊕, ⊕_self, ⊕_comm, ⊕_cancel, ⊕_middle, ⊕-eq-zero, ⊕-lt, ⊕_top}
use Rattle.rows.specs.Rows.{comb, Dependency}
use Rattle.rows.specs.Linear.{linear_ext, linear_after}
use Rattle.rows.specs.Sums.{comb-⊕, comb-zero, comb-power, comb-lt, comb-sums}
use Rattle.rows.specs.Bits.{bit_of, ◌∩◌}
use Rattle.rows.specs.Sharing.{bit_of-lt, ∩_comm, ⊕-∩, ∩_linear, ∩-power}
use Rattle.rows.specs.Inverses.{undoes}
use Rattle.rows.specs.Insertion.{Inserted, Reduced}

-- ---- the pivot

-- two numbers with the same highest bit
same_top : (k v w : ℕ) → 2 ^ k ≤ v → v < 2 ^ k * 2 → 2 ^ k ≤ w → w < 2 ^ k * 2 → v ⊕ w < 2 ^ k
same_top k v w lv hv lw hw =
    let x : ℕ = v - 2 ^ k in
    let y : ℕ = w - 2 ^ k in
    let ev : x ⊕ 2 ^ k ≡ v = ⊕_comm x (2 ^ k) ∙ ⊕_top k x (omega arith) ∙ omega arith in
    let ew : 2 ^ k ⊕ y ≡ w = ⊕_top k y (omega arith) ∙ omega arith in
    let e : v ⊕ w ≡ x ⊕ y = ap₂ ◌⊕◌ (sym ev) (sym ew) ∙ ⊕_middle x (2 ^ k) y in
    rw e (⊕-lt k x y (omega arith) (omega arith))

-- ---- sums of what is in

module _ {C : List ℕ} {n k : ℕ} {a b : List ℕ} {p : ℕ} (in_place : Inserted C n k a b p) where
  pub sums-all : (v : ℕ) → comb a v ≡ comb C (comb b v)
  sums-all = comb-sums C a b in_place.sums

  pub idle-row : (i : ℕ) → 2 ^ i ∩ p ≡ 0 → get_or a i 0 ≡ 0
  idle-row i e = in_place.sums i ∙ ap (comb C) (in_place.idle i e) ∙ comb-zero C

  -- of the pivots' columns, a sum of reduced rows has those of the number that picks them
  own-all : (v : ℕ) → v < 2 ^ n → comb a v ∩ p ≡ v ∩ p
  own-all =
      linear_ext (λ v. comb a v ∩ p) (λ v. v ∩ p) (linear_after (λ v. v ∩ p) (comb a) (∩_linear p) (comb-⊕ a)) (∩_linear p) n
      (λ i h. ap (λ (x : ℕ). x ∩ p) (comb-power a i) ∙ in_place.own i h)

  -- the bits outside the pivots' columns pick nothing
  idle-all : (A : List ℕ) → ((i : ℕ) → 2 ^ i ∩ p ≡ 0 → get_or A i 0 ≡ 0) → (v : ℕ) → v < 2 ^ n → comb A (v ∩ p) ≡ comb A v
  idle-all A z =
      linear_ext (λ v. comb A (v ∩ p)) (comb A) (linear_after (comb A) (λ v. v ∩ p) (comb-⊕ A) (∩_linear p)) (comb-⊕ A) n
      (λ i h. at i (bit_cases (bit_of p i) (bit_of-lt p i)))
    where
      shared : (i : ℕ) → 2 ^ i ∩ p ≡ bit_of p i * 2 ^ i
      shared i = ∩_comm (2 ^ i) p ∙ ∩-power p i

      at : (i : ℕ) → (bit_of p i ≡ 0) ⊎ (bit_of p i ≡ 1) → comb A (2 ^ i ∩ p) ≡ comb A (2 ^ i)
      at i (inl e) =
          let none : 2 ^ i ∩ p ≡ 0 = shared i ∙ rw (e, zero-mul) in
          ap (comb A) none ∙ comb-zero A ∙ sym (comb-power A i ∙ z i none)
      at i (inr e) = ap (comb A) (shared i ∙ rw (e, one-mul))

  -- ---- a row is reduced

  back-all : (v : ℕ) → v < 2 ^ k → comb b (comb C v) ≡ v
  back-all = undoes b C k in_place.back

  module _ (rows-lt : (i : ℕ) → get_or C i 0 < 2 ^ n) where
    -- s and u are the sums of reduced rows and of names that row k picks, o is 2 ^ k
    pub row_reduced : (s u o : ℕ) → s ≡ comb a (get_or C k 0 ∩ p) → u ≡ comb b (get_or C k 0 ∩ p) → o ≡ 2 ^ k → Reduced C n k b p (get_or C k 0 ⊕ s) (o ⊕ u)
    row_reduced s u o es eu eo =
        let row : ℕ = get_or C k 0 in
        let h : row < 2 ^ n = rows-lt k in
        let fs : s ≡ comb a row = es ∙ idle-all a idle-row row h in
        let fu : u ≡ comb b row = eu ∙ idle-all b in_place.idle row h in
        let l : u < 2 ^ k = rw fu (comb-lt k b in_place.names row) in
        let t : o ⊕ u ≡ 2 ^ k + u = ap (λ (x : ℕ). x ⊕ u) eo ∙ ⊕_top k u l in
        record {
          name =
              ap₂ ◌⊕◌ (sym (comb-power C k)) (fs ∙ sums-all row ∙ ap (comb C) (sym fu))
              ∙ sym (comb-⊕ C (2 ^ k) u)
              ∙ ap (λ (x : ℕ). comb C (x ⊕ u)) (sym eo);
          clear = ⊕-∩ row s p ∙ ap (λ (x : ℕ). row ∩ p ⊕ x) (ap (λ (x : ℕ). x ∩ p) fs ∙ own-all row h) ∙ ⊕_self (row ∩ p);
          low = rw t (omega arith);
          high = rw t (omega arith);
          split = ap (λ (x : ℕ). comb b row ⊕ x) (⊕_comm o u ∙ ap (λ (x : ℕ). x ⊕ o) fu) ∙ ⊕_cancel (comb b row) o ∙ eo;
          small = ⊕-lt n row s h (rw fs (comb-lt n a a_lt row));
        }
      where
        a_lt : (i : ℕ) → get_or a i 0 < 2 ^ n
        a_lt i = rw (in_place.sums i) (comb-lt n C rows-lt (get_or b i 0))

    -- ---- what is left is zero: its name is the smallest dependency

    pub row_dependent : {x t : ℕ} → Reduced C n k b p x t → k < n → x ≡ 0 → Dependency C n t
    row_dependent {t} r h z =
        let low : 2 ^ k ≤ t = r.low in
        let high : t < 2 ^ k * 2 = r.high in
        let e : comb C t ≡ 0 = sym r.name ∙ z in
        let up : 2 ^ (k + 1) ≤ 2 ^ n = pow_mono (omega arith) in
        record {
          positive = omega (arith, pow_pos k);
          below = omega (arith, pow-next k);
          vanishes = e;
          smallest = λ w q l f.
              ⊎_elim
              (λ (m : w < 2 ^ k). let none : w ≡ 0 = only_zero w m f in omega arith)
              (λ (m : 2 ^ k ≤ w).
              let sum : comb C (w ⊕ t) ≡ 0 = comb-⊕ C w t ∙ ap₂ ◌⊕◌ f e ∙ zero-⊕ 0 in
              let same : w ≡ t = ⊕-eq-zero w t (only_zero (w ⊕ t) (same_top k w t m (omega arith) low high) sum) in
              omega arith)
              (order w (2 ^ k));
        }
      where
        only_zero : (w : ℕ) → w < 2 ^ k → comb C w ≡ 0 → w ≡ 0
        only_zero w m f = sym (back-all w m) ∙ ap (comb b) f ∙ comb-zero b
