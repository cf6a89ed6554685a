-- Class leaders: what the test says; every element has exactly one among its conjugates, which is no larger; that of a normal element
-- is normal and has the same table.
-- Assumes nothing.
use Rattle.std.specs.Prelude.{◌≡◌, refl, ◌↔◌, Bool, true, false, not, ltb}
use Rattle.std.proofs.Common.{sym, ap, ◌∙◌, ⊎_elim, le_refl, arith, lt-ltb, ltb-true}
use Prim.Native.Nat.{ℕ, zero, suc, ◌+◌, ◌-◌, ◌^◌, ◌≤◌, ◌<◌}
use Rattle.std.proofs.lemmas.Bool.{not-true}
use Rattle.gf2.specs.Poly.{Degree}
use Rattle.gf2.specs.Numbers.{order}
use Rattle.gf2.specs.Bounded.{some}
use Rattle.gf2.specs.Existence.{some-means, none-means}
use Rattle.field.specs.Field.{squared}
use Rattle.field.specs.Frobenius.{squared-add, squared_fixes}
use Rattle.rows.specs.Rows.{Independent}
use Rattle.normal.specs.Normal.{conjugates, normal, table_rows}
use Rattle.normal.proofs.Coordinates.{normal-means}
use Rattle.normal.proofs.Conjugated.{conjugate-normal, table_of_conjugate}
use Rattle.search.specs.Search.{leader, LeaderOf}

-- ---- the test

-- a conjugate that is smaller
smaller : (f n a i : ℕ) → Bool
smaller f n a i = ltb (squared f n i a) a

pub leader-means : (f n a : ℕ) → (leader f n a ≡ true) ↔ ((i : ℕ) → i < n → a ≤ squared f n i a)
unfolding leader smaller
leader-means f n a = (
  λ e i h. ⊎_elim
      (λ (l : squared f n i a < a). absurd ((none-means n (smaller f n a)).0 (not-true (some n (smaller f n a)) e) i h (lt-ltb (squared f n i a) a l)))
      (λ (l : a ≤ squared f n i a). l)
      (order (squared f n i a) a),
  λ all. ap not ((none-means n (smaller f n a)).1 (λ i h e. omega (arith, all i h, ltb-true (squared f n i a) a e))),
)

pub not_leader : (f n a i : ℕ) → i < n → squared f n i a < a → leader f n a ≡ false
unfolding leader smaller
not_leader f n a i h l = ap not ((some-means n (smaller f n a)).1 (i, h, lt-ltb (squared f n i a) a l))

-- ---- the leader of an element

-- the index of the smallest of the first suc k values of g
smallest : (g : ℕ → ℕ) (k : ℕ) → (i : ℕ) × (i ≤ k) × ((j : ℕ) → j ≤ k → g i ≤ g j)
smallest g zero = (0, le_refl 0, λ j h. let e : j ≡ 0 = omega arith in rw e (le_refl (g 0)))
smallest g (suc k) =
    let s = smallest g k in
    ⊎_elim
    (λ (l : g (suc k) < g s.0). (
      suc k,
      le_refl (suc k),
      λ j h. ⊎_elim
          (λ (u : j < suc k). omega (arith, s.2 j (omega arith)))
          (λ (u : suc k ≤ j). let e : j ≡ suc k = omega arith in rw e (le_refl (g (suc k))))
          (order j (suc k)),
    ))
    (λ (l : g s.0 ≤ g (suc k)). (
      s.0,
      omega (arith, s.1),
      λ j h. ⊎_elim
          (λ (u : j < suc k). s.2 j (omega arith))
          (λ (u : suc k ≤ j). let e : j ≡ suc k = omega arith in rw e l)
          (order j (suc k)),
    ))
    (order (g (suc k)) (g s.0))

module _ (f n : ℕ) (deg : Degree f n) (big : 2 ≤ n) (returns : squared f n n 2 ≡ 2) (a : ℕ) (ha : a < 2 ^ n) where
  -- a conjugate of a conjugate is a conjugate
  again : (i j : ℕ) → i < n → j < n → (k : ℕ) × (k < n) × (squared f n j (squared f n i a) ≡ squared f n k a)
  again i j hi hj =
      ⊎_elim
      (λ (l : j + i < n). (j + i, l, sym (squared-add f n deg j i a)))
      (λ (l : n ≤ j + i).
      let s : j + i ≡ (j + i - n) + n = omega arith in (
        j + i - n,
        omega arith,
        sym (squared-add f n deg j i a) ∙ ap (λ (m : ℕ). squared f n m a) s ∙ squared-add f n deg (j + i - n) n a
            ∙ ap (squared f n (j + i - n)) (squared_fixes f n deg big n returns a ha),
      ))
      (order (j + i) n)

  -- from any conjugate squaring on leads to any other
  back : (i j : ℕ) → i < n → j < n → (k : ℕ) × (k < n) × (squared f n k (squared f n i a) ≡ squared f n j a)
  back i j hi hj =
      ⊎_elim
      (λ (l : j < i).
      let s : n + j - i + i ≡ j + n = omega arith in (
        n + j - i,
        omega arith,
        sym (squared-add f n deg (n + j - i) i a) ∙ ap (λ (m : ℕ). squared f n m a) s ∙ squared-add f n deg j n a
            ∙ ap (squared f n j) (squared_fixes f n deg big n returns a ha),
      ))
      (λ (l : i ≤ j).
      let s : j - i + i ≡ j = omega arith in
      (j - i, omega arith, sym (squared-add f n deg (j - i) i a) ∙ ap (λ (m : ℕ). squared f n m a) s))
      (order j i)

  pub leader_exists : (l : ℕ) × LeaderOf f n a l
  unfolding squared
  leader_exists =
      let s = smallest (λ i. squared f n i a) (n - 1) in
      let i : ℕ = s.0 in
      let hi : i < n = omega (arith, s.1) in
      let l : ℕ = squared f n i a in
      let low : (j : ℕ) → j < n → l ≤ squared f n j a = λ j h. s.2 j (omega arith) in (
        l,
        record {
          index = i;
          within = hi;
          conjugate = refl;
          leads = (leader-means f n l).1 (λ j h. let k = again i j hi h in rw k.2 (low k.0 k.1));
          least = low 0 (omega arith);
          only = λ j h e.
              let k = back j i h hi in
              let down : squared f n j a ≤ l = rw k.2 at ((leader-means f n (squared f n j a)).0 e k.0 k.1) in
              omega (arith, low j h);
        },
      )

  -- "All conjugates of a normal element have the same table, so leaders suffice for the whole field."
  pub leader-normal : (l : ℕ) → LeaderOf f n a l → normal f n a ≡ true → (normal f n l ≡ true) × (table_rows f n l ≡ table_rows f n a)
  leader-normal l s e =
      let free : Independent (conjugates f n a) n = (normal-means f n a).0 e in
      let h : s.index ≤ n = omega (arith, s.within) in
      rw (← s.conjugate) (
        (normal-means f n (squared f n s.index a)).1 (conjugate-normal f n deg big returns a ha s.index h free),
        table_of_conjugate f n deg big returns a ha s.index h free,
      )
