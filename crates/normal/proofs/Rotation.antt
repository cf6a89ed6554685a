-- The laws of `specs/Rotation.antt` that a wrong definition breaks, and what rests on them. The head there tells of both files.
-- Assumes nothing.
use Rattle.std.specs.Prelude.{◌≡◌, ◌⊎◌}
use Rattle.std.proofs.Common.{sym, ◌∙◌, zero-mul, one-mul, pow-suc, mod-lt, mod-eq_of_lt, div-add-mod', add_comm, mul_assoc, div-one, pow_pos, shr-shr}
use Rattle.std.proofs.Math.Path.{ap}
use Rattle.std.proofs.Math.Logic.{inl, inr, ⊎_elim}
use Prim.Native.Nat.{ℕ, suc, ◌+◌, ◌-◌, ◌*◌, ◌/◌, ◌%◌, ◌^◌, ◌≤◌, ◌<◌}
use Rattle.std.proofs.Math.Nat.{div-eq_of_lt, div-eq_of_lt-le, add-mod_right, mod-add-mod, add-mul-mod_self_right, mod-mod, mod_self, add-mul-div_right}
use native.Mathlib.Omega.{arith}
use Rattle.std.proofs.Math.Pow.{pow-add, high}
use Rattle.gf2.specs.Numbers.{bit_cases, mod-two-lt, order, pow-next}
use Rattle.rows.specs.Bits.{bit_of}
use Rattle.normal.specs.TableProduct.{rotate}
use Rattle.normal.specs.Rotation.{rotate_back}

-- ---- what rotating comes to

pub rotate-small : (n v : ℕ) → v * 2 < 2 ^ n → rotate n v ≡ v * 2
unfolding rotate
rotate-small n v h = rw (mod-eq_of_lt h, div-eq_of_lt h) (omega arith)

wrap : (p y : ℕ) → p ≤ y → y < p * 2 → (y % p ≡ y - p) × (y / p ≡ 1)
wrap p y l h =
    let q : y / p ≡ 1 = div-eq_of_lt-le {k = 1} p (omega arith) (omega arith) in
    let e : y / p * p + y % p ≡ y = div-add-mod' y p in
    let s : 1 * p + y % p ≡ y = rw q at e in
    (omega arith, q)

pub rotate_large : (n v : ℕ) → 2 ^ n ≤ v * 2 → v < 2 ^ n → rotate n v ≡ v * 2 - 2 ^ n + 1
unfolding rotate
rotate_large n v l h = let w = wrap (2 ^ n) (v * 2) l (omega arith) in rw (w.0, w.1)

module _ (n : ℕ) (pos : 1 ≤ n) where
  pub half_power : 2 ^ n ≡ 2 ^ (n - 1) * 2
  half_power = let e : n ≡ suc (n - 1) = omega arith in ap (λ (k : ℕ). 2 ^ k) e ∙ pow-suc 2 (n - 1)

  pub rotate-cases : (v : ℕ) → v < 2 ^ n → ((v < 2 ^ (n - 1)) × (rotate n v ≡ v * 2)) ⊎ ((2 ^ (n - 1) ≤ v) × (rotate n v ≡ v * 2 - 2 ^ (n - 1) * 2 + 1))
  rotate-cases v h =
      ⊎_elim
      (λ (l : v < 2 ^ (n - 1)). inl (l, rotate-small n v (rw half_power (omega arith))))
      (λ (l : 2 ^ (n - 1) ≤ v). inr (l, rotate_large n v (rw half_power (omega arith)) h ∙ ap (λ (x : ℕ). v * 2 - x + 1) half_power))
      (order v (2 ^ (n - 1)))

  back-cases : (v : ℕ) → ((v % 2 ≡ 0) × (rotate_back n v ≡ v / 2)) ⊎ ((v % 2 ≡ 1) × (rotate_back n v ≡ v / 2 + 2 ^ (n - 1)))
  unfolding rotate_back
  back-cases v =
      ⊎_elim
      (λ (e : v % 2 ≡ 0). inl (e, rw (e, zero-mul) (omega arith)))
      (λ (e : v % 2 ≡ 1). inr (e, rw (e, one-mul)))
      (bit_cases (v % 2) (mod-two-lt v))

  -- ---- each undoes the other

  pub rotate-lt : (v : ℕ) → v < 2 ^ n → rotate n v < 2 ^ n
  rotate-lt v h =
      let s : v < 2 ^ (n - 1) * 2 = rw half_power at h in
      ⊎_elim
      (λ (l : (v < 2 ^ (n - 1)) × (rotate n v ≡ v * 2)). rw (l.1, half_power) (omega (arith, l.0)))
      (λ (l : (2 ^ (n - 1) ≤ v) × (rotate n v ≡ v * 2 - 2 ^ (n - 1) * 2 + 1)). rw (l.1, half_power) (omega (arith, l.0)))
      (rotate-cases v h)

  pub rotate_back-lt : (v : ℕ) → v < 2 ^ n → rotate_back n v < 2 ^ n
  rotate_back-lt v h =
      let s : v < 2 ^ (n - 1) * 2 = rw half_power at h in
      ⊎_elim
      (λ (l : (v % 2 ≡ 0) × (rotate_back n v ≡ v / 2)). rw (l.1, half_power) (omega (arith, l.0)))
      (λ (l : (v % 2 ≡ 1) × (rotate_back n v ≡ v / 2 + 2 ^ (n - 1))). rw (l.1, half_power) (omega (arith, l.0)))
      (back-cases v)

  pub rotate_back-rotate : (v : ℕ) → v < 2 ^ n → rotate_back n (rotate n v) ≡ v
  rotate_back-rotate v h = go (rotate-cases v h) (back-cases (rotate n v))
    where
      go : ((v < 2 ^ (n - 1)) × (rotate n v ≡ v * 2)) ⊎ ((2 ^ (n - 1) ≤ v) × (rotate n v ≡ v * 2 - 2 ^ (n - 1) * 2 + 1))
          → ((rotate n v % 2 ≡ 0) × (rotate_back n (rotate n v) ≡ rotate n v / 2)) ⊎ ((rotate n v % 2 ≡ 1) × (rotate_back n (rotate n v) ≡ rotate n v / 2 + 2 ^ (n - 1)))
          → rotate_back n (rotate n v) ≡ v
      go (inl p) (inl q) = omega arith
      go (inl p) (inr q) = omega arith
      go (inr p) (inl q) = omega arith
      go (inr p) (inr q) = omega arith

  pub rotate-rotate_back : (v : ℕ) → v < 2 ^ n → rotate n (rotate_back n v) ≡ v
  rotate-rotate_back v h = go (back-cases v) (rotate-cases (rotate_back n v) (rotate_back-lt v h))
    where
      s : v < 2 ^ (n - 1) * 2
      s = rw half_power at h

      go : ((v % 2 ≡ 0) × (rotate_back n v ≡ v / 2)) ⊎ ((v % 2 ≡ 1) × (rotate_back n v ≡ v / 2 + 2 ^ (n - 1)))
          → ((rotate_back n v < 2 ^ (n - 1)) × (rotate n (rotate_back n v) ≡ rotate_back n v * 2)) ⊎ ((2 ^ (n - 1) ≤ rotate_back n v) × (rotate n (rotate_back n v) ≡ rotate_back n v * 2 - 2 ^ (n - 1) * 2 + 1))
          → rotate n (rotate_back n v) ≡ v
      go (inl p) (inl q) = omega arith
      go (inl p) (inr q) = omega (arith, s)
      go (inr p) (inl q) = omega arith
      go (inr p) (inr q) = omega arith

  -- ---- bits

  back_top : (v : ℕ) → v < 2 ^ n → bit_of (rotate_back n v) (n - 1) ≡ v % 2
  unfolding rotate_back bit_of
  back_top v h =
      let s : v < 2 ^ (n - 1) * 2 = rw half_power at h in
      ap (λ (x : ℕ). x / 2 ^ (n - 1) % 2) (add_comm (v / 2) (v % 2 * 2 ^ (n - 1)))
      ∙ ap (λ (x : ℕ). x % 2) (high (v % 2) (n - 1) {lo = v / 2} (omega arith)) ∙ mod-mod v 2

  back_low : (v k : ℕ) → k + 1 < n → bit_of (rotate_back n v) k ≡ bit_of v (k + 1)
  unfolding rotate_back bit_of
  back_low v k h =
      let j : ℕ = n - 1 - (k + 1) in
      let e : n - 1 ≡ j + 1 + k = omega arith in
      let p : 2 ^ (n - 1) ≡ 2 ^ j * 2 * 2 ^ k = ap (λ (x : ℕ). 2 ^ x) e ∙ pow-add 2 (j + 1) k ∙ ap (λ (x : ℕ). x * 2 ^ k) (pow-next j) in
      let q : (v / 2 + v % 2 * (2 ^ j * 2) * 2 ^ k) / 2 ^ k ≡ v / 2 / 2 ^ k + v % 2 * (2 ^ j * 2) = add-mul-div_right (v / 2) (v % 2 * (2 ^ j * 2)) (pow_pos k) in
      let r : (v / 2 / 2 ^ k + v % 2 * 2 ^ j * 2) % 2 ≡ v / 2 / 2 ^ k % 2 = add-mul-mod_self_right (v / 2 / 2 ^ k) (v % 2 * 2 ^ j) 2 in
      ap (λ (x : ℕ). (v / 2 + v % 2 * x) / 2 ^ k % 2) p
      ∙ ap (λ (x : ℕ). (v / 2 + x) / 2 ^ k % 2) (sym (mul_assoc (v % 2) (2 ^ j * 2) (2 ^ k)))
      ∙ ap (λ (x : ℕ). x % 2) q
      ∙ ap (λ (x : ℕ). (v / 2 / 2 ^ k + x) % 2) (sym (mul_assoc (v % 2) (2 ^ j) 2))
      ∙ r
      ∙ ap (λ (x : ℕ). x % 2) (shr-shr v 1 k ∙ ap (λ (x : ℕ). v / 2 ^ x) (add_comm 1 k))

  pub rotate_back-bit : (v k : ℕ) → v < 2 ^ n → k < n → bit_of (rotate_back n v) k ≡ bit_of v ((k + 1) % n)
  rotate_back-bit v k hv h =
      ⊎_elim
      (λ (l : k + 1 < n). back_low v k l ∙ ap (bit_of v) (sym (mod-eq_of_lt l)))
      (λ (l : n ≤ k + 1).
      let e : k ≡ n - 1 = omega arith in
      let t : k + 1 ≡ n = omega arith in
      let z : (k + 1) % n ≡ 0 = ap (λ (x : ℕ). x % n) t ∙ mod_self n in
      ap (bit_of (rotate_back n v)) e ∙ back_top v hv ∙ sym (ap (bit_of v) z ∙ unfold bit_of in ap (λ (x : ℕ). x % 2) (div-one v)))
      (order (k + 1) n)

  back_one : (k : ℕ) → k < n → ((k + (n - 1)) % n + 1) % n ≡ k
  back_one k h =
      let t : k + (n - 1) + 1 ≡ k + n = omega arith in
      mod-add-mod (k + (n - 1)) n 1 ∙ ap (λ (x : ℕ). x % n) t ∙ add-mod_right k n ∙ mod-eq_of_lt h

  -- "Squaring turns bit i into bit i+1, and bit n-1 into bit 0."
  pub rotate-bit : (v k : ℕ) → v < 2 ^ n → k < n → bit_of (rotate n v) k ≡ bit_of v ((k + (n - 1)) % n)
  rotate-bit v k hv h =
      let j : ℕ = (k + (n - 1)) % n in
      sym (ap (λ (x : ℕ). bit_of x j) (sym (rotate_back-rotate v hv))
      ∙ rotate_back-bit (rotate n v) j (rotate-lt v hv) (mod-lt (k + (n - 1)) pos)
      ∙ ap (bit_of (rotate n v)) (back_one k h))
