-- The laws of `specs/Standing.antt` that a wrong definition breaks, and what rests on them. The head there tells of both files.
-- Assumes nothing.
use Rattle.std.specs.Prelude.{◌≡◌, List}
use Rattle.std.proofs.Math.Path.{refl, sym, ap}
use Rattle.std.proofs.Common.{ap₂, ◌∙◌, ⊎_elim, le_refl, mul-suc, pow_pos, pow-add}
use Prim.Native.Nat.{ℕ, zero, suc, ◌+◌, ◌-◌, ◌*◌, ◌/◌, ◌%◌, ◌^◌, ◌≤◌, ◌<◌}
use native.Mathlib.Omega.{arith}
use Rattle.gf2.specs.Numbers.{bit_cases, mod-two-lt, order}
use Rattle.gf2.specs.Poly.{mul_mod, Degree}
use Rattle.field.specs.Field.{squared, pow_mod, Irreducible}
use Rattle.field.specs.Frobenius.{squared-next, pow_mod-add}
use Rattle.field.specs.Division.{inverse}
use Rattle.rows.specs.Rows.{comb, Independent}
use Rattle.normal.specs.Normal.{conjugates, table_rows}
use Rattle.normal.proofs.Products.{table_rows-table}
use Rattle.normal.proofs.Rotation.{half_power, rotate-lt}
use Rattle.normal.specs.TableProduct.{rotate, rotated_by, table_product}
use Rattle.normal.proofs.Turns.{rotated_by-lt}
use Rattle.normal.specs.Powers.{power_of, inverse_of, quotient_of}
use Rattle.normal.specs.Recursion.{power-one, power_even, power_odd}
use Rattle.normal.proofs.Recursion.{power-lt, inverse-lt, quotient-lt}
use Rattle.normal.proofs.ConjugateSide.{times-lt, stands-lt, stands-product, stands_unique, stands-rotate, times_comm, times_assoc, ones_lt, stands-ones, times-ones}
use Rattle.normal.specs.Standing.{pow-double, pow-first, pow-next, squared-pow}

-- ---- exponents

-- 2^h (2^h - 1) + (2^h - 1) is 2^(2h) - 1
even_exponent : (h : ℕ) → 2 ^ h * (2 ^ h - 1) + (2 ^ h - 1) ≡ 2 ^ (2 * h) - 1
even_exponent h =
    let e : 2 * h ≡ h + h = omega arith in
    let s : 2 ^ h ≡ suc (2 ^ h - 1) = omega (arith, pow_pos h) in
    let d : 2 ^ (2 * h) ≡ 2 ^ h * 2 ^ h = ap (λ (x : ℕ). 2 ^ x) e ∙ pow-add 2 h h in
    let m : 2 ^ h * 2 ^ h ≡ 2 ^ h * (2 ^ h - 1) + 2 ^ h = ap (λ (x : ℕ). 2 ^ h * x) s ∙ mul-suc (2 ^ h) (2 ^ h - 1) in
    step (2 ^ h * (2 ^ h - 1)) (2 ^ h) (2 ^ (2 * h)) (d ∙ m) (pow_pos h)
  where
    step : (m p whole : ℕ) → whole ≡ m + p → 0 < p → m + (p - 1) ≡ whole - 1
    step m p whole e l = omega arith

odd_exponent : (k : ℕ) → 1 ≤ k → suc ((2 ^ (k - 1) - 1) + (2 ^ (k - 1) - 1)) ≡ 2 ^ k - 1
odd_exponent k h = omega (arith, half_power k h, pow_pos (k - 1))

inverse-exponent : (n : ℕ) → 1 ≤ n → (2 ^ (n - 1) - 1) + (2 ^ (n - 1) - 1) ≡ 2 ^ n - 2
inverse-exponent n h = omega (arith, half_power n h, pow_pos (n - 1))

-- ---- powers of coordinates

module _ (f n : ℕ) (deg : Degree f n) (two : 2 ≤ n) (returns : squared f n n 2 ≡ 2) (a : ℕ) (ha : a < 2 ^ n) (free : Independent (conjugates f n a) n) where
  abbrev T : List ℕ
  T = table_rows f n a

  abbrev stands : ℕ → ℕ
  stands v = comb (conjugates f n a) v

  pos : 1 ≤ n
  pos = omega (arith, two)

  pub powers-lt : (k v : ℕ) → v < 2 ^ n → power_of n T k v < 2 ^ n
  powers-lt k v h = let tab = table_rows-table f n deg a ha free in power-lt n pos T tab.size tab.row_lt k v h

  -- rotated h places: squared h times
  rotated_by-stands : (h v : ℕ) → v < 2 ^ n → stands (rotated_by n h v) ≡ squared f n h (stands v)
  unfolding rotated_by squared
  rotated_by-stands zero v l = refl
  rotated_by-stands (suc h) v l =
      stands-rotate f n deg two returns a ha free (rotated_by n h v) (rotated_by-lt n pos h v l)
      ∙ ap (λ (x : ℕ). mul_mod f n x x) (rotated_by-stands h v l) ∙ squared-next f n deg h (stands v)

  module _ (v : ℕ) (hv : v < 2 ^ n) where
    -- the statement for one k
    abbrev Stands : ℕ → Type 0
    Stands k = stands (power_of n T k v) ≡ pow_mod f n (stands v) (2 ^ k - 1)

    even_stands : (h : ℕ) → 1 ≤ h → Stands h → Stands (2 * h)
    even_stands h l ih =
        let p : ℕ = power_of n T h v in
        let hp : p < 2 ^ n = powers-lt h v hv in
        let y : ℕ = stands v in
        let e : ℕ = 2 ^ h - 1 in
        ap (comb (conjugates f n a)) (power_even n T v h l)
        ∙ stands-product f n deg two returns a ha free (rotated_by n h p) p (rotated_by-lt n pos h p hp) hp
        ∙ ap₂ (mul_mod f n) (rotated_by-stands h p hp ∙ ap (squared f n h) ih ∙ squared-pow f n deg two h y e) ih
        ∙ sym (pow_mod-add f n deg two y (2 ^ h * e) e)
        ∙ ap (pow_mod f n y) (even_exponent h)

    odd_stands : (k : ℕ) → 1 < k → k % 2 ≡ 1 → Stands (k - 1) → Stands k
    odd_stands k l o ih =
        let p : ℕ = power_of n T (k - 1) v in
        let hp : p < 2 ^ n = powers-lt (k - 1) v hv in
        let y : ℕ = stands v in
        let e : ℕ = 2 ^ (k - 1) - 1 in
        ap (comb (conjugates f n a)) (power_odd n T v k l o)
        ∙ stands-product f n deg two returns a ha free (rotate n p) v (rotate-lt n pos p hp) hv
        ∙ ap (λ (x : ℕ). mul_mod f n x y) (stands-rotate f n deg two returns a ha free p hp ∙ ap (λ (x : ℕ). mul_mod f n x x) ih ∙ pow-double f n deg two y e)
        ∙ pow-next f n deg two y (e + e)
        ∙ ap (pow_mod f n y) (odd_exponent k (omega arith))

    stands-to : (s k : ℕ) → k ≤ s → 1 ≤ k → Stands k
    stands-to zero k hs hk = absurd (omega arith)
    stands-to (suc s) k hs hk =
        ⊎_elim
        (λ (l : k < 2).
        let e : 1 ≡ k = omega arith in
        let one : Stands 1 = ap (comb (conjugates f n a)) (power-one n T v) ∙ sym (pow-first f n deg two (stands v) (stands-lt f n deg two returns a ha free v hv)) in
        rw (sym e) one)
        (λ (l : 2 ≤ k).
        ⊎_elim
        (λ (e : k % 2 ≡ 0).
        let h : ℕ = k / 2 in
        let d : k ≡ 2 * h = omega arith in
        rw d (even_stands h (omega arith) (stands-to s h (omega arith) (omega arith))))
        (λ (e : k % 2 ≡ 1). odd_stands k l e (stands-to s (k - 1) (omega arith) (omega arith)))
        (bit_cases (k % 2) (mod-two-lt k)))
        (order k 2)

    -- the power for k stands for the power with exponent 2^k - 1
    pub power-stands : (k : ℕ) → 1 ≤ k → stands (power_of n T k v) ≡ pow_mod f n (stands v) (2 ^ k - 1)
    power-stands k h = stands-to k k (le_refl k) h

    -- "The inverse of a non-zero a is a^(2^n-2)."
    pub inverse-stands : stands (inverse_of n T v) ≡ pow_mod f n (stands v) (2 ^ n - 2)
    unfolding inverse_of
    inverse-stands =
        stands-rotate f n deg two returns a ha free (power_of n T (n - 1) v) (powers-lt (n - 1) v hv)
        ∙ ap (λ (x : ℕ). mul_mod f n x x) (power-stands (n - 1) (omega (arith, two)))
        ∙ pow-double f n deg two (stands v) (2 ^ (n - 1) - 1)
        ∙ ap (pow_mod f n (stands v)) (inverse-exponent n pos)

    pub inverses_lt : inverse_of n T v < 2 ^ n
    inverses_lt = let tab = table_rows-table f n deg a ha free in inverse-lt n pos T tab.size tab.row_lt v hv

    module _ (irr : Irreducible f) (nonzero : 0 < v) where
      stands-positive : 0 < stands v
      stands-positive = ⊎_elim (λ (l : 0 < stands v). l) (λ (l : stands v ≤ 0). absurd (free v nonzero hv (omega arith))) (order 0 (stands v))

      -- a number times its inverse is the number with all n bits set
      pub times-inverse : table_product n T v (inverse_of n T v) ≡ 2 ^ n - 1
      times-inverse =
          stands_unique f n deg two returns a ha free (table_product n T v (inverse_of n T v)) (2 ^ n - 1)
          (times-lt f n deg two returns a ha free v (inverse_of n T v) inverses_lt) (ones_lt f n deg two returns a ha free)
          (stands-product f n deg two returns a ha free v (inverse_of n T v) hv inverses_lt
          ∙ ap (mul_mod f n (stands v)) inverse-stands
          ∙ inverse f n deg two irr returns (stands v) stands-positive (stands-lt f n deg two returns a ha free v hv)
          ∙ sym (stands-ones f n deg two returns a ha free irr))

      pub inverse-times : table_product n T (inverse_of n T v) v ≡ 2 ^ n - 1
      inverse-times = times_comm f n deg two returns a ha free (inverse_of n T v) v inverses_lt hv ∙ times-inverse

      module _ (b : ℕ) (hb : b < 2 ^ n) where
        -- "quotient times divisor gives the dividend"
        pub quotient-times : table_product n T (quotient_of n T b v) v ≡ b
        unfolding quotient_of
        quotient-times =
            times_assoc f n deg two returns a ha free b (inverse_of n T v) v hb inverses_lt hv
            ∙ ap (table_product n T b) inverse-times ∙ times-ones f n deg two returns a ha free irr b hb

        -- and no other number does
        pub quotient-only : (q : ℕ) → q < 2 ^ n → table_product n T q v ≡ b → q ≡ quotient_of n T b v
        unfolding quotient_of
        quotient-only q hq e =
            sym (times-ones f n deg two returns a ha free irr q hq) ∙ ap (table_product n T q) (sym times-inverse)
            ∙ sym (times_assoc f n deg two returns a ha free q v (inverse_of n T v) hq hv inverses_lt)
            ∙ ap (λ (x : ℕ). table_product n T x (inverse_of n T v)) e

    pub quotients_lt : (b : ℕ) → quotient_of n T b v < 2 ^ n
    quotients_lt b = let tab = table_rows-table f n deg a ha free in quotient-lt n pos T tab.size tab.row_lt b v hv
