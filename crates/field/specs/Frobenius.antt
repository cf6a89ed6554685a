-- Squaring k times in a row is additive and multiplicative (Frobenius), for every f; what leaves x leaves every element; the
-- k-th conjugate is the power with exponent 2 ^ k; a power by the bits of its exponent; a power of a conjugate is the conjugate of the
-- power. `squared_start`, `squared_turn`: where a loop that squares starts, and one turn of it.
-- Assumes nothing.
use Rattle.std.specs.Prelude.{◌≡◌}
use Rattle.std.proofs.Math.Path.{refl, sym, ap}
use Rattle.std.proofs.Common.{ap₂, ◌∙◌, ⊎_elim, add-one}
use Prim.Native.Nat.{ℕ, zero, suc, ◌+◌, ◌-◌, ◌*◌, ◌/◌, ◌%◌, ◌^◌, ◌≤◌, ◌<◌}
use Rattle.std.proofs.Math.Nat.{pow-suc, zero-add, suc-add}
use native.Mathlib.Omega.{arith}
use Rattle.std.proofs.Math.Arith.{bin_ind}
use Rattle.gf2.specs.Poly.{◌⊕◌, mul_mod, Degree}
use Rattle.gf2.specs.Numbers.{bit_cases, mod-two-lt}
use Rattle.gf2.specs.Sum.{low-apart}
use Rattle.gf2.specs.Remainder.{rem-small, mul_mod-zero_r}
use Rattle.field.specs.Field.{squared, pow_mod}
use Rattle.field.specs.Ring.{mul_mod-lt, mul_mod_comm, mul_mod_assoc, mul_mod-one_l, mul_mod-x, mul_mod-four, mul_mod-square-⊕, two-lt}

-- where a loop that squares starts
pub squared_start : (f n a : ℕ) → a ≡ squared f n 0 a
unfolding squared
squared_start f n a = refl

module _ (f n : ℕ) (deg : Degree f n) where
  -- ---- Frobenius

  pub squared-⊕ : (k a b : ℕ) → squared f n k (a ⊕ b) ≡ squared f n k a ⊕ squared f n k b
  unfolding squared
  squared-⊕ zero a b = refl
  squared-⊕ (suc k) a b = ap (squared f n k) (mul_mod-square-⊕ f n deg a b) ∙ squared-⊕ k (mul_mod f n a a) (mul_mod f n b b)

  pub squared-mul_mod : (k a b : ℕ) → squared f n k (mul_mod f n a b) ≡ mul_mod f n (squared f n k a) (squared f n k b)
  unfolding squared
  squared-mul_mod zero a b = refl
  squared-mul_mod (suc k) a b = ap (squared f n k) (mul_mod-four f n deg a b a b) ∙ squared-mul_mod k (mul_mod f n a a) (mul_mod f n b b)

  pub squared-zero : (k : ℕ) → squared f n k 0 ≡ 0
  unfolding squared
  squared-zero zero = refl
  squared-zero (suc k) = ap (squared f n k) (mul_mod-zero_r f n 0) ∙ squared-zero k

  pub squared-lt : (k a : ℕ) → a < 2 ^ n → squared f n k a < 2 ^ n
  unfolding squared
  squared-lt zero a h = h
  squared-lt (suc k) a h = squared-lt k (mul_mod f n a a) (mul_mod-lt f n deg a a)

  -- the square of a conjugate is the next one
  pub squared-next : (k a : ℕ) → mul_mod f n (squared f n k a) (squared f n k a) ≡ squared f n (suc k) a
  unfolding squared
  squared-next k a = sym (squared-mul_mod k a a)

  -- a conjugate that a loop squares on: one turn
  pub squared_turn : (i a y z : ℕ) → y ≡ squared f n i a → z ≡ mul_mod f n y y → z ≡ squared f n (i + 1) a
  squared_turn i a y z inv e = e ∙ rw (inv, add-one) (squared-next i a)

  pub squared-add : (i k a : ℕ) → squared f n (i + k) a ≡ squared f n i (squared f n k a)
  unfolding squared
  squared-add zero k a = rw zero-add
  squared-add (suc i) k a = rw suc-add (squared-add i k (mul_mod f n a a) ∙ ap (squared f n i) (sym (squared-next k a)))

  module _ (big : 2 ≤ n) where
    pub squared-one : (k : ℕ) → squared f n k 1 ≡ 1
    unfolding squared
    squared-one zero = refl
    squared-one (suc k) = ap (squared f n k) (mul_mod-one_l f n deg 1 (omega (arith, two-lt n big))) ∙ squared-one k

    pub squared-bit : (k d : ℕ) → d < 2 → squared f n k d ≡ d
    squared-bit k d h = ⊎_elim (λ (e : d ≡ 0). rw e (squared-zero k)) (λ (e : d ≡ 1). rw e (squared-one k)) (bit_cases d h)

    -- x times a polynomial of degree below n - 1
    by_x : (a : ℕ) → a * 2 < 2 ^ n → mul_mod f n 2 a ≡ a * 2
    by_x a h =
        ap (mul_mod f n 2) (sym (rem-small f n a (omega arith))) ∙ mul_mod-x f n deg a ∙ rem-small f n (a * 2) h

    -- what leaves x leaves every element
    pub squared_fixes : (k : ℕ) → squared f n k 2 ≡ 2 → (a : ℕ) → a < 2 ^ n → squared f n k a ≡ a
    squared_fixes k e =
        bin_ind (λ (m : ℕ). m < 2 ^ n → squared f n k m ≡ m) (λ h. squared-zero k)
        (λ m ih h.
        let b : m / 2 * 2 < 2 ^ n = omega arith in
        ap (squared f n k) (sym (low-apart m))
        ∙ squared-⊕ k (m / 2 * 2) (m % 2)
        ∙ ap₂ ◌⊕◌ (ap (squared f n k) (sym (by_x (m / 2) b)) ∙ squared-mul_mod k 2 (m / 2) ∙ rw (e, ih (omega arith)) (by_x (m / 2) b)) (squared-bit k (m % 2) (mod-two-lt m))
        ∙ low-apart m)

    -- squaring on to n times undoes i squarings
    pub squared-undone : squared f n n 2 ≡ 2 → (i : ℕ) → i ≤ n → (a b : ℕ) → a < 2 ^ n → squared f n i a ≡ b → a ≡ squared f n (n - i) b
    squared-undone returns i hi a b h e =
        let s : n - i + i ≡ n = omega arith in
        sym (squared_fixes n returns a h) ∙ ap (λ (k : ℕ). squared f n k a) (sym s) ∙ squared-add (n - i) i a ∙ ap (squared f n (n - i)) e

    -- ---- powers

    pub pow_mod-lt : (a e : ℕ) → pow_mod f n a e < 2 ^ n
    unfolding pow_mod
    pow_mod-lt a zero = omega (arith, two-lt n big)
    pow_mod-lt a (suc e) = mul_mod-lt f n deg a (pow_mod f n a e)

    pub pow_mod-add : (a i j : ℕ) → pow_mod f n a (i + j) ≡ mul_mod f n (pow_mod f n a i) (pow_mod f n a j)
    unfolding pow_mod
    pow_mod-add a zero j = rw zero-add (sym (mul_mod-one_l f n deg (pow_mod f n a j) (pow_mod-lt a j)))
    pow_mod-add a (suc i) j = rw suc-add (ap (mul_mod f n a) (pow_mod-add a i j) ∙ sym (mul_mod_assoc f n deg a (pow_mod f n a i) (pow_mod f n a j)))

    pow_mod-square : (a e : ℕ) → pow_mod f n (mul_mod f n a a) e ≡ pow_mod f n a (e * 2)
    unfolding pow_mod
    pow_mod-square a zero = refl
    pow_mod-square a (suc e) =
        let t : suc e * 2 ≡ suc (suc (e * 2)) = omega arith in
        ap (mul_mod f n (mul_mod f n a a)) (pow_mod-square a e) ∙ mul_mod_assoc f n deg a a (pow_mod f n a (e * 2)) ∙ sym (ap (pow_mod f n a) t)

    -- a power by the bits of its exponent, on its way: y times the power of a with exponent e is the same after a turn, whether the lowest
    -- bit of e picks a or passes it by
    pub pow_mod-picked : (y a e : ℕ) → e % 2 ≡ 1 → mul_mod f n (mul_mod f n y a) (pow_mod f n (mul_mod f n a a) (e / 2)) ≡ mul_mod f n y (pow_mod f n a e)
    unfolding pow_mod
    pow_mod-picked y a e h =
        let s : suc (e / 2 * 2) ≡ e = omega arith in
        mul_mod_assoc f n deg y a (pow_mod f n (mul_mod f n a a) (e / 2))
        ∙ ap (mul_mod f n y) (ap (mul_mod f n a) (pow_mod-square a (e / 2)) ∙ ap (pow_mod f n a) s)

    pub pow_mod_passed : (y a e : ℕ) → (e % 2 ≡ 1 → ⊥) → mul_mod f n y (pow_mod f n (mul_mod f n a a) (e / 2)) ≡ mul_mod f n y (pow_mod f n a e)
    pow_mod_passed y a e h =
        let s : e / 2 * 2 ≡ e = omega (arith, h) in
        ap (mul_mod f n y) (pow_mod-square a (e / 2) ∙ ap (pow_mod f n a) s)

    pub pow_mod_finished : (y a : ℕ) → y < 2 ^ n → mul_mod f n y (pow_mod f n a 0) ≡ y
    unfolding pow_mod
    pow_mod_finished y a h = mul_mod_comm f n deg y 1 ∙ mul_mod-one_l f n deg y h

    pow_mod-one : (a : ℕ) → a < 2 ^ n → pow_mod f n a 1 ≡ a
    unfolding pow_mod
    pow_mod-one a h = mul_mod_comm f n deg a 1 ∙ mul_mod-one_l f n deg a h

    -- "c_i = a^(2^i)"
    pub pow_mod-squared : (k a : ℕ) → a < 2 ^ n → pow_mod f n a (2 ^ k) ≡ squared f n k a
    unfolding squared
    pow_mod-squared zero a h = pow_mod-one a h
    pow_mod-squared (suc k) a h = rw pow-suc (sym (pow_mod-square a (2 ^ k)) ∙ pow_mod-squared k (mul_mod f n a a) (mul_mod-lt f n deg a a))

    -- the power of a conjugate is the conjugate of the power
    pub pow_mod-conjugate : (k a e : ℕ) → pow_mod f n (squared f n k a) e ≡ squared f n k (pow_mod f n a e)
    unfolding pow_mod
    pow_mod-conjugate k a zero = sym (squared-one k)
    pow_mod-conjugate k a (suc e) =
        ap (mul_mod f n (squared f n k a)) (pow_mod-conjugate k a e) ∙ sym (squared-mul_mod k a (pow_mod f n a e))
