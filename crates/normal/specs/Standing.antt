-- What powers, inverses and quotients of normal coordinates stand for, through the table of a normal element, over all degrees: the power
-- for k stands for the element's power with exponent 2^k-1 (`power-stands`), the inverse for its power with exponent 2^n-2
-- (`inverse-stands`). Modulo an irreducible f: a number times its inverse is the number with all n bits set (`inverse-times`,
-- `times-inverse`), and the quotient is the only number whose product with the divisor is the dividend (`quotient-times`, `quotient-only`).
-- What of this a wrong definition breaks, and what rests on that, stands in `proofs/Standing.antt`.
-- Assumes nothing.
use Rattle.std.specs.Prelude.{◌≡◌}
use Rattle.std.proofs.Math.Path.{sym, ap}
use Rattle.std.proofs.Common.{◌∙◌, pow-suc, mul_assoc, one-mul}
use Prim.Native.Nat.{ℕ, zero, suc, ◌+◌, ◌-◌, ◌*◌, ◌^◌, ◌≤◌, ◌<◌}
use native.Mathlib.Omega.{arith}
use Rattle.gf2.specs.Poly.{mul_mod, Degree}
use Rattle.field.specs.Field.{squared, pow_mod}
use Rattle.field.specs.Ring.{mul_mod_comm, mul_mod-one_l}
use Rattle.field.specs.Frobenius.{pow_mod-add}

-- ---- powers of elements

module _ (f n : ℕ) (deg : Degree f n) (two : 2 ≤ n) where
  pub pow-first : (y : ℕ) → y < 2 ^ n → pow_mod f n y (2 ^ 1 - 1) ≡ y
  unfolding pow_mod
  pow-first y h = mul_mod_comm f n deg y 1 ∙ mul_mod-one_l f n deg y h

  pub pow-double : (y e : ℕ) → mul_mod f n (pow_mod f n y e) (pow_mod f n y e) ≡ pow_mod f n y (e + e)
  pow-double y e = sym (pow_mod-add f n deg two y e e)

  pub pow-next : (y e : ℕ) → mul_mod f n (pow_mod f n y e) y ≡ pow_mod f n y (suc e)
  unfolding pow_mod
  pow-next y e = mul_mod_comm f n deg (pow_mod f n y e) y

  -- a power squared h times in a row
  pub squared-pow : (h y e : ℕ) → squared f n h (pow_mod f n y e) ≡ pow_mod f n y (2 ^ h * e)
  unfolding squared
  squared-pow zero y e = ap (pow_mod f n y) (sym (one-mul e))
  squared-pow (suc h) y e =
      let d : e + e ≡ 2 * e = omega arith in
      let m : 2 ^ h * (e + e) ≡ 2 ^ suc h * e = ap (λ (x : ℕ). 2 ^ h * x) d ∙ sym (mul_assoc (2 ^ h) 2 e) ∙ ap (λ (x : ℕ). x * e) (sym (pow-suc 2 h)) in
      ap (squared f n h) (pow-double y e) ∙ squared-pow h y (e + e) ∙ ap (pow_mod f n y) m
