-- A number has one fewest count of decimal digits, and `decimal` writes that many.
-- Assumes nothing.
use Rattle.std.specs.Prelude.{◌≡◌, ℕ, zero, suc, ◌-◌, ◌*◌, ◌/◌, ◌^◌, ◌≤◌, ◌<◌}
use Rattle.std.proofs.Common.{sym, ap, ◌∙◌, ⊎_elim, pow-suc, arith, lt-ltb, le-ltb}
use Rattle.std.proofs.Math.Nat.{pow-le-pow_right}
use Rattle.gf2.specs.Numbers.{order}
use Rattle.io.specs.Digits.{last_digits, IsDigitCount}
use Rattle.listing.specs.Text.{places_by, decimal}

-- one digit more than the number without its last digit
fewest-next : (v k : ℕ) → 10 ≤ v → IsDigitCount 10 1 (v / 10) k → IsDigitCount 10 1 v (suc k)
fewest-next v k h f = (
  omega arith,
  rw pow-suc (omega (arith, f.1)),
  λ l.
      ⊎_elim
      (λ (u : k < 2). let e : k ≡ 1 = omega (arith, f.0) in rw e h)
      (λ (u : 2 ≤ k).
      let e : suc (k - 1) ≡ k = omega arith in
      let p : 10 ^ k ≡ 10 ^ (k - 1) * 10 = ap (λ (m : ℕ). 10 ^ m) (sym e) ∙ pow-suc 10 (k - 1) in
      let q : 10 ^ (k - 1) ≤ v / 10 = f.2 (omega arith) in
      let s : suc k - 1 ≡ k = omega arith in
      rw (s, p) (omega arith))
      (order k 2),
)

places_by-fewest : (steps v : ℕ) → v ≤ steps → IsDigitCount 10 1 v (places_by steps v)
unfolding places_by
places_by-fewest zero v h = (omega arith, omega arith, λ l. omega arith)
places_by-fewest (suc steps) v h =
    ⊎_elim
    (λ (u : v < 10). rw (lt-ltb v 10 u) (omega arith, omega arith, λ l. omega arith))
    (λ (u : 10 ≤ v). rw (le-ltb v 10 u) (fewest-next v (places_by steps (v / 10)) u (places_by-fewest steps (v / 10) (omega arith))))
    (order v 10)

fewest-least : (v j k : ℕ) → IsDigitCount 10 1 v j → IsDigitCount 10 1 v k → j < k → ⊥
fewest-least v j k f g h =
    let m : 10 ^ j ≤ 10 ^ (k - 1) = pow-le-pow_right (omega arith) (omega arith) in
    omega (arith, f.1, g.2 (omega (arith, f.0)))

fewest_unique : (v j k : ℕ) → IsDigitCount 10 1 v j → IsDigitCount 10 1 v k → j ≡ k
fewest_unique v j k f g =
    ⊎_elim
    (λ (u : j < k). absurd (fewest-least v j k f g u))
    (λ (u : k ≤ j). ⊎_elim (λ (w : k < j). absurd (fewest-least v k j g f w)) (λ (w : j ≤ k). omega arith) (order k j))
    (order j k)

-- the fewest digits that hold v are its decimal
pub decimal-digits : (v k : ℕ) → IsDigitCount 10 1 v k → last_digits 10 k v ≡ decimal v
unfolding decimal
decimal-digits v k f = ap (λ (m : ℕ). last_digits 10 m v) (fewest_unique v k (places_by v v) f (places_by-fewest v v (omega arith)))
