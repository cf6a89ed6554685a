-- `field::accepted::field_verdict` meets its contract: the squarings from half way on bring x to what n squarings make of it.
-- Assumes nothing.
use mathlib.Core.Path.{◌≡◌, sym, ap, ◌∙◌}
use mathlib.Core.Bool.{true, false, cond}
use Prim.Native.Nat.{ℕ, ◌+◌, ◌-◌, ◌/◌, ◌^◌, ◌≤◌, ◌<◌}
use native.Mathlib.Omega.{arith}
use borrow.Author.Tests.{eq-eqb, ne_eqb}
use Rattle.gf2.specs.Poly.{Degree}
use Rattle.gf2.specs.Degrees.{degree-eq}
use Rattle.refusals.specs.Answers.{checked_of}
use Rattle.refusals.specs.Answered.{answer-clear}
use Rattle.field.specs.Field.{squared}
use Rattle.field.specs.Accepted.{divided, strays}
use Rattle.field.specs.Orders.{field-divided, field-strays, field_passed}
use Rattle.field.specs.Ring.{two-lt}
use Rattle.field.specs.Frobenius.{squared-lt, squared-add}
use Rattle.field.proofs.accepted.field_verdict.Goals as goal
use Rattle.std.specs.Prelude.{refl, Bool, Err, Some, None}
use Rattle.refusals.specs.Answers.{passed}

-- what half way through the squarings says of f
some-half : (f n y : ℕ) → cond (divided f n) None (Some (squared f n (n / 2) 2)) ≡ Some y → (divided f n ≡ false) × (y ≡ squared f n (n / 2) 2)
some-half f n y = go (divided f n)
  where
    go : (b : Bool) → cond b None (Some (squared f n (n / 2) 2)) ≡ Some y → (b ≡ false) × (y ≡ squared f n (n / 2) 2)
    go true e = grind (arith, e)
    go false e = (refl, cc e)

none-half : (f n : ℕ) → cond (divided f n) None (Some (squared f n (n / 2) 2)) ≡ None → divided f n ≡ true
none-half f n = go (divided f n)
  where
    go : (b : Bool) → cond b None (Some (squared f n (n / 2) 2)) ≡ None → b ≡ true
    go true e = refl
    go false e = grind (arith, e)

module _ (f n : ℕ) (deg : Degree f n) (y : ℕ) (half : y ≡ squared f n (n / 2) 2) where
  half_lt : 2 ≤ n → y < 2 ^ n
  half_lt big = rw half (squared-lt f n deg (n / 2) 2 (two-lt n big))

  module _ (z : ℕ) (ez : z ≡ squared f n (n - n / 2) y) where
    whole : z ≡ squared f n n 2
    whole =
        let s : n - n / 2 + n / 2 ≡ n = omega arith in
        ez ∙ ap (squared f n (n - n / 2)) half ∙ sym (squared-add f n deg (n - n / 2) (n / 2) 2) ∙ ap (λ (k : ℕ). squared f n k 2) s

    came-back : z ≡ 2 → strays f n ≡ false
    unfolding strays
    came-back p = rw (eq-eqb (squared f n n 2) 2 (sym whole ∙ p))

    strayed : (z ≡ 2 → ⊥) → strays f n ≡ true
    unfolding strays
    strayed p = rw (ne_eqb (squared f n n 2) 2 (λ q. p (whole ∙ q)))

pub returns-in_default : goal.returns-in_default
returns-in_default c =
    c.refused.ensures
    ∙ ap checked_of (sym (field-divided c.args.ring.f c.args.ring.n (degree-eq _ _ c.args.ring.in_range.is_degree) (none-half c.args.ring.f c.args.ring.n (sym c.squared_half.ensures ∙ c.in_default.is))))

pub squared_times-requires : goal.squared_times-requires
squared_times-requires c =
    let s = some-half c.args.ring.f c.args.ring.n c.in-Some.half (sym c.squared_half.ensures ∙ c.in-Some.is) in
    half_lt c.args.ring.f c.args.ring.n c.args.ring.in_range.is_degree c.in-Some.half s.1 c.args.ring.in_range.two

pub returns-then-squared_times-ne2 : goal.returns-then-squared_times-ne2
returns-then-squared_times-ne2 c =
    let s = some-half c.args.ring.f c.args.ring.n c.in-Some.half (sym c.squared_half.ensures ∙ c.in-Some.is) in
    c.refused-then-squared_times-ne2.ensures
    ∙ ap checked_of
    (sym
    (field-strays c.args.ring.f c.args.ring.n (degree-eq _ _ c.args.ring.in_range.is_degree) s.0
    (strayed c.args.ring.f c.args.ring.n c.args.ring.in_range.is_degree c.in-Some.half s.1 c.squared_times.result c.squared_times.ensures c.if-squared_times-ne2.true)))

pub returns : goal.returns
returns c =
    let s = some-half c.args.ring.f c.args.ring.n c.in-Some.half (sym c.squared_half.ensures ∙ c.in-Some.is) in
    answer-clear Err passed
    (field_passed c.args.ring.f c.args.ring.n (degree-eq _ _ c.args.ring.in_range.is_degree) s.0
    (came-back c.args.ring.f c.args.ring.n c.args.ring.in_range.is_degree c.in-Some.half s.1 c.squared_times.result c.squared_times.ensures c.if-squared_times-ne2.false))
