-- `gf2::multiplication::multiply` meets its contract: the goals that the check leaves. Its loop is told in `Invariants.antt`. Assumes nothing.
use Rattle.std.proofs.Common.{◌≡◌, ℕ, ◌+◌, ◌-◌, ◌*◌, ◌/◌, ◌%◌, ◌^◌, ◌<◌, ◌≤◌, sym, refl, ap, ◌∙◌, ap₂, ⊎_elim, mod-lt, zero-mul, div-one, arith, pow_pos}
use native.Mathlib.Nat.{div-eq_of_lt}
use lib.Bits.{bit_xor}
use Rattle.gf2.specs.Poly.{◌⊕◌, reduce, rem, mul_mod}
use Rattle.gf2.specs.Numbers.{order}
use Rattle.gf2.specs.Degrees.{degree-lt}
use Rattle.gf2.specs.Remainder.{rem_lt, mul_mod-rem_r, mul_mod-zero_r}
use Rattle.gf2.specs.Steps.{top_coefficient, rest_turn, mul_mod_turn}
use Rattle.gf2.specs.Raised.{raised-degree, mul_mod_lowered}
use Rattle.gf2.proofs.multiplication.multiply.Goals.{Start}
use Rattle.gf2.proofs.multiplication.multiply.Goals as goal

-- an element moved up to the top of the word; for n = 0 it is 0
start : (n e r : ℕ) → n < 64 → e < 2 ^ n → r ≡ e → r * 2 ^ ((64 - n) % 64) % 2 ^ 64 ≡ e * 2 ^ (64 - n) % 2 ^ 64
start n e r small l p =
    rw p
    (⊎_elim
    (λ (none : n < 1).
    let zn : n ≡ 0 = omega arith in
    let u : e < 2 ^ 0 = rw zn at l in
    let z : e ≡ 0 = omega arith in
    rw (z, zero-mul, zero-mul))
    (λ (some : 1 ≤ n). let m : (64 - n) % 64 ≡ 64 - n = omega arith in rw m)
    (order n 1))

nothing : (g high e n : ℕ) → e < 2 ^ n → 0 ≡ mul_mod g 64 high (e / 2 ^ n)
nothing g high e n l = sym (ap (mul_mod g 64 high) (div-eq_of_lt l) ∙ mul_mod-zero_r g 64 high)

module _ (b left rest : ℕ) (some : 1 ≤ left) (most : left ≤ 64) (er : rest ≡ b * 2 ^ (64 - left) % 2 ^ 64) where
  moved : rest * 2 % 2 ^ 64 ≡ b * 2 ^ (64 - (left - 1)) % 2 ^ 64
  moved =
      let e : 64 - left + 1 ≡ 64 - (left - 1) = omega arith in
      rest_turn b (64 - left) rest er ∙ ap (λ (i : ℕ). b * 2 ^ i % 2 ^ 64) e

  turned : (low high added sum x : ℕ) → low < 2 ^ 64 → high < 2 ^ 64 → added ≡ rest / 2 ^ 63 * high → sum ≡ mul_mod (2 ^ 64 + low) 64 high (b / 2 ^ left)
      → x ≡ reduce (2 ^ 64 + low) 64 (sum * 2) → bit_xor x added ≡ mul_mod (2 ^ 64 + low) 64 high (b / 2 ^ (left - 1))
  unfolding ◌⊕◌
  turned low high added sum x hl hh ea es ex =
      let top : rest / 2 ^ 63 ≡ b / 2 ^ (left - 1) % 2 = top_coefficient b (64 - left) (left - 1) rest (omega arith) er in
      mul_mod_turn (2 ^ 64 + low) 64 (raised-degree low hl) high b left sum _ hh some es
      (ap₂ bit_xor ex (ea ∙ ap (λ (d : ℕ). d * high) top))

-- f stands in a word
word : (c : Start) → c.args.n < 64
word c = degree-lt c.args.f c.args.n 64 c.requires.is_degree c.ranges.f.fits

pub overflow_sub-k : goal.overflow_sub-k
overflow_sub-k c = omega (arith, word (goal.at.overflow_sub-k c).Start)

pub loop-taken-init : goal.loop-taken-init
loop-taken-init c =
    let l = rem_lt c.args.f c.args.n c.requires.is_degree c.args.b in
    let all : c.args.n - 0 ≡ c.args.n = omega arith in
    rw all (
      start c.args.n (rem c.args.f c.args.n c.args.b) c.element_of-element.result (word (goal.at.loop-taken-init c).Start) l c.element_of-element.ensures,
      c.picked-added.ensures,
      nothing _ _ (rem c.args.f c.args.n c.args.b) c.args.n l,
    )

pub loop-taken-preserved : goal.loop-taken-preserved
loop-taken-preserved c =
    let e = rem c.args.f c.args.n c.args.b in
    let left : ℕ = c.args.n - c.loop-taken._taken in
    let i = c.loop-taken.invariant in
    let some : 1 ≤ left = omega arith in
    let most : left ≤ 64 = omega (arith, word (goal.at.loop-taken-preserved c).Start) in
    let less : c.args.n - (c.loop-taken._taken + 1) ≡ left - 1 = omega arith in
    rw less (
      moved e left c.loop-taken.rest some most i.0,
      c.picked-added-in-loop-taken.ensures,
      turned e left c.loop-taken.rest some most i.0 _ _ c.loop-taken.added c.loop-taken.sum c.times_x.result
          (mod-lt _ (pow_pos 64)) (mod-lt _ (pow_pos 64)) i.1 i.2 c.times_x.ensures,
    )

pub returns : goal.returns
returns c =
    let e = rem c.args.f c.args.n c.args.b in
    let none : c.args.n - c.loop-taken._taken ≡ 0 = omega arith in
    mul_mod_lowered c.args.f c.args.n c.args.a e c.requires.is_degree c.requires.below (word (goal.at.returns c).Start) _ c.loop-taken.sum refl
    (c.loop-taken.invariant.2 ∙ ap (mul_mod _ 64 _) (ap (λ (i : ℕ). e / 2 ^ i) none ∙ div-one e))
    ∙ mul_mod-rem_r c.args.f c.args.n c.requires.is_degree c.args.a c.args.b
