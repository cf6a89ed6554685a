-- `gf2::multiplication::multiply_by_x` meets its contract: nothing leaves the word, and one coefficient at most comes up to x ^ n.
-- Assumes nothing.
use Rattle.std.proofs.Common.{◌≡◌, ℕ, ◌*◌, ◌/◌, ◌%◌, ◌^◌, ◌<◌, sym, ap, ◌∙◌, ap₂, arith, shl_exact}
use lib.Bits.{bit_xor}
use Rattle.gf2.specs.Poly.{◌⊕◌, mul_mod, Element}
use Rattle.gf2.specs.Degrees.{degree-lt}
use Rattle.gf2.specs.Remainder.{top_lt, reduce_is}
use Rattle.gf2.specs.Steps.{mul_mod-two}
use Rattle.gf2.proofs.multiplication.multiply_by_x.Goals.{Start}
use Rattle.gf2.proofs.multiplication.multiply_by_x.Goals as goal

module _ (f n a : ℕ) (el : Element f n a) (small : n < 64) where
  moved : a * 2 % 2 ^ 64 ≡ a * 2
  moved = shl_exact n 1 64 el.below (omega arith)

  one_at_most : a * 2 % 2 ^ 64 / 2 ^ n < 2
  one_at_most = rw moved (top_lt n (a * 2) (omega (arith, el.below)))

  reduced : (p : ℕ) → p ≡ (a * 2 % 2 ^ 64 / 2 ^ n) * f → bit_xor (a * 2 % 2 ^ 64) p ≡ mul_mod f n a 2
  unfolding ◌⊕◌
  reduced p e =
      ap₂ bit_xor moved (e ∙ ap (λ (y : ℕ). y / 2 ^ n * f) moved)
      ∙ sym (reduce_is f n (a * 2) (omega (arith, el.below))) ∙ sym (mul_mod-two f n el.is_degree a el.below)

-- f stands in a word
word : (c : Start) → c.args.n < 64
word c = degree-lt c.args.f c.args.n 64 c.requires.is_degree c.ranges.f.fits

pub overflow_shr-moved : goal.overflow_shr-moved
overflow_shr-moved c = word (goal.at.overflow_shr-moved c).Start

pub picked-requires : goal.picked-requires
picked-requires c = one_at_most c.args.f c.args.n c.args.a c.requires (word (goal.at.picked-requires c).Start)

pub returns : goal.returns
returns c =
    reduced c.args.f c.args.n c.args.a c.requires (word (goal.at.returns c).Start) c.picked.result c.picked.ensures
