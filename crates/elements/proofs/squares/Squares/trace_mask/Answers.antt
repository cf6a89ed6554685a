-- `elements::squares::Squares::trace_mask` meets its contract: the goals that the check leaves. Its loop is told in `Invariants.antt`. Assumes nothing.
use Rattle.std.proofs.Common.{◌≡◌, ℕ, ◌+◌, ◌*◌, ◌%◌, ◌^◌, ◌≤◌, refl, ap, ◌∙◌, add-one, arith}
use lib.Bits.{bit_xor}
use lib.Pow.{pow-lt}
use Rattle.gf2.specs.Poly.{◌⊕◌}
use Rattle.gf2.specs.Numbers.{mod-two-lt}
use Rattle.field.specs.Field.{trace}
use Rattle.elements.specs.Traces.{mask_to, trace_mask}
use Rattle.elements.proofs.squares.Squares.trace_mask.Goals as goal

start : (f n : ℕ) → 0 ≡ mask_to f n 0
unfolding mask_to
start f n = refl

turn : (f n i mask x t b : ℕ) → mask ≡ mask_to f n i → x ≡ 2 ^ i → t ≡ trace f n x → b ≡ t % 2 * x → bit_xor mask b ≡ mask_to f n (i + 1)
unfolding mask_to ◌⊕◌
turn f n i mask x t b em ex et eb = rw (add-one, em, eb, et, ex)

done : (f n i mask : ℕ) → i ≤ n → n ≤ i → mask ≡ mask_to f n i → mask ≡ trace_mask f n
unfolding trace_mask
done f n i mask p q e = let s : i ≡ n = omega arith in e ∙ ap (mask_to f n) s

pub loop-i-init : goal.loop-i-init
loop-i-init c = start c.args.self.now.f c.args.self.now.n

pub power-x-requires : goal.power-x-requires
power-x-requires c = omega (arith, c.args.self.now.of_field.most)

pub trace_of-requires : goal.trace_of-requires
trace_of-requires c = rw c.power-x.ensures (pow-lt c.loop-i-test.true)

pub picked-mask-requires : goal.picked-mask-requires
picked-mask-requires c = mod-two-lt c.trace_of.result

pub loop-i-preserved : goal.loop-i-preserved
loop-i-preserved c =
    turn c.args.self.now.f c.args.self.now.n c.loop-i.i c.loop-i.mask c.power-x.result c.trace_of.result c.picked-mask.result c.loop-i.invariant
    c.power-x.ensures c.trace_of.ensures c.picked-mask.ensures

pub returns : goal.returns
returns c =
    done c.args.self.now.f c.args.self.now.n c.loop-i.i c.loop-i.mask c.loop-i.auto.i-end c.loop-i-test.false c.loop-i.invariant
