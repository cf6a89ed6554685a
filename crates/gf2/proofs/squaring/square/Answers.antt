-- `gf2::squaring::square` meets its contract: the square of a is its spread, in one word or in two.
-- Assumes nothing.
use Rattle.std.proofs.Common.{◌≡◌, ℕ, ◌+◌, ◌-◌, ◌*◌, ◌/◌, ◌%◌, ◌^◌, ◌<◌, ◌≤◌, sym, ap, ◌∙◌, mod-lt, mod-eq_of_lt, arith, pow_pos, pow_mono, shr_lt}
use lib.Bits.{bit_xor}
use lib.Pow.{split}
use Rattle.gf2.specs.Poly.{◌⊕◌, rem, spread, mul_mod, Element}
use Rattle.gf2.specs.Product.{product-square, spread-parts}
use Rattle.gf2.specs.Degrees.{degree-lt, spread-lt}
use Rattle.gf2.specs.Remainder.{rem_lt}
use Rattle.gf2.specs.Raised.{raised-degree, rem_appended, rem-raised-first}
use Rattle.gf2.proofs.squaring.square.Goals.{Start}
use Rattle.gf2.proofs.squaring.square.Goals as goal

-- f stands in a word
word : (c : Start) → c.args.n < 64
word c = degree-lt c.args.f c.args.n 64 c.requires.is_degree c.ranges.f.fits

spread-square : (f n a : ℕ) → rem f n (spread a) ≡ mul_mod f n a a
unfolding mul_mod
spread-square f n a = ap (rem f n) (sym (product-square a))

module _ (f n a : ℕ) (el : Element f n a) (low : ℕ) (el-low : low ≡ spread (a % 2 ^ 32)) where
  -- ---- in one word

  module _ (short : n ≤ 32) where
    low-whole : low ≡ spread a
    low-whole = el-low ∙ ap spread (mod-eq_of_lt (omega (arith, pow_mono short, el.below)))

    low_fits : low < 2 ^ (2 * n)
    low_fits = let e : 2 * n ≡ n + n = omega arith in rw (low-whole, e) (spread-lt n a el.below)

  -- ---- in two

  module _ (long : 32 < n) (high : ℕ) (el-high : high ≡ spread (a / 2 ^ 32)) where
    high_fits : high < 2 ^ (2 * n - 64)
    high_fits =
        let m : n - 32 + 32 ≡ n = omega arith in
        let e : 2 * n - 64 ≡ n - 32 + (n - 32) = omega arith in
        rw (el-high, e) (spread-lt (n - 32) (a / 2 ^ 32) (shr_lt (n - 32) 32 (rw m el.below)))

    module _ (g moved : ℕ) (hg : g < 2 ^ 64) (e : moved ≡ rem (2 ^ 64 + g) 64 (high * 2 ^ 64)) where
      joined : bit_xor moved low ≡ rem (2 ^ 64 + g) 64 (spread a)
      unfolding ◌⊕◌
      joined =
          rem_appended (2 ^ 64 + g) high moved low (raised-degree g hg) (rw el-low (spread-lt 32 (a % 2 ^ 32) (mod-lt a (pow_pos 32)))) e
          ∙ ap (rem (2 ^ 64 + g) 64)
          (rw (el-high, el-low) (sym (spread-parts (a / 2 ^ 32) 32 (a % 2 ^ 32) (mod-lt a (pow_pos 32)))) ∙ ap spread (split a 32))

      joined-lt : bit_xor moved low < 2 ^ 64
      joined-lt = rw joined (rem_lt (2 ^ 64 + g) 64 (raised-degree g hg) (spread a))

pub remainder-requires : goal.remainder-requires
remainder-requires c =
    (omega arith, c.requires.is_degree, low_fits c.args.f c.args.n c.args.a c.requires c.spread_half-low.result c.spread_half-low.ensures c.if-n-le32.true)

pub returns-then-n-le32 : goal.returns-then-n-le32
returns-then-n-le32 c =
    c.remainder.ensures
    ∙ ap (rem c.args.f c.args.n) (low-whole c.args.f c.args.n c.args.a c.requires c.spread_half-low.result c.spread_half-low.ensures c.if-n-le32.true)
    ∙ spread-square c.args.f c.args.n c.args.a

pub overflow_sub-n : goal.overflow_sub-n
overflow_sub-n c = omega (arith, word (goal.at.overflow_sub-n c).Start)

pub overflow_mul-n-2 : goal.overflow_mul-n-2
overflow_mul-n-2 c = omega (arith, word (goal.at.overflow_mul-n-2 c).Start)

pub raised-moved-requires : goal.raised-moved-requires
raised-moved-requires c =
    let long : 32 < c.args.n = omega arith in (
      omega arith,
      omega (arith, word (goal.at.raised-moved-requires c).Start),
      omega arith,
      high_fits c.args.f c.args.n c.args.a c.requires c.spread_half-low.result c.spread_half-low.ensures long c.spread_half-high.result c.spread_half-high.ensures,
    )

pub remainder-requires-2 : goal.remainder-requires-2
remainder-requires-2 c =
    let long : 32 < c.args.n = omega arith in (
      omega arith,
      c.requires.is_degree,
      joined-lt c.args.f c.args.n c.args.a c.requires c.spread_half-low.result c.spread_half-low.ensures long c.spread_half-high.result c.spread_half-high.ensures
          _ c.raised-moved.result (mod-lt _ (pow_pos 64)) c.raised-moved.ensures,
    )

pub returns : goal.returns
returns c =
    let long : 32 < c.args.n = omega arith in
    c.remainder-2.ensures
    ∙ ap (rem c.args.f c.args.n)
    (joined c.args.f c.args.n c.args.a c.requires c.spread_half-low.result c.spread_half-low.ensures long c.spread_half-high.result c.spread_half-high.ensures
    _ c.raised-moved.result (mod-lt _ (pow_pos 64)) c.raised-moved.ensures)
    ∙ rem-raised-first c.args.f c.args.n (64 - c.args.n) (spread c.args.a) c.requires.is_degree (omega (arith, word (goal.at.returns c).Start))
    ∙ spread-square c.args.f c.args.n c.args.a
