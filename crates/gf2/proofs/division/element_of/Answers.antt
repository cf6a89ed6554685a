-- `gf2::division::element_of` meets its contract: if nothing of a word stands from x ^ n upward, it is its own remainder.
-- Assumes nothing.
use Rattle.std.proofs.Common.{◌≡◌, ℕ, ◌*◌, ◌/◌, ◌^◌, ◌<◌, sym, div-lt_iff_lt-mul, arith, pow_pos}
use Rattle.gf2.specs.Degrees.{degree-lt}
use Rattle.gf2.specs.Remainder.{rem-small}
use Rattle.gf2.proofs.division.element_of.Goals as goal

nothing_above : (n b : ℕ) → b / 2 ^ n ≡ 0 → b < 2 ^ n
nothing_above n b e = let l : b < 1 * 2 ^ n = (div-lt_iff_lt-mul (pow_pos n)).0 (omega arith) in omega arith

pub overflow_shr-word : goal.overflow_shr-word
overflow_shr-word c = degree-lt c.args.f c.args.n 64 c.requires c.ranges.f.fits

pub returns-then-word-n-eq0 : goal.returns-then-word-n-eq0
returns-then-word-n-eq0 c =
    sym (rem-small c.args.f c.args.n c.args.word (nothing_above c.args.n c.args.word c.if-word-n-eq0.true))
