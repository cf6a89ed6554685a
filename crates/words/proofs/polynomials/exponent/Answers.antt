-- `words::polynomials::exponent` meets its contract: a number of 64 bits, tested against the smaller bound.
-- Assumes nothing.
use Rattle.std.proofs.Common.{rules, tests, arith, ◌≡◌, ◌^◌, ltb, ℕ}
use Rattle.std.specs.Prelude.{MatchOption, None}
use Rattle.std.specs.Bool.{then_some}
use Rattle.words.proofs.Narrowed.{narrowed}
use Rattle.words.proofs.polynomials.exponent.Goals as goal

pub returns : goal.returns
returns c =
    let kept : MatchOption c.digits.result (c.filter.result ≡ None) (λ (x : ℕ). c.filter.result ≡ then_some (ltb x c.args.bound) x) = search (rules, tests) in
    narrowed c.args.bound (2 ^ 64) c.args.part.now c.digits.result c.filter.result (omega arith) c.digits.ensures kept
