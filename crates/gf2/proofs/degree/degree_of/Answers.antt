-- `gf2::degree::degree_of` meets its contract: the logarithm rounded down is the degree.
-- Assumes nothing.
use Rattle.std.specs.Prelude.{IfNone, IfSome, None, Option, Some}
use Rattle.std.specs.Option.{unwrap_or}
use Rattle.std.proofs.Common.{◌≡◌, ℕ, ◌*◌, ◌^◌, ◌<◌, ◌≤◌, sym, ap, ◌∙◌, arith}
use Rattle.gf2.specs.Poly.{degree}
use Rattle.gf2.specs.Numbers.{pow-next}
use Rattle.gf2.specs.Degrees.{degree-zero, degree-eq}
use Rattle.gf2.proofs.degree.degree_of.Goals as goal

rounded_down : (a : ℕ) (log : Option ℕ) → IfNone log (a ≡ 0) → IfSome log (λ k. 2 ^ k ≤ a) → IfSome log (λ k. a < 2 * 2 ^ k) → unwrap_or log 0 ≡ degree a
rounded_down a None none low high = sym (ap degree none ∙ degree-zero)
rounded_down a (Some k) none low high = sym (degree-eq a k (record { low = low; high = omega (arith, pow-next k) }))

pub returns : goal.returns
returns c =
    let log = c.checked_ilog2.ensures in
    c.unwrap_or.ensures ∙ rounded_down c.args.a c.checked_ilog2.result log.none log.power_le log.next_power_gt
