-- `divisors::splitting::split` meets its contract: the goals that the check leaves. Its loop is told in `Invariants.antt`. Assumes nothing.
use mathlib.Core.Path.{◌≡◌}
use mathlib.Core.Logic.{⊎_elim}
use borrow.Author.Rules.{rules}
use Prim.Native.Nat.{ℕ, ◌+◌, ◌*◌, ◌^◌, ◌≤◌, ◌<◌}
use native.Mathlib.Omega.{arith}
use lib.Pow.{pow-lt}
use Rattle.gf2.specs.Poly.{Degree, Divides}
use Rattle.gf2.specs.Numbers.{order}
use Rattle.gf2.specs.Degrees.{degree-lt}
use Rattle.gf2.specs.Euclid.{GreatestCommon}
use Rattle.field.specs.Field.{trace_to}
use Rattle.divisors.specs.Level.{Level}
use Rattle.divisors.specs.Splitting.{BitsTo, bits_start, bits_next, bits_even, level_no_bits, trace_splits}
use Rattle.divisors.proofs.splitting.split.Goals.{Start}
use Rattle.divisors.proofs.splitting.split.Goals as goal

module _ (g m i : ℕ) (pre : Degree g m × Level i g × (i < m)) where
  big : 2 ≤ m
  big = omega (arith, pre.1.from, pre.2)

  start : (1 < m) × BitsTo g m i 1
  start = (big, bits_start g m pre.0 i big)

  below : (k : ℕ) → k ≤ m → BitsTo g m i k → k < m
  below k h bits =
      ⊎_elim
      (λ (u : k < m). u)
      (λ (u : m ≤ k). let e : k ≡ m = omega arith in absurd (level_no_bits i g m pre.1 pre.0 (rw e at bits) pre.2))
      (order k m)

  module _ (j p t : ℕ) (inv : (2 * j + 1 < m) × BitsTo g m i (2 * j + 1)) (ep : p ≡ 2 ^ (2 * j + 1)) (et : t ≡ trace_to g m i p) where
    power-lt : p < 2 ^ m
    power-lt = let h = inv.0 in rw ep (pow-lt h)

    again : t < 2 → (2 * (j + 1) + 1 < m) × BitsTo g m i (2 * (j + 1) + 1)
    again test =
        let k : ℕ = 2 * j + 1 in
        let next : 2 * (j + 1) + 1 ≡ k + 2 = omega arith in
        let even : BitsTo g m i (k + 1) = bits_next g m pre.0 i k inv.1 (rw (et, ep) at test) in
        let even-below : k + 1 < m = below (k + 1) (omega (arith, inv.0)) even in
        let odd : BitsTo g m i (k + 2) = bits_even i g m pre.1 pre.0 big k (omega arith) even-below even in
        rw next (below (k + 2) (omega (arith, even-below)) odd, odd)

    found : (d : ℕ) → 2 ≤ t → GreatestCommon g t d → (2 ≤ d) × (d < g) × Divides d g
    found d two c =
        let r = trace_splits i g m pre.1 pre.0 big p power-lt t d et two c in
        (r.0, r.1, c.left)

m-lt : (s : Start) → s.args.m < 64
m-lt s = degree-lt s.args.part.value s.args.m 64 s.requires.0 (search rules)

pub loop-j-init : goal.loop-j-init
loop-j-init c = start c.args.part.value c.args.m c.args.part.degree (c.requires.0, c.args.part.level, c.requires.1)

pub overflow_mul-j : goal.overflow_mul-j
overflow_mul-j c = omega (arith, c.loop-j.invariant.0, m-lt (goal.at.overflow_mul-j c).Start)

pub overflow_add-j : goal.overflow_add-j
overflow_add-j c = omega (arith, c.loop-j.invariant.0, m-lt (goal.at.overflow_add-j c).Start)

pub power-requires : goal.power-requires
power-requires c = omega (arith, c.loop-j.invariant.0, m-lt (goal.at.power-requires c).Start)

pub first_conjugates_sum-t-requires : goal.first_conjugates_sum-t-requires
first_conjugates_sum-t-requires c =
    let h = c.loop-j.invariant.0 in
    record { is_degree = c.requires.0; below = rw c.power.ensures (pow-lt h) }

pub greatest_common-requires : goal.greatest_common-requires
greatest_common-requires c =
    let two = c.args.part.level.two in
    omega arith

pub returns-then-splits : goal.returns-then-splits
returns-then-splits c =
    found c.args.part.value c.args.m c.args.part.degree (c.requires.0, c.args.part.level, c.requires.1) c.loop-j.j c.power.result c.first_conjugates_sum-t.result c.loop-j.invariant c.power.ensures c.first_conjugates_sum-t.ensures
    c.greatest_common.result (omega (arith, c.if-splits.true)) c.greatest_common.ensures

pub loop-j-preserved : goal.loop-j-preserved
loop-j-preserved c =
    again c.args.part.value c.args.m c.args.part.degree (c.requires.0, c.args.part.level, c.requires.1) c.loop-j.j c.power.result c.first_conjugates_sum-t.result c.loop-j.invariant c.power.ensures c.first_conjugates_sum-t.ensures
    (omega (arith, c.if-splits.false))
