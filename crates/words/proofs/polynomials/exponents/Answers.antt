-- `words::polynomials::exponents` meets its contract: the goals that the check leaves. Its loop is told in `Invariants.antt`. Assumes nothing.
use Rattle.std.proofs.Common.{rules, tests, arith, sym, ◌∙◌, ◌≡◌, [], ◌∷◌, ◌+◌, ◌<◌, ◌^◌, ◌≤◌, pow_pos}
use denote.Param.Always.{mut_total}
use Rattle.words.specs.Notation.{parts}
use Rattle.words.specs.Spelling.{number-below}
use Rattle.words.specs.Exponents.{summed, summed-exponents, summed_stop, summed-more, sum_room}
use Rattle.words.proofs.Cut.{left, none-left, next-left}
use Rattle.words.proofs.polynomials.exponents.Goals.{In-Some, In_ok-value, After-power-sum}
use Rattle.words.proofs.polynomials.exponents.Goals as goal

pub loop-part-init : goal.loop-part-init
loop-part-init c = (
  mut_total _ _ (λ f a. tt),
  tt,
  omega arith,
  omega arith,
  rw (c.into_iter-part-iterator.ensures.into_iter_gives, c.split-part-items.ensures.done, c.split-part-items.ensures.rest) (summed-exponents (parts c.args.word.now)),
)

-- the part that came is the first of those that were left
first : (c : In-Some) → left c.loop-part.part-iterator ≡ c.in-Some.part.now ∷ left c.next.new.self
first c = next-left _ (λ f x b q k. search (rules, tests)) c.loop-part.part-iterator c.next.new.self c.in-Some.part c.in-Some.ensures.steps

pub returns-in_err-value : goal.returns-in_err-value
returns-in_err-value c =
    c.from_residual.ensures ∙
    sym (rw (first (goal.at.returns-in_err-value c).In-Some)
    (summed_stop c.loop-part.bound c.loop-part.sum c.in-Some.part.now (left c.next.new.self) (sym c.in_err-value.ensures))) ∙ c.loop-part.invariant.4

-- the exponent that was read is below the bound
below : (c : In_ok-value) → c.in_ok-value.value < c.loop-part.bound
below c = number-below 10 c.loop-part.bound c.in-Some.part.now c.in_ok-value.value (sym c.in_ok-value.ensures)

pub power-sum-requires : goal.power-sum-requires
power-sum-requires c = omega (arith, below (goal.at.power-sum-requires c).In_ok-value, c.loop-part.invariant.2)

-- the sum with its power keeps room for that power
room : (c : After-power-sum) → c.in_ok-value.value < c.loop-part.bound → c.loop-part.sum + c.power-sum.result + c.power-sum.result ≤ 2 ^ 64
room c b = rw c.power-sum.ensures (sum_room c.loop-part.bound c.loop-part.sum c.in_ok-value.value b c.loop-part.invariant.3)

pub overflow_add-sum : goal.overflow_add-sum
overflow_add-sum c =
    omega (arith, room (goal.at.overflow_add-sum c).After-power-sum (below (goal.at.overflow_add-sum c).In_ok-value), c.power-sum.ensures, pow_pos c.in_ok-value.value)

pub loop-part-preserved : goal.loop-part-preserved
loop-part-preserved c = (
  mut_total _ _ (λ f a. tt),
  tt,
  omega (arith, below (goal.at.loop-part-preserved c).In_ok-value, c.loop-part.invariant.2),
  rw (← c.power-sum.ensures) (room (goal.at.loop-part-preserved c).After-power-sum (below (goal.at.loop-part-preserved c).In_ok-value)),
  rw c.power-sum.ensures
      (sym (rw (first (goal.at.loop-part-preserved c).In-Some)
      (summed-more c.loop-part.bound c.loop-part.sum c.in_ok-value.value c.in-Some.part.now (left c.next.new.self) (sym c.in_ok-value.ensures))) ∙ c.loop-part.invariant.4),
)

pub returns : goal.returns
unfolding summed
returns c =
    let e : left c.loop-part.part-iterator ≡ [] = none-left c.loop-part.part-iterator c.in-None.ensures.steps.0 in
    rw e at c.loop-part.invariant.4
