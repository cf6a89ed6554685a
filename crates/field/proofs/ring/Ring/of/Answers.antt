-- `field::ring::Ring::of` meets its contract: one condition, and nothing after it.
-- Assumes nothing.
use Rattle.std.proofs.Common.{refl, sym, ◌∙◌, []}
use Rattle.refusals.specs.Orders.{first-applies, first_passes, first-none}
use Rattle.field.specs.Refusals.{degree_rule}
use Rattle.field.specs.Orders.{in_range}
use Rattle.field.proofs.ring.Ring.of.Goals as goal

pub returns-then-degree_outside : goal.returns-then-degree_outside
returns-then-degree_outside c =
    rw c.from.ensures (first-applies (degree_rule c.args.f) [] (sym c.degree_outside.ensures ∙ c.if-degree_outside.true))

pub invariant_of-result : goal.invariant_of-result
invariant_of-result c = record {
  in_range = in_range c.args.f c.degree_of.result c.degree_of.ensures (sym c.degree_outside.ensures ∙ c.if-degree_outside.false);
}

pub returns : goal.returns
returns c =
    (refl, c.degree_of.ensures, first_passes (degree_rule c.args.f) [] (sym c.degree_outside.ensures ∙ c.if-degree_outside.false) ∙ first-none)
