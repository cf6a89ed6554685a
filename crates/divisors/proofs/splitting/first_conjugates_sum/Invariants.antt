-- `divisors::splitting::first_conjugates_sum` meets its contract. The invariant: sum is the sum of the conjugates that are done.
-- Assumes nothing.
use Rattle.std.proofs.Common.{◌≡◌}
use Rattle.field.specs.Field.{trace_to}
use Rattle.divisors.proofs.splitting.first_conjugates_sum.Given as goal

abbrev pub invariant-loop-done : goal.invariant-loop-done
invariant-loop-done l = l.sum ≡ trace_to l.g l.m l._done l.a
