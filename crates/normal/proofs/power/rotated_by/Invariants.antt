-- `normal::power::rotated_by` meets its contract. The invariant: turned is v rotated as often as there were turns.
-- Assumes nothing.
use mathlib.Core.Path.{◌≡◌}
use Rattle.normal.specs.TableProduct.{rotated_by}
use Rattle.normal.proofs.power.rotated_by.Given as goal

abbrev pub invariant-loop : goal.invariant-loop
invariant-loop l = l.turned ≡ rotated_by l.n l.counter l.v
