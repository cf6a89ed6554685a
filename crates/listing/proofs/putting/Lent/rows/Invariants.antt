-- `listing::putting::Lent::rows` meets its contract. The invariant: the first i rows are put.
-- Assumes nothing.
use Prim.Native.Nat.{◌+◌, ◌*◌, ◌≤◌}
use Rattle.listing.specs.Text.{row_lines}
use Rattle.listing.specs.Room.{row_room}
use Rattle.listing.specs.Putting.{Puts, Same}
use Rattle.listing.proofs.putting.Lent.rows.Given as goal

abbrev pub invariant-loop-i : goal.invariant-loop-i
invariant-loop-i l =
    (l.self.at ≤ l.initial.self.at + row_room * l.i)
    × Puts l.initial.self (row_lines l.sheet l.i) l.self
    × Same l.initial.self l.self
