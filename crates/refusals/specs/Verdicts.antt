-- How a call's order picks from the refusal table of document 01. Definitions alone. The rows of the table stand in the crates whose
-- conditions they name.
--
--   fault_number      the number of a row of the table
--   Rule              a row of the table as it stands in a call: which, the place, and whether its condition holds
--   Verdict           what an order finds: nothing to refuse, or a row and a place
--   first_of order     "Each condition is tested only if none earlier in the call's order applied."
--   and_then v w       the verdict of an order in two parts
--
-- Assumes nothing.
use Rattle.std.specs.Prelude.{Bool, cond, List, [], ◌∷◌, ℕ}
use Rattle.refusals.specs.declared.fault.Fault.{Fault}
use Rattle.refusals.specs.declared.fault.Fault.TheVariants.{DegreeOutside, Divided, Strays, TooLarge, NotNormal, NoRoom, BadLength, Misplaced, Oversized, Differs, BadList, EmptyRange, ZeroDivisor, OtherText}

abbrev pub fault_number : Fault → ℕ
fault_number DegreeOutside = 1
fault_number Divided = 2
fault_number Strays = 3
fault_number TooLarge = 4
fault_number NotNormal = 5
fault_number NoRoom = 6
fault_number BadLength = 7
fault_number Misplaced = 8
fault_number Oversized = 9
fault_number Differs = 10
fault_number BadList = 11
fault_number EmptyRange = 12
fault_number ZeroDivisor = 13
fault_number OtherText = 14

pub record Rule : Type 0 where
  pub fault : Fault
  pub place : ℕ
  pub applies : Bool

pub data Verdict : Type 0 where
  clear : Verdict
  refuse : (fault : Fault) (place : ℕ) → Verdict

unfoldable pub first_of : List Rule → Verdict
first_of [] = clear
first_of (r ∷ rs) = cond r.applies (refuse r.fault r.place) (first_of rs)

-- what a first part refuses the whole refuses; where it is clear the rest decides
unfoldable pub and_then : Verdict → Verdict → Verdict
and_then clear w = w
and_then (refuse k p) w = refuse k p
