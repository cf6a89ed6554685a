-- What document 01, "Refusal numbers", says of the numbers that a call hands out for the verdict of its order, whatever the order is.
-- Definitions alone; that calls keep it is proved in `Telling`, over any order.
--
--   number_of, place_of    the number and the place of a verdict
--   First k p rs         the first rule of rs that applies has the number k and the place p
--   In k ks              k is one of ks
--   AtZero ks k p        k is one of ks, and the place p is 0
--   Below ks m k p       k is one of ks, and the place p is below m
--   Every P rs           P holds of the number and the place of every rule of rs
--   AllZero values       each of the values is 0
--   Told rs P Done number place values     what is said of a call with the order rs, whose numbers and places P allows
--   ValueTold rs P r, CheckedTold rs P r   the same of an answer r
--
-- Assumes nothing.
use Rattle.std.specs.Prelude.{◌≡◌, ◌⊎◌, ◌↔◌, true, false, List, [], ◌∷◌, map, ℕ, ◌<◌, Result, Ok, Err}
use Rattle.refusals.specs.Verdicts.{fault_number, Rule, Verdict, clear, refuse}
use Rattle.refusals.specs.declared.answer.Refusal.{Refusal}
use Rattle.refusals.specs.Answers.{value_report, Checked, passed, checked_report}

-- "Done is 0 with place 0."
unfoldable pub number_of : Verdict → ℕ
number_of clear = 0
number_of (refuse k p) = fault_number k

unfoldable pub place_of : Verdict → ℕ
place_of clear = 0
place_of (refuse k p) = p

-- "Each condition is tested only if none earlier in the call's order applied."
pub data First (k p : ℕ) : List Rule → Type 0 where
  here : {r : Rule} {rs : List Rule} → fault_number r.fault ≡ k → r.place ≡ p → r.applies ≡ true → First k p (r ∷ rs)
  later : {r : Rule} {rs : List Rule} → r.applies ≡ false → First k p rs → First k p (r ∷ rs)

-- ---- the numbers and places of an order

abbrev pub In : ℕ → List ℕ → Type 0
In k [] = ⊥
In k (x ∷ xs) = (k ≡ x) ⊎ In k xs

abbrev pub AtZero : (numbers : List ℕ) → ℕ → ℕ → Type 0
AtZero ks k p = In k ks × (p ≡ 0)

abbrev pub Below : (numbers : List ℕ) (bound : ℕ) → ℕ → ℕ → Type 0
Below ks m k p = In k ks × (p < m)

abbrev pub Every : (ℕ → ℕ → Type 0) → List Rule → Type 0
Every P [] = Unit {0}
Every P (r ∷ rs) = P (fault_number r.fault) r.place × Every P rs

abbrev pub numbers_of : List Rule → List ℕ
numbers_of rs = map (λ (r : Rule). fault_number r.fault) rs

abbrev pub places_of : List Rule → List ℕ
places_of rs = map (λ (r : Rule). r.place) rs

-- ---- what a call hands out

abbrev pub AllZero : List ℕ → Type 0
AllZero [] = Unit {0}
AllZero (x ∷ xs) = (x ≡ 0) × AllZero xs

pub record Told (rs : List Rule) (P : ℕ → ℕ → Type 0) (Done : Type 0) (number place : ℕ) (values : List ℕ) : Type 0 where
  -- "Done is 0 with place 0."
  pub done : (number ≡ 0) ↔ Done
  pub done-place : number ≡ 0 → place ≡ 0
  -- a number that is given stands in the order, where the table has its place
  pub listed : 0 < number → P number place
  -- "given exactly when": its condition is the first that applies
  pub applies : 0 < number → First number place rs
  -- "A refusal's other values are zero"
  pub zero : 0 < number → AllZero values

abbrev pub ValueTold : (rs : List Rule) → (ℕ → ℕ → Type 0) → Result ℕ Refusal → Type 0
ValueTold rs P r = Told rs P ((x : ℕ) × (r ≡ Ok x)) (value_report r).number (value_report r).place ((value_report r).value ∷ [])

abbrev pub CheckedTold : (rs : List Rule) → (ℕ → ℕ → Type 0) → Checked → Type 0
CheckedTold rs P r = Told rs P (r ≡ passed) (checked_report r).number (checked_report r).place ((checked_report r).value ∷ [])
