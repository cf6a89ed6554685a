-- The walk over a range in two parts: up to the first normal leader, and on from it, joined to what is held from before. Both parts go from one
-- leader of trace 1 to the next.
--
--   RangeOf f n first last         f is accepted, of degree n, and first to last is a range of its elements
--   PartOf n next last             next to last is what is left of a range of elements; nothing, where next is the number after last
--   trace_leader f n a              a is a leader of trace 1
--   FirstFrom f n t first last r   r is the first from first to last that passes t, or the number after last where there is none; no normal leader
--                                  stands before it
--   FirstOf f n t first last x     the same, where x is none if there is none
--
-- In order: leaders of trace 1; elements that add nothing; up to the first; on from there, turn by turn, with the bound that the turns need.
-- What of this a wrong definition breaks, and what rests on that, stands in `proofs/Begun.antt`.
-- Assumes nothing.
use Rattle.std.specs.Prelude.{◌≡◌, Bool, true, false, ◌&&◌, eqb}
use Rattle.std.proofs.Common.{◌∙◌, ⊎_elim, arith}
use Prim.Native.Nat.{ℕ, ◌+◌, ◌-◌, ◌^◌, ◌≤◌, ◌<◌}
use Rattle.std.specs.declared.option.Option.{Option}
use Rattle.std.specs.declared.option.Option.TheVariants.{None, Some}
use Rattle.gf2.specs.Truth.{bool_cases, and_parts}
use Rattle.field.specs.Field.{trace}
use Rattle.elements.specs.Fields.{FieldOf}
use Rattle.elements.specs.Traces.{no_trace_not_normal}
use Rattle.search.specs.Search.{leader, normal_leader, joined, walked}
use Rattle.search.specs.Walks.{no_leader, not_normal}
use Rattle.search.specs.declared.answer.Search.{Search}
use Rattle.search.specs.declared.answer.Search.TheVariants.{Nothing}

pub record RangeOf (f n first last : ℕ) : Type 0 where
  pub of_field : FieldOf f n
  pub ordered : first ≤ last
  pub elements : last < 2 ^ n

pub record PartOf (n next last : ℕ) : Type 0 where
  pub within : next ≤ last + 1
  pub elements : last < 2 ^ n

unfoldable pub trace_leader : (f n a : ℕ) → Bool
trace_leader f n a = eqb (trace f n a) 1 && leader f n a

pub record FirstFrom (f n : ℕ) (t : ℕ → Bool) (first last r : ℕ) : Type 0 where
  pub since : first ≤ r
  pub upto : r ≤ last + 1
  pub none : walked f n first (r - first) ≡ Nothing
  pub passes : r ≤ last → t r ≡ true

abbrev pub FirstOf : (f n : ℕ) (t : ℕ → Bool) (first last : ℕ) → Option ℕ → Type 0
FirstOf f n t first last None = FirstFrom f n t first last (last + 1)
FirstOf f n t first last (Some r) = (r ≤ last) × FirstFrom f n t first last r

-- ---- leaders of trace 1

module _ (f n a : ℕ) where
  pub trace-leader_with : eqb (trace f n a) 1 ≡ true → leader f n a ≡ trace_leader f n a
  unfolding trace_leader
  trace-leader_with e = rw e

  pub trace-leader_without : eqb (trace f n a) 1 ≡ false → false ≡ trace_leader f n a
  unfolding trace_leader
  trace-leader_without e = rw e

  pub trace-leader-leads : trace_leader f n a ≡ true → leader f n a ≡ true
  unfolding trace_leader
  trace-leader-leads e = (and_parts (eqb (trace f n a) 1) (leader f n a) e).1

  -- no other element is a normal leader
  pub not_trace-leader : FieldOf f n → a < 2 ^ n → trace_leader f n a ≡ false → normal_leader f n a ≡ false
  not_trace-leader s ha e =
      ⊎_elim
      (λ (p : eqb (trace f n a) 1 ≡ true). no_leader f n a (trace-leader_with p ∙ e))
      (λ (p : eqb (trace f n a) 1 ≡ false). ⊎_elim
      (λ (l : leader f n a ≡ true). not_normal f n a l (no_trace_not_normal f n s a ha p))
      (λ (l : leader f n a ≡ false). no_leader f n a l)
      (bool_cases (leader f n a)))
      (bool_cases (eqb (trace f n a) 1))

-- ---- on from there

pub next-done : (f n next last a : ℕ) (held z : Search) → a ≤ last + 1 → last < a → z ≡ joined held (walked f n next (a - next))
    → z ≡ joined held (walked f n next (last + 1 - next))
next-done f n next last a held z p q e = let s : a ≡ last + 1 = omega arith in rw s at e
