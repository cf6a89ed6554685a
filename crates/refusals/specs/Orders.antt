-- Laws of orders: how a path through the conditions of a call finds the first that applies, whatever the order is.
--
--   first-applies, first_passes, first-none   the first condition applies; it does not; there is none
--   first-clear                               what it takes to find nothing
--   first-append                              an order in two parts; `part-refused`, `part-clear`, `parts-clear`
--
-- Assumes nothing.
use Rattle.std.specs.Prelude.{◌≡◌, ◌⊎◌, Bool, true, false, cond, List, [], ◌∷◌, ◌++◌, ℕ}
use Rattle.std.proofs.Math.Path.{refl}
use Rattle.std.proofs.Common.{sym, ap, ◌∙◌, inl, inr, arith}
use Rattle.gf2.specs.Truth.{bool_cases}
use Rattle.refusals.specs.declared.fault.Fault.{Fault}
use Rattle.refusals.specs.Verdicts.{Rule, Verdict, clear, refuse, first_of, and_then}

pub refuse_not_clear : (k : Fault) (p : ℕ) → refuse k p ≡ clear → ⊥
refuse_not_clear k p e = let z : ◌≡◌ {A = ℕ} 0 1 = cc in omega arith

-- ---- one condition

pub first-applies : (r : Rule) (rs : List Rule) → r.applies ≡ true → first_of (r ∷ rs) ≡ refuse r.fault r.place
unfolding first_of
first-applies r rs e = rw e

pub first_passes : (r : Rule) (rs : List Rule) → r.applies ≡ false → first_of (r ∷ rs) ≡ first_of rs
unfolding first_of
first_passes r rs e = rw e

pub first-none : first_of [] ≡ clear
unfolding first_of
first-none = refl

-- an order finds nothing only where its first condition does not apply and the rest of it finds nothing
pub first-clear : (r : Rule) (rs : List Rule) → first_of (r ∷ rs) ≡ clear → (r.applies ≡ false) × (first_of rs ≡ clear)
first-clear r rs e = go (bool_cases r.applies)
  where
    go : (r.applies ≡ true) ⊎ (r.applies ≡ false) → (r.applies ≡ false) × (first_of rs ≡ clear)
    go (inl a) = absurd (refuse_not_clear r.fault r.place (sym (first-applies r rs a) ∙ e))
    go (inr a) = (a, sym (first_passes r rs a) ∙ e)

-- ---- two parts

cond_then : (b : Bool) (k : Fault) (p : ℕ) (v w : Verdict) → cond b (refuse k p) (and_then v w) ≡ and_then (cond b (refuse k p) v) w
unfolding and_then
cond_then true k p v w = refl
cond_then false k p v w = refl

pub first-append : (xs ys : List Rule) → first_of (xs ++ ys) ≡ and_then (first_of xs) (first_of ys)
unfolding first_of and_then
first-append [] ys = refl
first-append (r ∷ xs) ys =
    ap (cond r.applies (refuse r.fault r.place)) (first-append xs ys)
    ∙ cond_then r.applies r.fault r.place (first_of xs) (first_of ys)

module _ (xs ys : List Rule) where
  pub part-refused : (k : Fault) (p : ℕ) → first_of xs ≡ refuse k p → first_of (xs ++ ys) ≡ refuse k p
  unfolding and_then
  part-refused k p e = first-append xs ys ∙ rw e

  pub part-clear : first_of xs ≡ clear → first_of (xs ++ ys) ≡ first_of ys
  unfolding and_then
  part-clear e = first-append xs ys ∙ rw e

  pub parts-clear : first_of (xs ++ ys) ≡ clear → (first_of xs ≡ clear) × (first_of ys ≡ clear)
  unfolding and_then
  parts-clear e = go (first_of xs) refl (sym (first-append xs ys) ∙ e)
    where
      go : (v : Verdict) → first_of xs ≡ v → and_then v (first_of ys) ≡ clear → (first_of xs ≡ clear) × (first_of ys ≡ clear)
      go clear p q = (p, q)
      go (refuse k place) p q = absurd (refuse_not_clear k place q)
