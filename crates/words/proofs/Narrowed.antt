-- A number that is kept where it is below a smaller bound, as `Option::filter` keeps it.
-- Assumes nothing.
use Rattle.std.specs.Prelude.{◌≡◌, ℕ, ◌≤◌, Bool, true, false, List, ltb, Option, None, Some, MatchOption}
use Rattle.std.specs.Bool.{then_some}
use Rattle.std.proofs.Common.{sym, ◌∙◌, refl, ltb-true, ltb-false}
use Rattle.words.specs.Notation.{number_in}
use Rattle.words.specs.Spelling.{narrow_unclear, narrow_number, narrow_large}

module _ (bound wide : ℕ) (part : List ℕ) where
  pub narrowed : (wider kept : Option ℕ) → bound ≤ wide → wider ≡ number_in 10 wide part
      → MatchOption wider (kept ≡ None) (λ x. kept ≡ then_some (ltb x bound) x) → kept ≡ number_in 10 bound part
  narrowed None kept l n k = k ∙ narrow_unclear 10 bound wide part l (sym n)
  narrowed (Some v) kept l n k = k ∙ go (ltb v bound) refl
    where
      go : (b : Bool) → ltb v bound ≡ b → then_some (ltb v bound) v ≡ number_in 10 bound part
      go true e = rw e (narrow_number 10 bound wide part v (sym n) (ltb-true v bound e))
      go false e = rw e (narrow_large 10 bound wide part v (sym n) (ltb-false v bound e))
