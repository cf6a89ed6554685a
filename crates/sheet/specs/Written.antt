-- The sheet of f and a normal element: its shape is clear, its rows are those of the definitions, it is rebuilt as itself; and a sheet
-- that reading finds nothing wrong with is such a sheet.
-- What of this a wrong definition breaks, and what rests on that, stands in `proofs/Written.antt`.
-- Assumes nothing.
use Rattle.std.specs.Prelude.{◌≡◌, refl, true, false, List, [], ◌∷◌, eqb}
use Rattle.std.proofs.Common.{ap₂}
use Prim.Native.Nat.{ℕ}
use borrow.Author.Tests.{eq-eqb, eqb-true}
use Rattle.gf2.specs.Truth.{not_both, and_parts}
use Rattle.sheet.specs.Orders.{same}

-- ---- records that do not differ

pub same_refl : (l : List ℕ) → same l l ≡ true
unfolding same
same_refl [] = refl
same_refl (x ∷ l) = rw (eq-eqb x x refl, same_refl l)

pub same_equal : (x y : List ℕ) → same x y ≡ true → x ≡ y
unfolding same
same_equal [] [] e = refl
same_equal [] (b ∷ y) e = absurd (not_both false e refl)
same_equal (a ∷ x) [] e = absurd (not_both false e refl)
same_equal (a ∷ x) (b ∷ y) e =
    let s = and_parts (eqb a b) (same x y) e in
    ap₂ {C = List ℕ} (λ (u : ℕ) (l : List ℕ). u ∷ l) (eqb-true a b s.0) (same_equal x y s.1)
