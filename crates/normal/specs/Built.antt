-- What a caller of `build_basis` learns from its answer, whichever of the two it is. In order: from a basis, from a dependency.
-- Assumes nothing.
use Rattle.std.specs.Prelude.{◌≡◌, refl, Bool, true, false, cond, ℕ, Result, Ok, Err}
use Rattle.normal.specs.Normal.{normal, dependency}
use Rattle.normal.specs.Basis.{basis_rows, built_of}
use Rattle.normal.specs.declared.basis.Basis.{Basis}

-- by the two cases of the definition
told : (f n a : ℕ) (b : Bool) {r : Result Basis ℕ} → normal f n a ≡ b → r ≡ built_of f n a → r ≡ cond b (Ok (basis_rows f n a)) (Err (dependency f n a))
unfolding built_of
told f n a b t e = rw t at e

module _ (f n a : ℕ) where
  pub built-ok : {basis : Basis} → Ok basis ≡ built_of f n a → (normal f n a ≡ true) × (basis ≡ basis_rows f n a)
  built-ok {basis} e = go (normal f n a) refl
    where
      go : (b : Bool) → normal f n a ≡ b → (normal f n a ≡ true) × (basis ≡ basis_rows f n a)
      go true t = let h = told f n a true t e in (t, cc)
      go false t = let h = told f n a false t e in absurd cc

  pub built-err : {set : ℕ} → Err set ≡ built_of f n a → (normal f n a ≡ false) × (set ≡ dependency f n a)
  built-err {set} e = go (normal f n a) refl
    where
      go : (b : Bool) → normal f n a ≡ b → (normal f n a ≡ false) × (set ≡ dependency f n a)
      go true t = let h = told f n a true t e in absurd cc
      go false t = let h = told f n a false t e in (t, cc)
