-- What the basis that was built of an element tells: whether the element is normal, its complexity, its inverse rows.
-- Assumes nothing.
use Rattle.std.specs.Prelude.{◌≡◌, ℕ, List, take, Result, Ok, Err, is_ok}
use Rattle.std.proofs.Math.Path.{sym, ap}
use Rattle.std.proofs.Common.{◌∙◌}
use Rattle.normal.specs.Normal.{normal, inverse_rows, table_rows, complexity, padded}
use Rattle.normal.specs.Basis.{built_of}
use Rattle.normal.specs.Built.{built-ok, built-err}
use Rattle.normal.specs.Coordinates.{table_rows-length}
use Rattle.normal.specs.Filling.{padded-take}
use Rattle.normal.specs.declared.basis.Basis.{Basis}

pub built_normal : (f n y : ℕ) (built : Result Basis ℕ) → built ≡ built_of f n y → is_ok built ≡ normal f n y
built_normal f n y (Ok basis) e = sym (built-ok f n y e).0
built_normal f n y (Err set) e = sym (built-err f n y e).0

module _ (f n y : ℕ) {basis : Basis} (e : Ok basis ≡ built_of f n y) where
  pub built_complexity : (c : ℕ) → c ≡ complexity (take n basis.table) → c ≡ complexity (table_rows f n y)
  built_complexity c ec =
      let table : basis.table ≡ padded (table_rows f n y) = ap (λ (x : Basis). x.table) (built-ok f n y e).1 in
      ec ∙ ap (λ (rows : List ℕ). complexity (take n rows)) table ∙ ap complexity (padded-take (table_rows f n y) n (table_rows-length f n y))

  pub built_inverse : basis.inverse ≡ padded (inverse_rows f n y)
  built_inverse = ap (λ (x : Basis). x.inverse) (built-ok f n y e).1
