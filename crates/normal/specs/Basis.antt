-- What building a basis answers, as a function of f, its degree and the element: the three matrices, or the dependency.
-- Definitions alone.
--
--   basis_rows f n a   the three matrices of a normal element
--   built_of f n a     the answer: these are its matrices, or it is not normal and this is its dependency
--
-- Assumes nothing.
use Rattle.std.specs.Prelude.{cond, ℕ, Result, Ok, Err}
use Rattle.normal.specs.Normal.{conjugates, normal, dependency, inverse_rows, table_rows, padded}
use Rattle.normal.specs.declared.basis.Basis.{Basis}

abbrev pub basis_rows : (f n a : ℕ) → Basis
basis_rows f n a =
    record {
      conjugates = padded (conjugates f n a);
      inverse = padded (inverse_rows f n a);
      table = padded (table_rows f n a);
    }

unfoldable pub built_of : (f n a : ℕ) → Result Basis ℕ
built_of f n a = cond (normal f n a) (Ok (basis_rows f n a)) (Err (dependency f n a))
