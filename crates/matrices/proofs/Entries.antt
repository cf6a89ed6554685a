-- The laws of `specs/Entries.antt` that a wrong definition breaks, and what rests on them. The head there tells of both files.
-- Assumes nothing.
use Rattle.std.specs.Prelude.{◌≡◌}
use Rattle.std.proofs.Math.Path.{sym, ap}
use Rattle.std.proofs.Common.{◌∙◌}
use mathlib.Core.List.{List}
use Prim.Native.Nat.{ℕ, ◌+◌, ◌-◌, ◌%◌, ◌≤◌}
use Rattle.field.specs.Field.{squared}
use Rattle.field.specs.Frobenius.{squared-lt}
use Rattle.normal.specs.TableProduct.{entry}
use Rattle.normal.proofs.Coordinates.{normal-means}
use Rattle.normal.proofs.Conjugated.{conjugate-normal, table_of_conjugate}
use Rattle.sheet.proofs.Issuing.{based-degree, based-two, based-returns, based-free}
use Rattle.sheet.specs.Sheets.{Based}
use Rattle.matrices.specs.Matrices.{matrix_entry, matrices_text}
use Rattle.matrices.proofs.Blocks.{text_ext}
use Rattle.matrices.specs.Entries.{entry-table}

-- ---- conjugates

module _ (f n a : ℕ) (b : Based f n a) (m : ℕ) (within : m ≤ n) where
  abbrev conjugate : ℕ
  conjugate = squared f n m a

  conjugate-based : Based f n (squared f n m a)
  conjugate-based =
      let normal = conjugate-normal f n (based-degree f n a b) (based-two f n a b) (based-returns f n a b) a b.below m within (based-free f n a b) in
      record {
        accepted = b.accepted;
        has_degree = b.has_degree;
        below = squared-lt f n (based-degree f n a b) m a b.below;
        is_normal = (normal-means f n conjugate).1 normal;
      }

  -- they have the same table
  pub text_of_conjugate : matrices_text f n (squared f n m a) ≡ matrices_text f n a
  unfolding matrices_text
  text_of_conjugate =
      let tables = table_of_conjugate f n (based-degree f n a b) (based-two f n a b) (based-returns f n a b) a b.below m within (based-free f n a b) in
      text_ext n (matrix_entry f n conjugate) (matrix_entry f n a)
      (λ k i j hk hi hj.
      entry-table f n conjugate conjugate-based k i j hk hi hj
      ∙ ap (λ (rows : List ℕ). entry rows ((j + (n - i)) % n) ((k + (n - i)) % n)) tables ∙ sym (entry-table f n a b k i j hk hi hj))
