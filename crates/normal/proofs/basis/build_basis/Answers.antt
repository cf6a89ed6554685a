-- `normal::basis::build_basis` meets its contract: what inversion answers is what the definitions say.
-- Assumes nothing.
use mathlib.Core.Path.{◌≡◌, refl, ◌∙◌}
use Rattle.std.proofs.Common.{rules, Err}
use mathlib.Core.List.{List}
use Prim.Native.Nat.{ℕ}
use Rattle.gf2.specs.Poly.{Element}
use Rattle.rows.specs.Rows.{Matrix}
use Rattle.normal.specs.Normal.{conjugates, padded}
use Rattle.normal.proofs.Coordinates.{conjugates_matrix}
use Rattle.normal.specs.Filling.{padded_matrix}
use Rattle.normal.proofs.Building.{built_dependent, built_normal}
use Rattle.normal.proofs.basis.build_basis.Goals as goal

matrix : (f n a : ℕ) (rows : List ℕ) → Element f n a → rows ≡ padded (conjugates f n a) → Matrix rows n
matrix f n a rows el e = rw e (padded_matrix (conjugates f n a) n (conjugates_matrix f n el.is_degree a el.below))

pub invert-requires : goal.invert-requires
invert-requires c =
    (c.requires.0, matrix c.args.f c.args.n c.args.a c.conjugates_of-conjugates.result c.requires.1 c.conjugates_of-conjugates.ensures)

pub returns-in_err-inverse : goal.returns-in_err-inverse
returns-in_err-inverse c =
    let passed : c.from_residual.result ≡ Err c.in_err-inverse.field-0.0 = search rules in
    passed
    ∙ built_dependent c.args.f c.args.n c.args.a c.requires.1.is_degree c.requires.0 c.requires.1.below _ (rw c.conjugates_of-conjugates.ensures at c.in_err-inverse.ensures) _ refl

pub table_of-table-requires : goal.table_of-table-requires
table_of-table-requires c =
    (c.requires.0, c.requires.1.is_degree, matrix c.args.f c.args.n c.args.a c.conjugates_of-conjugates.result c.requires.1 c.conjugates_of-conjugates.ensures)

pub returns : goal.returns
returns c =
    built_normal c.args.f c.args.n c.args.a c.requires.1.is_degree c.requires.0 c.requires.1.below _ (rw c.conjugates_of-conjugates.ensures at c.in_ok-inverse.ensures) _ refl
    c.conjugates_of-conjugates.result c.table_of-table.result c.conjugates_of-conjugates.ensures (rw c.conjugates_of-conjugates.ensures at c.table_of-table.ensures)
