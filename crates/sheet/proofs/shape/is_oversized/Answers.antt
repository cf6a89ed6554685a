-- `sheet::shape::is_oversized` meets its contract: its tests are the definition's.
-- Assumes nothing.
use mathlib.Core.Path.{◌≡◌, sym, ap, ◌∙◌}
use Prim.Native.Nat.{ℕ}
use mathlib.Core.Bool.{Bool}
use Rattle.field.specs.Refusals.{too_large_lem}
use Rattle.sheet.specs.Record.{column_in}
use Rattle.sheet.specs.Shape.{tail_large, conjugate_large, inverse_large, table-decides}
use Rattle.sheet.proofs.shape.is_oversized.Goals as goal

-- the test of a field that was read
read : (n : ℕ) {x y : ℕ} {b : Bool} → b ≡ too_large_lem n x → x ≡ y → b ≡ too_large_lem n y
read n e p = e ∙ ap (too_large_lem n) p

pub returns-then-too_large : goal.returns-then-too_large
unfolding column_in
returns-then-too_large c =
    tail_large c.args.sheet.now c.args.i c.args.n c.requires.0 (sym c.if-too_large.true ∙ read c.args.n c.too_large.ensures c.number_at.ensures)

pub returns-then-too_large-2 : goal.returns-then-too_large-2
unfolding column_in
returns-then-too_large-2 c =
    conjugate_large c.args.sheet.now c.args.i c.args.n c.requires.0
    (sym (read c.args.n c.too_large.ensures c.number_at.ensures) ∙ c.if-too_large.false)
    (sym c.if-too_large-2.true ∙ read c.args.n c.too_large-2.ensures c.number_at-2.ensures)

pub returns-then-too_large-3 : goal.returns-then-too_large-3
unfolding column_in
returns-then-too_large-3 c =
    inverse_large c.args.sheet.now c.args.i c.args.n c.requires.0
    (sym (read c.args.n c.too_large.ensures c.number_at.ensures) ∙ c.if-too_large.false)
    (sym (read c.args.n c.too_large-2.ensures c.number_at-2.ensures) ∙ c.if-too_large-2.false)
    (sym c.if-too_large-3.true ∙ read c.args.n c.too_large-3.ensures c.number_at-3.ensures)

pub returns : goal.returns
unfolding column_in
returns c =
    read c.args.n c.too_large-4.ensures c.number_at-4.ensures
    ∙ table-decides c.args.sheet.now c.args.i c.args.n c.requires.0
    (sym (read c.args.n c.too_large.ensures c.number_at.ensures) ∙ c.if-too_large.false)
    (sym (read c.args.n c.too_large-2.ensures c.number_at-2.ensures) ∙ c.if-too_large-2.false)
    (sym (read c.args.n c.too_large-3.ensures c.number_at-3.ensures) ∙ c.if-too_large-3.false)
