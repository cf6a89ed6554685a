-- `sheet::shaped::Sheet::element_in` meets its contract: the remainder modulo the polynomial that record 0 names.
-- Assumes nothing.
use mathlib.Core.Path.{◌≡◌, ap, ◌∙◌}
use mathlib.Core.List.{List}
use Prim.Native.Nat.{ℕ}
use Rattle.gf2.specs.Poly.{rem, Degree}
use Rattle.sheet.specs.Record.{record_count, polynomial_in}
use Rattle.sheet.specs.Orders.{Shaped}
use Rattle.sheet.specs.Answers.{element_in}
use Rattle.sheet.specs.Clear.{polynomial-degree}
use Rattle.sheet.proofs.shaped.Sheet.element_in.Goals as goal

named-degree : (sheet : List ℕ) → Shaped sheet → {f : ℕ} → f ≡ polynomial_in sheet → Degree f (record_count sheet)
named-degree sheet z e = rw e (polynomial-degree sheet z)

pub element_of-requires : goal.element_of-requires
element_of-requires c = rw c.degree.ensures (named-degree c.args.self.now.bytes.now c.args.self.now.shaped c.polynomial.ensures)

pub returns : goal.returns
unfolding element_in
returns c =
    c.element_of.ensures ∙ ap (λ (n : ℕ). rem c.polynomial.result n c.args.word) c.degree.ensures ∙ ap (λ (f : ℕ). rem f (record_count c.args.self.now.bytes.now) c.args.word) c.polynomial.ensures
