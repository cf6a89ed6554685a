-- `sheet::shaped::Sheet::to_normal` meets its contract: what the inverse rows make of the element.
-- Assumes nothing.
use mathlib.Core.Path.{◌≡◌, ap, ◌∙◌}
use mathlib.Core.List.{List}
use Prim.Native.Nat.{ℕ, ◌^◌, ◌<◌}
use native.Mathlib.Omega.{arith}
use Rattle.rows.specs.Rows.{comb}
use Rattle.sheet.specs.Record.{record_count, inverse_rows_in}
use Rattle.sheet.specs.Orders.{Shaped}
use Rattle.sheet.specs.Answers.{element_in, to_normal}
use Rattle.sheet.specs.Unreduced.{element_in_lt}
use Rattle.sheet.proofs.shaped.Sheet.to_normal.Goals as goal

reduced-lt : (sheet : List ℕ) → Shaped sheet → (word : ℕ) {x : ℕ} → x ≡ element_in sheet word → x < 2 ^ record_count sheet
reduced-lt sheet z word e = rw e (element_in_lt sheet z word)

pub converted-requires : goal.converted-requires
converted-requires c =
    (omega arith, reduced-lt c.args.self.now.bytes.now c.args.self.now.shaped c.args.word c.element_in-element.ensures)

pub returns : goal.returns
unfolding to_normal
returns c =
    c.converted.ensures ∙ ap (comb (inverse_rows_in c.args.self.now.bytes.now)) c.element_in-element.ensures
