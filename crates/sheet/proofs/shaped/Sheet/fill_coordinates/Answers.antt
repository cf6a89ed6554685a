-- `sheet::shaped::Sheet::fill_coordinates` meets its contract: the polynomial and the rows that were loaded convert as the sheet's own.
-- Assumes nothing.
use mathlib.Core.Path.{◌≡◌, ap, ◌∙◌}
use mathlib.Core.List.{List, map}
use Prim.Native.Nat.{ℕ}
use Rattle.normal.specs.Normal.{padded}
use Rattle.sheet.specs.Record.{record_count, polynomial_in, inverse_rows_in}
use Rattle.sheet.specs.Answers.{to_normal}
use Rattle.sheet.specs.Unreduced.{in_normal, loaded_words}
use Rattle.sheet.proofs.shaped.Sheet.fill_coordinates.Goals as goal

named-words : (sheet words : List ℕ) {f : ℕ} {loaded copied : List ℕ} → f ≡ polynomial_in sheet → loaded ≡ padded (inverse_rows_in sheet) → copied ≡ words
    → map (in_normal f (record_count sheet) loaded) copied ≡ map (to_normal sheet) words
named-words sheet words {f} {loaded} ef er ec =
    ap (map (in_normal f (record_count sheet) loaded)) ec
    ∙ ap (λ (g : ℕ). map (in_normal g (record_count sheet) loaded) words) ef
    ∙ loaded_words sheet er words

pub returns : goal.returns
returns c =
    c.convert_unreduced.ensures ∙ ap (λ (n : ℕ). map (in_normal c.ring.result.f n c.rows-rows.result) c.copy.new.into) c.ring.ensures.1
    ∙ named-words c.args.self.now.bytes.now c.args.from.now c.ring.ensures.0 c.rows-rows.ensures c.copy.ensures
