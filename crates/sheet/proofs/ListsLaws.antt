-- The laws of `specs/Lists.antt` that a wrong definition breaks, and what rests on them. The head there tells of both files.
-- Assumes nothing.
use Rattle.std.specs.Prelude.{◌≡◌, not, List, [], ◌∷◌, ℕ, ltb, eqb, length}
use Rattle.std.proofs.Common.{ltb-false, eqb-true}
use Rattle.std.proofs.lemmas.Bool.{not-false}
use Rattle.gf2.specs.Truth.{or_false}
use Rattle.refusals.specs.Verdicts.{clear, first_of}
use Rattle.refusals.specs.Orders.{first-clear, parts-clear}
use Rattle.sheet.specs.Record.{record_count}
use Rattle.sheet.specs.Orders.{list_limit, list_rule, value_rules, shape_order, list_order, polynomial_list_order, Shaped, Fits, Small}
use Rattle.sheet.proofs.Clear.{clear-shaped}
use Rattle.sheet.specs.Lists.{coordinates-small}

-- ---- condition 11

pub list_judged : (sheet : List ℕ) (values room : ℕ) → first_of (list_order sheet values room) ≡ clear → Shaped sheet × Fits values room
list_judged sheet values room e =
    let s = parts-clear (shape_order sheet) (list_rule values room ∷ []) e in
    let l = first-clear (list_rule values room) [] s.1 in
    let d = or_false (not (eqb values room)) (ltb list_limit values) l.0 in (
      clear-shaped sheet s.0,
      record { lengths = eqb-true values room (not-false (eqb values room) d.0); most = ltb-false list_limit values d.1 },
    )

pub polynomials_judged : (sheet from : List ℕ) (room : ℕ) → first_of (polynomial_list_order sheet from room) ≡ clear
    → Shaped sheet × Fits (length from) room × Small (record_count sheet) from
polynomials_judged sheet from room e =
    let s = parts-clear (list_order sheet (length from) room) (value_rules (record_count sheet) 0 from) e in
    let l = list_judged sheet (length from) room s.0 in
    (l.0, l.1, coordinates-small (record_count sheet) 0 from s.1)
