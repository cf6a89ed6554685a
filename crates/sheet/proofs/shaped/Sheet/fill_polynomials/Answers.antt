-- `sheet::shaped::Sheet::fill_polynomials` meets its contract: the rows that were loaded convert as the sheet's own.
-- Assumes nothing.
use mathlib.Core.Path.{◌≡◌, ap, ◌∙◌}
use mathlib.Core.List.{List, map}
use Prim.Native.Nat.{ℕ, ◌^◌, ◌<◌}
use native.Mathlib.Omega.{arith}
use lib.ListN.{length, get_or}
use lib.Pow.{pow_mono}
use Rattle.gf2.specs.Limit.{limit}
use Rattle.rows.specs.Rows.{comb}
use Rattle.normal.specs.Normal.{padded}
use Rattle.normal.specs.Filling.{padded-comb}
use Rattle.sheet.specs.Record.{conjugate_rows_in}
use Rattle.sheet.specs.Answers.{to_polynomial}
use Rattle.sheet.specs.Lists.{map-agree}
use Rattle.sheet.proofs.shaped.Sheet.fill_polynomials.Goals as goal

map-loaded : (sheet : List ℕ) {loaded : List ℕ} → loaded ≡ padded (conjugate_rows_in sheet) → (values : List ℕ) → map (comb loaded) values ≡ map (to_polynomial sheet) values
unfolding to_polynomial
map-loaded sheet {loaded} e values =
    map-agree (comb loaded) (to_polynomial sheet) values (λ i h. rw e (padded-comb (conjugate_rows_in sheet) (get_or values i 0)))

-- the values that were copied are small as those that came
copied-small : {copied from : List ℕ} → copied ≡ from → ((i : ℕ) → i < length from → get_or from i 0 < 2 ^ limit) → (i : ℕ) → i < length copied → get_or copied i 0 < 2 ^ limit
copied-small e small = rw e small

pub rows-rows-requires : goal.rows-rows-requires
rows-rows-requires c = omega arith

pub copy-requires : goal.copy-requires
copy-requires c = c.requires.0

pub convert_values-requires : goal.convert_values-requires
convert_values-requires c =
    copied-small c.copy.ensures (λ i l. omega (arith, c.requires.1 i l, pow_mono c.args.self.now.shaped.size.most))

pub returns : goal.returns
returns c =
    c.convert_values.ensures ∙ ap (map (comb c.rows-rows.result)) c.copy.ensures ∙ map-loaded c.args.self.now.bytes.now c.rows-rows.ensures c.args.from.now
