-- `listing::text::listing` meets its contract: the lines that reading's answer asks for, and room for all of them.
-- Assumes nothing.
use mathlib.Core.Path.{sym, ◌∙◌}
use native.Mathlib.Omega.{arith}
use Rattle.sheet.proofs.Answered.{done-shaped}
use Rattle.listing.specs.Listing.{Listed, rows_fit, listed-done, listed-refused}
use Rattle.listing.proofs.text.listing.Goals as goal
use Rattle.listing.proofs.text.listing.Goals.{in-Err, in-Ok}

pub rows-requires : goal.rows-requires
rows-requires c =
    let z = (done-shaped c.args.sheet.now c.in-Ok.summary (sym c.read.ensures.answer ∙ c.in-Ok.is)).size in
    (z.most, omega (arith, rows_fit _ z.most), omega arith)

pub last-requires : goal.last-requires
last-requires c =
    let z = (done-shaped c.args.sheet.now c.in-Ok.summary (sym c.read.ensures.answer ∙ c.in-Ok.is)).size in
    omega (arith, rows_fit _ z.most, c.rows.ensures.short)

pub returns : goal.returns
returns c =
    let whole : Listed c.args.text.now c.args.sheet.now c.match-read.lent.text.now c.match-read.lent.at =
    elim c.match-read.branch [
      | in-Err w ↦ rw w.lent-is
          (listed-refused c.args.sheet.now w.in-Err.refusal (sym c.read.ensures.answer ∙ w.in-Err.is)
          (rw w.number.ensures at w.refused.ensures.put) w.why.ensures.answer w.cause.ensures.put)
      | in-Ok w ↦ rw w.lent-is (listed-done c.args.sheet.now w.in-Ok.summary (sym c.read.ensures.answer ∙ w.in-Ok.is) w.rows.ensures.put w.last.ensures.put)
    ] in
    record { size = whole.0; listed = whole.1.0; counted = whole.1.1 }
