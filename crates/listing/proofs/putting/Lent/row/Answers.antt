-- `listing::putting::Lent::row` meets its contract: the four numbers, each after the one before.
-- Assumes nothing.
use mathlib.Core.Path.{ap}
use Rattle.sheet.specs.declared.loading.Row.{Row}
use Rattle.listing.specs.Lines.{row_put}
use Rattle.listing.proofs.putting.Lent.row.Goals as goal

pub returns-clause-put : goal.returns-clause-put
returns-clause-put c =
    row_put c.args.sheet.now c.args.i
    (ap (λ (x : Row). x.conjugate) c.row_at-row.ensures) (ap (λ (x : Row). x.inverse) c.row_at-row.ensures) (ap (λ (x : Row). x.table) c.row_at-row.ensures)
    c.number.ensures.put c.number-2.ensures.put c.number-3.ensures.put c.number-4.ensures.put
