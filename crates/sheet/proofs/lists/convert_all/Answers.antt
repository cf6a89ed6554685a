-- `sheet::lists::convert_all` meets its contract: each value becomes the sum of the rows that it picks. Assumes nothing.
use Rattle.std.proofs.Common.{rules}
use Rattle.rows.specs.Rows.{comb}
use Rattle.sheet.specs.Lists.{map-each}
use Rattle.sheet.proofs.lists.convert_all.Goals as goal

pub returns : goal.returns
returns c =
    map-each (comb c.args.rows.now) c.args.list.now c.convert_each.new.list c.convert_each.ensures.size (λ i l. let h = c.convert_each.ensures.converted i l in search rules)
