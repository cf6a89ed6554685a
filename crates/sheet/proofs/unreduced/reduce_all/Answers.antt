-- `sheet::unreduced::reduce_all` meets its contract: each word becomes its remainder. Assumes nothing.
use Rattle.std.proofs.Common.{rules}
use Rattle.gf2.specs.Poly.{rem}
use Rattle.sheet.specs.Lists.{map-each}
use Rattle.sheet.proofs.unreduced.reduce_all.Goals as goal

pub returns : goal.returns
returns c =
    map-each (rem c.args.f c.args.n) c.args.list.now c.convert_each.new.list c.convert_each.ensures.size (λ i l. let h = c.convert_each.ensures.converted i l in search rules)
