-- `sheet::lists::convert_unreduced` meets its contract: either way makes of each word what the rows make of its remainder.
-- Assumes nothing.
use mathlib.Core.Path.{◌∙◌}
use Rattle.sheet.specs.Unreduced.{reduced_small, reduced_converted}
use Rattle.sheet.proofs.lists.convert_unreduced.Goals as goal

pub convert_all-requires : goal.convert_all-requires
convert_all-requires c = reduced_small c.args.ring.f c.args.ring.n c.args.ring.in_range c.args.list.now c.reduce_all.ensures

pub returns-then-list-lt-TABLES_PAY : goal.returns-then-list-lt-TABLES_PAY
returns-then-list-lt-TABLES_PAY c =
    c.convert_all.ensures ∙ reduced_converted c.args.ring.f c.args.ring.n c.args.ring.in_range c.args.list.now c.reduce_all.ensures c.args.rows
