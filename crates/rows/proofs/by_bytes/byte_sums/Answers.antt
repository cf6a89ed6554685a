-- `rows::by_bytes::byte_sums` meets its contract: once all tables are filled they are the sums that bytes pick.
-- Assumes nothing.
use Rattle.std.proofs.Common.{◌/◌, ◌∙◌}
use Rattle.rows.specs.Doubling.{tables-sums}
use Rattle.rows.proofs.by_bytes.byte_sums.Goals as goal

pub returns : goal.returns
returns g c = c.first_tables.ensures ∙ tables-sums c.args.rows c.args.sums.now (g.row.SUMS / 256) (c.told-sums ∙ c.requires)
