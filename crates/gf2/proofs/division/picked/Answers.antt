-- `gf2::division::picked` meets its contract: the mask is all ones or none.
-- Assumes nothing.
use Rattle.std.proofs.Common.{mod-lt, arith, pow_pos}
use Rattle.gf2.specs.Words.{mask_picks}
use Rattle.gf2.proofs.division.picked.Goals as goal

pub returns : goal.returns
returns c = mask_picks _ c.args.bit c.args.row c.requires (mod-lt _ (pow_pos 64)) c.ranges.row.fits (omega arith)
