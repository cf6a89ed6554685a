-- `sheet::building::put_basis` meets its contract: what its two calls promise.
-- Assumes nothing.
use mathlib.Core.Path.{◌∙◌}
use native.Mathlib.Omega.{arith}
use Rattle.sheet.specs.Basis.{power-word, tail_word}
use Rattle.sheet.proofs.building.put_basis.Goals as goal

pub overflow_shl-ring : goal.overflow_shl-ring
overflow_shl-ring c = omega (arith, c.args.ring.in_range.most)

pub overflow_sub-ring : goal.overflow_sub-ring
overflow_sub-ring c = rw (power-word c.args.ring.n c.args.ring.in_range.most) c.args.ring.in_range.is_degree.low

pub put_sheet-requires : goal.put_sheet-requires
put_sheet-requires c = (c.args.ring.in_range.most, c.requires.1)

pub returns : goal.returns
returns c =
    record {
      summary = c.summary_of.ensures;
      written = c.put_sheet.ensures ∙ rw (tail_word c.args.ring.f c.args.ring.n c.args.ring.in_range.most);
    }
