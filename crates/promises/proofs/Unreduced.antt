-- The laws of `specs/Unreduced.antt` that a wrong definition breaks, and what rests on them. The head there tells of both files.
-- Assumes nothing.
use Rattle.std.specs.Prelude.{◌≡◌}
use Rattle.std.proofs.Math.Path.{sym}
use Rattle.std.proofs.Common.{◌∙◌}
use Rattle.sheet.specs.Answers.{element_in}
use Rattle.promises.specs.Calls.{Run, to-normal}
use Rattle.promises.proofs.Demand1.{to-normal_is}
use Rattle.promises.specs.Unreduced.{normal-remainder}

-- ---- of every two runs: one that is given words, and one that is given their remainders

pub to-normal_runs : (c d : Run to-normal) → d.args.0.now ≡ c.args.0.now → d.args.1.0 ≡ element_in c.args.0.now c.args.1.0 → c.result ≡ d.result
to-normal_runs c d es ew = to-normal_is c ∙ normal-remainder c.args.0.now c.args.1.0 ∙ sym (to-normal_is d ∙ rw (es, ew))
