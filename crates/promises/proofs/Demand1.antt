-- The laws of `specs/Demand1.antt` that a wrong definition breaks, and what rests on them. The head there tells of both files.
-- Assumes nothing.
use Rattle.std.specs.Prelude.{◌≡◌}
use Rattle.std.proofs.Common.{sym, ◌∙◌}
use Rattle.sheet.specs.Answers.{read_answer, normal_answer}
use Rattle.promises.specs.Calls.{Run, Determined, read, to-normal}

-- ---- build and read

pub read_is : (c : Run read) → c.result ≡ read_answer c.args.0.now
read_is c = c.kept.0

pub read_determined : Determined read
read_determined κs a x y e e' p q = p.0 ∙ sym q.0

-- ---- single values through a sheet

pub to-normal_is : (c : Run to-normal) → c.result ≡ normal_answer c.args.0.now c.args.1.0
to-normal_is c = c.kept.0
