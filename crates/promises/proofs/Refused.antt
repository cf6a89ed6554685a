-- The laws of `specs/Refused.antt` that a wrong definition breaks, and what rests on them. The head there tells of both files.
-- Assumes nothing.
use Rattle.sheet.specs.Record.{record_count}
use Rattle.sheet.specs.Orders.{read_order, normal_order}
use Rattle.sheet.specs.Listed.{OnShape, OnReading}
use Rattle.sheet.proofs.Listed.{shape-listed, read-listed}
use Rattle.sheet.specs.Answers.{read_answer, normal_answer}
use Rattle.promises.specs.Calls as calls
use Rattle.promises.specs.Calls.{Run}
use Rattle.promises.proofs.Demand1.{read_is, to-normal_is}
use Rattle.promises.specs.Listed.{shape-positive, read-positive}
use Rattle.refusals.specs.Told.{ValueTold}
use Rattle.refusals.specs.Telling.{value_told}
use Rattle.promises.specs.Refused.{IssuedTold, issued_told}

-- ---- build and read

pub read_told : (c : Run calls.read) → IssuedTold (read_order c.args.0.now) (OnReading (record_count c.args.0.now)) c.result
unfolding read_answer
read_told c = rw (read_is c) (issued_told _ _ (read-listed c.args.0.now) (read-positive (record_count c.args.0.now)) _)

-- ---- single values through a sheet

pub to-normal_told : (c : Run calls.to-normal) → ValueTold (normal_order c.args.0.now) (OnShape (record_count c.args.0.now)) c.result
unfolding normal_answer
to-normal_told c = rw (to-normal_is c) (value_told _ _ (shape-listed c.args.0.now) (shape-positive (record_count c.args.0.now)) _)
