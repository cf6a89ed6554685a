-- `sheet::record::put_record` meets its contract: each field is written after the one before.
-- Assumes nothing.
use Rattle.sheet.specs.Writing.{record_put}
use Rattle.sheet.proofs.record.put_record.Goals as goal

pub returns : goal.returns
returns c =
    record_put c.args.buffer.now c.put_number.new.buffer c.put_number-2.new.buffer c.put_number-3.new.buffer c.put_number-4.new.buffer c.put_number-5.new.buffer c.put_number-6.new.buffer
    c.args.n c.args.i c.args.tail c.args.row.conjugate c.args.row.inverse c.args.row.table c.requires
    c.put_number.ensures c.put_number-2.ensures c.put_number-3.ensures c.put_number-4.ensures c.put_number-5.ensures c.put_number-6.ensures
