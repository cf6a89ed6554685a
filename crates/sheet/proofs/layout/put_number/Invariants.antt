-- `sheet::layout::put_number` meets its contract. The invariant: the lowest bytes are written, and rest is the number without them.
-- Assumes nothing.
use Rattle.std.proofs.Common.{◌≡◌, ◌/◌, ◌^◌, length, take}
use Rattle.sheet.specs.Record.{bytes_of}
use Rattle.sheet.proofs.layout.put_number.Given as goal

abbrev pub invariant-loop-byte : goal.invariant-loop-byte
invariant-loop-byte l = record {
  size : length l.byte-items ≡ l.size;
  put : take l.byte-index l.byte-items ≡ bytes_of l.byte-index l.number;
  left : l.rest ≡ l.number / 256 ^ l.byte-index;
}
