-- The room that a listing takes at most, in bytes. Definitions alone.
--
--   number_places    the most decimal digits of a number of 64 bits (`digits-few` in `Lines`)
--   .._room         the most bytes of a number with its mark, of a line, of a listing (`rows_fit` and `refused_fits` in `Listing`)
--
-- Assumes nothing.
use Rattle.std.specs.Prelude.{ℕ, ◌+◌, ◌*◌}
use Rattle.gf2.specs.Limit.{limit}

abbrev pub number_places : ℕ
number_places = 20

-- the digits, and the mark after them
abbrev pub number_room : ℕ
number_room = number_places + 1

-- "row number, conjugate, inverse row, table row in decimal, one space between"
abbrev pub row_room : ℕ
row_room = 4 * number_room

-- "a last line: the word complexity, its number, the word grade, its number, again one space between"
abbrev pub last_room : ℕ
last_room = 11 + number_room + 6 + number_room

-- "only `refused`, the number and the place on one line, with one space between"
abbrev pub refused_room : ℕ
refused_room = 8 + number_room + number_room

-- the longest of the words conjugate, inverse and table, and the space after it (`field-short` in `Lines`)
abbrev pub field_room : ℕ
field_room = 10

-- "the record, the word conjugate, inverse or table, the stored number and the right one, single spaces between"
abbrev pub cause_room : ℕ
cause_room = number_room + field_room + number_room + number_room

-- as many rows as a sheet can have, and the last line
abbrev pub listing_room : ℕ
listing_room = row_room * limit + last_room
