-- The largest degree that the desk takes (document 01: "Outside: .. degrees above 46"). Definitions alone.
--
-- The laws of this project hold over any degree, and products, remainders and squares are computed for every degree below 64. What does
-- depend on the limit is derived from it: the number of a matrix's rows, the bytes of a number (`bytes` in `rows`), the room of a listing
-- (`listing_room` in `listing`). Two bounds come from elsewhere, and the limit must stay within them: the bytes 2-7 of a record hold 48
-- coefficients (`tail_size` in `sheet`), and the windows of the search's products need n + 12 bits of a word.
-- Assumes nothing.
use Rattle.std.specs.Prelude.{ℕ}

abbrev pub limit : ℕ
limit = 46
