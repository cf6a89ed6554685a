-- What a sheet is issued for, and the sheet that is issued: the hypotheses of every law on "sheets the builder wrote". Definitions alone.
--
--   Based f n a           f is accepted and has degree n, and a is a normal element of its field
--   SheetOf f n a sheet   the bytes are the sheet of such an f and a
--
-- `Issuing` gives them from a build or a reading that finds nothing to refuse, and back; `Held` says what such a sheet holds, `Through`
-- what is computed through it, `IssuedLaws` what the calls answer.
-- Assumes nothing.
use Rattle.std.specs.Prelude.{◌≡◌, true, List, ℕ, ◌^◌, ◌<◌}
use Rattle.gf2.specs.Poly.{degree}
use Rattle.field.specs.Accepted.{Accepted}
use Rattle.normal.specs.Normal.{normal}
use Rattle.sheet.specs.Record.{sheet_bytes}

pub record Based (f n a : ℕ) : Type 0 where
  pub accepted : Accepted f
  pub has_degree : degree f ≡ n
  pub below : a < 2 ^ n
  pub is_normal : normal f n a ≡ true

pub record SheetOf (f n a : ℕ) (sheet : List ℕ) : Type 0 where
  pub based : Based f n a
  pub bytes : sheet ≡ sheet_bytes f n a
