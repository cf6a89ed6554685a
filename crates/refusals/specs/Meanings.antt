-- The refusal table in words, as programs write it: what `{}` gives for a row, and for a refusal. Definitions alone.
--
--   meaning fault     the meaning of a row of the table
--   refusal_text r    the number, the place and the meaning of a refusal
--
-- Assumes nothing.
use Rattle.std.specs.Prelude.{List, ℕ, ◌++◌, codes, decimal}
use Rattle.refusals.specs.declared.fault.Fault.{Fault}
use Rattle.refusals.specs.declared.fault.Fault.TheVariants.{DegreeOutside, Divided, Strays, TooLarge, NotNormal, NoRoom, BadLength, Misplaced, Oversized, Differs, BadList, EmptyRange, ZeroDivisor, OtherText}
use Rattle.refusals.specs.declared.answer.Refusal.{Refusal}
use Rattle.refusals.specs.Verdicts.{fault_number}

-- the condition of a row, in words
abbrev pub meaning : Fault → List ℕ
meaning DegreeOutside = codes "the degree of f is not 2 to 46"
meaning Divided = codes "a polynomial of smaller degree, other than 1, divides f"
meaning Strays = codes "squaring x as many times as the degree of f does not bring it back"
meaning TooLarge = codes "a candidate element, coordinate number or range end has more bits than the degree"
meaning NotNormal = codes "the element is not normal"
meaning NoRoom = codes "the buffer is shorter than the sheet or the text"
meaning BadLength = codes "the sheet's length is not 32 bytes times a count of 2 to 46"
meaning Misplaced = codes "the record at this place does not fit in: its degree, its row number or its polynomial"
meaning Oversized = codes "the record at this place has a polynomial or a row with more bits than the degree"
meaning Differs = codes "the record at this place is not the one that the polynomial and the element give"
meaning BadList = codes "the lists differ in length or have more than 4096 values"
meaning EmptyRange = codes "the first of the range is greater than the last"
meaning ZeroDivisor = codes "the divisor, or the number to invert, is zero"
meaning OtherText = codes "the text is not the one that the polynomial and the element give"

-- as in "12 0: the first of the range is greater than the last"
abbrev pub refusal_text : Refusal → List ℕ
refusal_text r = decimal (fault_number r.fault) ++ codes " " ++ decimal r.place ++ codes ": " ++ meaning r.fault
