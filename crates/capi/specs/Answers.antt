-- What the calls hand out, by the documents' numbers: field for field what the reports say.
--
--   desk_value p      a report of one value: check, multiply, square, trace, the conversions, times
--   desk_issued p     that of a built or read sheet, and of a text written or read
--   found_flag s      1 where the search's answer is its case "found", else 0
--   desk_found b p    that of the search, beside that flag
--   desk_cause p      that of why reading refuses a sheet
--   desk_word w       what a typed word means, which is no report: reading a word refuses nothing
--
-- That a refusal's other values are zero stands in the reports (`report_of`, `issue_of`, `refused_report`, `cause_report`).
-- Assumes nothing.
use Rattle.std.specs.Prelude.{ℕ, Option, None, Some}
use Rattle.refusals.specs.Answers.{Report}
use Rattle.sheet.specs.Answers.{Issue}
use Rattle.causes.specs.Causes.{Reason}
use Rattle.search.specs.Answers.{SearchReport}
use Rattle.search.specs.declared.answer.Search.{Search}
use Rattle.search.specs.declared.answer.Search.TheVariants.{Refused, Nothing, Found}
use Rattle.capi.specs.declared.answer.DeskValue.{DeskValue}
use Rattle.capi.specs.declared.answer.DeskIssued.{DeskIssued}
use Rattle.capi.specs.declared.answer.DeskFound.{DeskFound}
use Rattle.capi.specs.declared.answer.DeskCause.{DeskCause}
use Rattle.capi.specs.declared.answer.DeskWord.{DeskWord}

abbrev pub desk_value : Report → DeskValue
desk_value p = record { number = p.number; place = p.place; value = p.value }

abbrev pub desk_issued : Issue → DeskIssued
desk_issued p = record { number = p.number; place = p.place; degree = p.degree; complexity = p.complexity; grade = p.grade }

-- "the search answers one of three: refused with a number; nothing, ..; or found"
unfoldable pub found_flag : Search → ℕ
found_flag (Refused k) = 0
found_flag Nothing = 0
found_flag (Found x) = 1

abbrev pub desk_found : (found : ℕ) → SearchReport → DeskFound
desk_found b p = record { number = p.number; found = b; element = p.element; complexity = p.complexity; grade = p.grade; count = p.count }

abbrev pub desk_cause : Reason → DeskCause
desk_cause p = record { number = p.number; place = p.place; cause = p.cause; field = p.field; stored = p.stored; right = p.right }

-- an unclear word has the value 0, which a clear word may have as well: the flag tells them apart
unfoldable pub desk_word : Option ℕ → DeskWord
desk_word None = record { clear = 0; value = 0 }
desk_word (Some x) = record { clear = 1; value = x }
