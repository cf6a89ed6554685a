-- The whole listing: its lines by what reading answers, its size, and that it fits into the room made for it.
-- Assumes nothing.
use Rattle.std.specs.Prelude.{◌≡◌, List, ◌++◌, ℕ, ◌+◌, ◌*◌, ◌≤◌, length, drop}
use Rattle.std.proofs.Common.{sym, ap, mul-le-mul_left, arith, length-append}
use Rattle.std.proofs.Math.Seq.{take-append_seam}
use Rattle.io.specs.Counts.{IsPrefixLen}
use Rattle.gf2.specs.Limit.{limit}
use Rattle.refusals.specs.Verdicts.{fault_number}
use Rattle.refusals.specs.declared.answer.Refusal.{Refusal}
use Rattle.normal.specs.Grades.{grade_number}
use Rattle.sheet.specs.Record.{record_count}
use Rattle.sheet.specs.Answers.{read_answer}
use Rattle.sheet.specs.declared.answer.Summary.{Summary}
use Rattle.causes.specs.Causes.{why_answer}
use Rattle.causes.specs.declared.answer.Cause.{Cause}
use Rattle.listing.specs.Text.{row_lines, last_line, refused_line, cause_line, listing_by, listing_of}
use Rattle.listing.specs.Room.{row_room, last_room, refused_room, cause_room, listing_room}
use Rattle.listing.specs.Putting.{Put, put_then, put_front}
use Rattle.std.specs.Prelude.{Ok, Err}

-- ---- each listing fits into its room

pub rows_fit : (n : ℕ) → n ≤ limit → row_room * n + last_room ≤ listing_room
rows_fit n h = omega (arith, mul-le-mul_left row_room h)

pub refused_fits : refused_room + cause_room ≤ listing_room
refused_fits = omega arith

-- ---- the lines that are put are the listing

abbrev pub Listed : (start sheet text : List ℕ) (size : ℕ) → Type 0
Listed start sheet text size =
    (size ≡ length (listing_of sheet)) × ((text ≡ listing_of sheet ++ drop (length (listing_of sheet)) start) × IsPrefixLen size text)

-- what stands at the front is counted by its size
front-counted : (start bytes text : List ℕ) (size : ℕ) → (size ≡ length bytes) × (text ≡ bytes ++ drop (length bytes) start)
    → (size ≡ length bytes) × ((text ≡ bytes ++ drop (length bytes) start) × IsPrefixLen size text)
front-counted start bytes text size l =
    let rest : List ℕ = drop (length bytes) start in
    (l.0, (l.1, rw (l.0, l.1) (omega (arith, length-append bytes rest), sym (ap length (take-append_seam bytes rest)))))

pub listed-done : (sheet : List ℕ) (s : Summary) {start b c : List ℕ} {m n : ℕ} → read_answer sheet ≡ Ok s
    → Put start 0 (row_lines sheet (record_count sheet)) b m → Put b m (last_line s.complexity (grade_number s.grade)) c n → Listed start sheet c n
unfolding listing_of listing_by
listed-done sheet s {start} {b} {c} {m} {n} e p q =
    rw e (front-counted start (row_lines sheet (record_count sheet) ++ last_line s.complexity (grade_number s.grade)) c n (put_front (put_then p q)))

pub listed-refused : (sheet : List ℕ) (r : Refusal) {start b c : List ℕ} {m n : ℕ} → read_answer sheet ≡ Err r
    → Put start 0 (refused_line (fault_number r.fault) r.place) b m → {w : Cause} → w ≡ why_answer sheet → Put b m (cause_line w) c n → Listed start sheet c n
unfolding listing_of listing_by
listed-refused sheet r {start} {b} {c} {m} {n} e p {w} k q =
    rw e (front-counted start (refused_line (fault_number r.fault) r.place ++ cause_line (why_answer sheet)) c n (put_front (put_then p (rw k at q))))
