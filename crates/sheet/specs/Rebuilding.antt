-- Rebuilding a sheet that has its shape: what its polynomial and its record 0 conjugate are, and the sheet that they give.
-- Assumes nothing.
use Rattle.std.specs.Prelude.{◌≡◌, List, ℕ, ◌+◌, ◌*◌, ◌%◌, ◌^◌, ◌≤◌, ◌<◌, length, drop}
use Rattle.std.proofs.Common.{ap, ◌∙◌, arith, length-append, pow_mono}
use Rattle.field.specs.Accepted.{InRange, Operand}
use Rattle.sheet.specs.Record.{record_size, record_count, tail_in, polynomial_in, tail_of, sheet_bytes}
use Rattle.sheet.specs.Orders.{rebuilt_from, Shaped}
use Rattle.sheet.specs.Answers.{summary_of, summary_in, at_front}
use Rattle.sheet.specs.Writing.{records_to-length}
use Rattle.sheet.specs.Basis.{power-word}
use Rattle.sheet.specs.Clear.{columns-lt, polynomial-degree}
use Rattle.sheet.specs.Reading.{Rebuilt, first_differing, differing_front}

pub sheet_bytes-length : (f n a : ℕ) → length (sheet_bytes f n a) ≡ record_size * n
unfolding sheet_bytes
sheet_bytes-length f n a = records_to-length n n (tail_of f n) _ _ _

-- ---- its polynomial, as a word

module _ (sheet : List ℕ) (z : Shaped sheet) (t : ℕ) (et : t ≡ tail_in sheet 0) where
  tail_lt : t < 2 ^ record_count sheet
  tail_lt = rw et (columns-lt sheet z 0 (omega (arith, z.size.two))).0

  pub word_fits : 1 * 2 ^ record_count sheet % 2 ^ 64 + t < 2 ^ 64
  word_fits = rw (power-word (record_count sheet) z.size.most) (omega (arith, tail_lt, pow_mono z.size.most))

  pub word-polynomial : 1 * 2 ^ record_count sheet % 2 ^ 64 + t ≡ polynomial_in sheet
  word-polynomial = rw (power-word (record_count sheet) z.size.most, et)

-- ---- what it is rebuilt from

pub shaped_range : (sheet : List ℕ) → Shaped sheet → InRange (polynomial_in sheet) (record_count sheet)
shaped_range sheet z = record { two = z.size.two; most = z.size.most; is_degree = polynomial-degree sheet z }

module _ (sheet : List ℕ) (f n a : ℕ) (r : Rebuilt sheet f n a) where
  pub rebuilt_element : Operand f n a
  rebuilt_element =
      let z = r.shaped in
      rw (r.polynomial, r.count, r.conjugate)
      (record { in_range = shaped_range sheet z; small = (columns-lt sheet z 0 (omega (arith, z.size.two))).1 })

  pub rebuilt_sheet : sheet_bytes f n a ≡ rebuilt_from sheet
  rebuilt_sheet = rw (r.polynomial, r.count, r.conjugate)

  pub rebuilt_summary : summary_of f n a ≡ summary_in sheet
  rebuilt_summary = rw (r.polynomial, r.count, r.conjugate)

  -- what stands after the rebuilt sheet in its buffer changes no record
  pub rebuilt_differing : (buffer last : List ℕ) → last ≡ at_front (sheet_bytes f n a) buffer → first_differing sheet last 0 n ≡ first_differing sheet (rebuilt_from sheet) 0 n
  rebuilt_differing buffer last e =
      ap (λ (l : List ℕ). first_differing sheet l 0 n) (e ∙ ap (λ (l : List ℕ). at_front l buffer) rebuilt_sheet)
      ∙ differing_front sheet (rebuilt_from sheet) (drop (length (rebuilt_from sheet)) buffer) 0 n (rw (sheet_bytes-length, ← r.count) (omega arith))

  pub rebuilt_room : (buffer last : List ℕ) → last ≡ at_front (sheet_bytes f n a) buffer → record_size * n ≤ length last
  rebuilt_room buffer last e = rw (e, length-append, sheet_bytes-length) (omega arith)
