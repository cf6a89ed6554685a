-- Writing the text: digit after digit a line, line after line a matrix, matrix after matrix the text. For each of the three loops: what it
-- starts with (`..none`), that it keeps the buffer's length (`digits-length`, `..kept`), what one turn leaves (`..next`), and the last
-- step (`line-done`, `matrix_done`).
-- What of this a wrong definition breaks, and what rests on that, stands in `proofs/Putting.antt`.
-- Assumes nothing.
use Rattle.std.specs.Prelude.{◌≡◌, List, [], ◌∷◌, ◌++◌, ℕ, ◌+◌, ◌≤◌, ◌<◌, length, set}
use Rattle.std.proofs.Common.{sym, ap, ◌∙◌, arith}
use Rattle.normal.specs.Normal.{listed}
use Rattle.normal.specs.Coordinates.{listed-length}
use Rattle.sheet.specs.Bytes.{pasted, pasted-none, pasted_length, pasted-set, pasted-next}
use Rattle.matrices.specs.Matrices.{digit_byte, line_end, line_bytes}
use Rattle.matrices.specs.Blocks.{listed_next}

-- bytes written behind k others, one or many
module _ (start : List ℕ) (at : ℕ) (done last : List ℕ) (k : ℕ) (size : length done ≡ k) (e : last ≡ pasted start at done) where
  pub put-length : at + k ≤ length start → length last ≡ length start
  put-length fits = ap (λ (l : List ℕ). length l) e ∙ pasted_length start at done (rw size fits)

  pub put_byte : (b : ℕ) → at + k < length start → set last (at + k) b ≡ pasted start at (done ++ (b ∷ []))
  put_byte b fits =
      ap (λ (l : List ℕ). set l (at + k) b) e ∙ ap (λ (m : ℕ). set (pasted start at done) (at + m) b) (sym size) ∙ pasted-set start at done b (rw size fits)

  pub put-more : (more next : List ℕ) → at + k ≤ length start → next ≡ pasted last (at + k) more → next ≡ pasted start at (done ++ more)
  put-more more next fits en =
      en ∙ ap (λ (l : List ℕ). pasted l (at + k) more) e ∙ ap (λ (m : ℕ). pasted (pasted start at done) (at + m) more) (sym size)
      ∙ pasted-next start at done more (rw size fits)

-- ---- a line

module _ (start : List ℕ) (at n : ℕ) (g : ℕ → ℕ) (fits : at + (n + 1) ≤ length start) where
  abbrev digits : ℕ → List ℕ
  digits j = listed j (λ i. digit_byte (g i))

  pub digits-none : start ≡ pasted start at (digits 0)
  digits-none = unfold listed in pasted-none start at

  module _ (j : ℕ) (last : List ℕ) (e : last ≡ pasted start at (digits j)) where
    pub digits-length : j ≤ n → length last ≡ length start
    digits-length h = put-length start at (digits j) last j (listed-length j (λ i. digit_byte (g i))) e (omega arith)

    pub digits-next : j < n → (b : ℕ) → b ≡ digit_byte (g j) → set last (at + j) b ≡ pasted start at (digits (j + 1))
    digits-next h b eb =
        put_byte start at (digits j) last j (listed-length j (λ i. digit_byte (g i))) e b (omega arith)
        ∙ ap (λ (x : ℕ). pasted start at (digits j ++ (x ∷ []))) eb ∙ ap (pasted start at) (sym (listed_next j (λ i. digit_byte (g i))))

  pub line-done : (last : List ℕ) → last ≡ pasted start at (digits n) → set last (at + n) line_end ≡ pasted start at (line_bytes n g)
  unfolding line_bytes
  line-done last e = put_byte start at (digits n) last n (listed-length n (λ i. digit_byte (g i))) e line_end (omega arith)
