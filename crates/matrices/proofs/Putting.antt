-- The laws of `specs/Putting.antt` that a wrong definition breaks, and what rests on them. The head there tells of both files.
-- Assumes nothing.
use Rattle.std.specs.Prelude.{◌≡◌, List, ℕ, ◌+◌, ◌*◌, ◌≤◌, length, set}
use Rattle.std.proofs.Common.{sym, ap, ◌∙◌, zero-add, arith}
use Rattle.sheet.specs.Bytes.{pasted, pasted-none}
use Rattle.matrices.specs.Matrices.{in_order, line_end, line_bytes, matrix_bytes, matrix_size}
use Rattle.matrices.specs.Blocks.{in_order-next}
use Rattle.matrices.proofs.Blocks.{lines-length, matrices-length}
use Rattle.matrices.specs.Putting.{put-length, put-more, put_byte}

-- ---- a matrix

module _ (start : List ℕ) (at n : ℕ) (g : ℕ → ℕ → ℕ) (fits : at + matrix_size n ≤ length start) where
  abbrev lines : ℕ → List ℕ
  lines i = in_order i (λ m. line_bytes n (g m))

  pub lines_none : start ≡ pasted start at (lines 0)
  lines_none = unfold in_order in pasted-none start at

  module _ (i : ℕ) (last : List ℕ) (e : last ≡ pasted start at (lines i)) where
    pub lines-kept : i * (n + 1) ≤ n * (n + 1) → length last ≡ length start
    lines-kept h = put-length start at (lines i) last (i * (n + 1)) (lines-length n i g) e (omega arith)

    pub lines_next : i * (n + 1) ≤ n * (n + 1) → (next : List ℕ) → next ≡ pasted last (at + i * (n + 1)) (line_bytes n (g i)) → next ≡ pasted start at (lines (i + 1))
    lines_next h next en =
        put-more start at (lines i) last (i * (n + 1)) (lines-length n i g) e (line_bytes n (g i)) next (omega arith) en
        ∙ ap (pasted start at) (sym (in_order-next i (λ m. line_bytes n (g m))))

  pub matrix_done : (last : List ℕ) → last ≡ pasted start at (lines n) → set last (at + n * (n + 1)) line_end ≡ pasted start at (matrix_bytes n g)
  unfolding matrix_bytes
  matrix_done last e = put_byte start at (lines n) last (n * (n + 1)) (lines-length n n g) e line_end (omega arith)

-- ---- the text

module _ (start : List ℕ) (n : ℕ) (g : ℕ → ℕ → ℕ → ℕ) (fits : n * matrix_size n ≤ length start) where
  abbrev matrices : ℕ → List ℕ
  matrices k = in_order k (λ m. matrix_bytes n (g m))

  pub matrices-none : start ≡ pasted start 0 (matrices 0)
  matrices-none = unfold in_order in pasted-none start 0

  module _ (k : ℕ) (last : List ℕ) (e : last ≡ pasted start 0 (matrices k)) where
    pub matrices-kept : k * matrix_size n ≤ n * matrix_size n → length last ≡ length start
    matrices-kept h = put-length start 0 (matrices k) last (k * matrix_size n) (matrices-length n k g) e (omega arith)

    pub matrices-next : k * matrix_size n ≤ n * matrix_size n → (next : List ℕ) → next ≡ pasted last (k * matrix_size n) (matrix_bytes n (g k)) → next ≡ pasted start 0 (matrices (k + 1))
    matrices-next h next en =
        put-more start 0 (matrices k) last (k * matrix_size n) (matrices-length n k g) e (matrix_bytes n (g k)) next (omega arith)
        (en ∙ ap (λ (p : ℕ). pasted last p (matrix_bytes n (g k))) (sym (zero-add (k * matrix_size n))))
        ∙ ap (pasted start 0) (sym (in_order-next k (λ m. matrix_bytes n (g m))))
