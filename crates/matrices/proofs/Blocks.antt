-- The laws of `specs/Blocks.antt` that a wrong definition breaks, and what rests on them. The head there tells of both files.
-- Assumes nothing.
use Rattle.std.specs.Prelude.{◌≡◌, take}
use Rattle.std.proofs.Math.Path.{sym, ap}
use Rattle.std.proofs.Common.{◌∙◌, drop-drop}
use mathlib.Core.List.{List, [], ◌∷◌, ◌++◌, append_assoc, append-nil}
use Prim.Native.Nat.{ℕ, ◌+◌, ◌*◌, ◌<◌}
use Rattle.std.proofs.Math.ListN.{length, drop, length-append}
use Rattle.std.proofs.Math.Seq.{take_at}
use Rattle.normal.specs.Normal.{listed}
use Rattle.normal.specs.Coordinates.{listed-length, listed_ext}
use Rattle.matrices.specs.Matrices.{in_order, digit_byte, line_end, line_bytes, matrix_bytes, text_bytes, matrix_size, text_size}
use Rattle.matrices.specs.Blocks.{in_order-drop, in_order-length, in_order_ext}

-- ---- term by term

-- texts of the same entries are the same
pub text_ext : (n : ℕ) (g h : ℕ → ℕ → ℕ → ℕ) → ((k i j : ℕ) → k < n → i < n → j < n → g k i j ≡ h k i j) → text_bytes n g ≡ text_bytes n h
unfolding text_bytes matrix_bytes line_bytes
text_ext n g h e =
    in_order_ext n (λ k. matrix_bytes n (g k)) (λ k. matrix_bytes n (h k))
    (λ k hk.
    ap (λ (l : List ℕ). l ++ (line_end ∷ []))
    (in_order_ext n (λ i. line_bytes n (g k i)) (λ i. line_bytes n (h k i))
    (λ i hi.
    ap (λ (l : List ℕ). l ++ (line_end ∷ []))
    (listed_ext n (λ j. digit_byte (g k i j)) (λ j. digit_byte (h k i j)) (λ j hj. ap (λ (d : ℕ). digit_byte d) (e k i j hk hi hj))))))

-- ---- lines, matrices and the text

module _ (n : ℕ) where
  pub line-length : (g : ℕ → ℕ) → length (line_bytes n g) ≡ n + 1
  unfolding line_bytes
  line-length g =
      length-append (listed n (λ j. digit_byte (g j))) (line_end ∷ []) ∙ ap (λ (x : ℕ). x + 1) (listed-length n (λ j. digit_byte (g j)))

  pub lines-length : (m : ℕ) (g : ℕ → ℕ → ℕ) → length (in_order m (λ i. line_bytes n (g i))) ≡ m * (n + 1)
  lines-length m g = in_order-length (n + 1) m (λ i. line_bytes n (g i)) (λ i. line-length (g i))

  pub matrix_length : (g : ℕ → ℕ → ℕ) → length (matrix_bytes n g) ≡ matrix_size n
  unfolding matrix_bytes
  matrix_length g =
      length-append (in_order n (λ i. line_bytes n (g i))) (line_end ∷ []) ∙ ap (λ (x : ℕ). x + 1) (lines-length n g)

  pub matrices-length : (m : ℕ) (g : ℕ → ℕ → ℕ → ℕ) → length (in_order m (λ k. matrix_bytes n (g k))) ≡ m * matrix_size n
  matrices-length m g = in_order-length (matrix_size n) m (λ k. matrix_bytes n (g k)) (λ k. matrix_length (g k))

  -- "n(n(n+1)+1) bytes"
  pub text_length : (g : ℕ → ℕ → ℕ → ℕ) → length (text_bytes n g) ≡ text_size n
  unfolding text_bytes text_size
  text_length g = matrices-length n g

  -- line i of matrix k, by its place
  pub text_line : (g : ℕ → ℕ → ℕ → ℕ) (k i : ℕ) → k < n → i < n → take (n + 1) (drop (k * matrix_size n + i * (n + 1)) (text_bytes n g)) ≡ line_bytes n (g k i)
  unfolding text_bytes matrix_bytes
  text_line g k i hk hi =
      let lines : List ℕ = in_order n (λ m. line_bytes n (g k m)) in
      let after : List ℕ = drop ((k + 1) * matrix_size n) (in_order n (λ m. matrix_bytes n (g m)) ++ []) in
      let place : drop (k * matrix_size n) (in_order n (λ m. matrix_bytes n (g m))) ≡ matrix_bytes n (g k) ++ after =
      ap (drop (k * matrix_size n)) (sym (append-nil (in_order n (λ m. matrix_bytes n (g m)))))
      ∙ in_order-drop (matrix_size n) n (λ m. matrix_bytes n (g m)) (λ m. matrix_length (g m)) [] k hk in
      let line : drop (i * (n + 1)) (matrix_bytes n (g k) ++ after) ≡ line_bytes n (g k i) ++ drop ((i + 1) * (n + 1)) (lines ++ ((line_end ∷ []) ++ after)) =
      ap (drop (i * (n + 1))) (append_assoc lines (line_end ∷ []) after)
      ∙ in_order-drop (n + 1) n (λ m. line_bytes n (g k m)) (λ m. line-length (g k m)) ((line_end ∷ []) ++ after) i hi in
      ap (take (n + 1)) (sym (drop-drop (i * (n + 1)) (k * matrix_size n) (text_bytes n g)) ∙ ap (drop (i * (n + 1))) place ∙ line)
      ∙ take_at (line_bytes n (g k i)) _ (n + 1) (line-length (g k i))
