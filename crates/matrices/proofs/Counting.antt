-- The laws of `specs/Counting.antt` that a wrong definition breaks, and what rests on them. The head there tells of both files.
-- Assumes nothing.
use Rattle.std.specs.Prelude.{◌≡◌, [], ◌∷◌, eqb}
use Rattle.std.proofs.Math.Path.{refl, ap₂}
use Rattle.std.proofs.Common.{◌∙◌, ⊎_elim, arith, ne_eqb}
use Rattle.std.proofs.Math.Bool.{cond}
use Prim.Native.Nat.{ℕ, ◌+◌, ◌*◌, ◌<◌}
use Rattle.std.proofs.Math.Nat.{add-zero, mul-one, mul-zero}
use Rattle.gf2.specs.Numbers.{bit_cases}
use Rattle.rows.specs.Sharing.{bit_of-lt}
use Rattle.normal.specs.Normal.{listed, table_rows, complexity}
use Rattle.normal.specs.ProductBits.{total_ext}
use Rattle.normal.specs.TableProduct.{total}
use Rattle.sheet.specs.Sheets.{Based}
use Rattle.matrices.specs.Matrices.{matrix_entry, in_order, digit_byte, line_end, line_bytes, matrix_bytes, text_bytes, matrices_text, line_count}
use Rattle.matrices.specs.Orders.{count_of}
use Rattle.matrices.specs.CommonLines.{count-append}
use Rattle.matrices.specs.Figure.{matrix_ones_lem, total-same, figure_is_n-times}
use Rattle.matrices.specs.Counting.{count-in_order, count-listed, one_byte}

-- ---- ones

one-digit : (d : ℕ) → d < 2 → cond (eqb (digit_byte d) one_byte) 1 0 ≡ d
one-digit d h = ⊎_elim (λ (e : d ≡ 0). rw e refl) (λ (e : d ≡ 1). rw e refl) (bit_cases d h)

one_in_end : count_of one_byte (line_end ∷ []) ≡ 0
unfolding count_of
one_in_end = refl

module _ (n : ℕ) where
  line-ones : (g : ℕ → ℕ) → ((j : ℕ) → g j < 2) → count_of one_byte (line_bytes n g) ≡ total n g
  unfolding line_bytes
  line-ones g h =
      count-append one_byte (listed n (λ j. digit_byte (g j))) (line_end ∷ [])
      ∙ ap₂ ◌+◌
      (count-listed one_byte n (λ j. digit_byte (g j)) ∙ total_ext n (λ j. cond (eqb (digit_byte (g j)) one_byte) 1 0) g (λ j l. one-digit (g j) (h j)))
      one_in_end
      ∙ add-zero (total n g)

  matrix_ones : (g : ℕ → ℕ → ℕ) → ((i j : ℕ) → g i j < 2) → count_of one_byte (matrix_bytes n g) ≡ total n (λ i. total n (g i))
  unfolding matrix_bytes
  matrix_ones g h =
      count-append one_byte (in_order n (λ i. line_bytes n (g i))) (line_end ∷ [])
      ∙ ap₂ ◌+◌
      (count-in_order one_byte n (λ i. line_bytes n (g i)) ∙ total_ext n (λ i. count_of one_byte (line_bytes n (g i))) (λ i. total n (g i)) (λ i l. line-ones (g i) (h i)))
      one_in_end
      ∙ add-zero (total n (λ i. total n (g i)))

  text_ones : (g : ℕ → ℕ → ℕ → ℕ) → ((k i j : ℕ) → g k i j < 2) → count_of one_byte (text_bytes n g) ≡ total n (λ k. total n (λ i. total n (g k i)))
  unfolding text_bytes
  text_ones g h =
      count-in_order one_byte n (λ k. matrix_bytes n (g k))
      ∙ total_ext n (λ k. count_of one_byte (matrix_bytes n (g k))) (λ k. total n (λ i. total n (g k i))) (λ k l. matrix_ones (g k) (h k))

-- "the ones written number n times our complexity"
pub ones_written : (f n a : ℕ) → Based f n a → count_of one_byte (matrices_text f n a) ≡ n * complexity (table_rows f n a)
unfolding matrices_text
ones_written f n a b =
    text_ones n (matrix_entry f n a) (λ k i j. unfold matrix_entry in bit_of-lt _ k) ∙ unfold matrix_ones_lem in figure_is_n-times f n a b

-- ---- ends of lines

end_in_end : count_of line_end (line_end ∷ []) ≡ 1
unfolding count_of
end_in_end = refl

end-digit : (d : ℕ) → ◌≡◌ {A = ℕ} (cond (eqb (digit_byte d) line_end) 1 0) 0
end-digit d = let u : digit_byte d ≡ line_end → ⊥ = λ e. omega arith in rw (ne_eqb (digit_byte d) line_end u)

module _ (n : ℕ) where
  pub line-ends : (g : ℕ → ℕ) → count_of line_end (line_bytes n g) ≡ 1
  unfolding line_bytes
  line-ends g =
      count-append line_end (listed n (λ j. digit_byte (g j))) (line_end ∷ [])
      ∙ ap₂ ◌+◌
      (count-listed line_end n (λ j. digit_byte (g j)) ∙ total_ext n (λ j. cond (eqb (digit_byte (g j)) line_end) 1 0) (λ j. 0) (λ j l. end-digit (g j)) ∙ total-same n 0 ∙ mul-zero n)
      end_in_end

  pub matrix_ends : (g : ℕ → ℕ → ℕ) → count_of line_end (matrix_bytes n g) ≡ n + 1
  unfolding matrix_bytes
  matrix_ends g =
      count-append line_end (in_order n (λ i. line_bytes n (g i))) (line_end ∷ [])
      ∙ ap₂ ◌+◌
      (count-in_order line_end n (λ i. line_bytes n (g i)) ∙ total_ext n (λ i. count_of line_end (line_bytes n (g i))) (λ i. 1) (λ i l. line-ends (g i)) ∙ total-same n 1 ∙ mul-one n)
      end_in_end

  -- the lines of the whole text
  pub text_ends : (g : ℕ → ℕ → ℕ → ℕ) → count_of line_end (text_bytes n g) ≡ line_count n
  unfolding text_bytes
  text_ends g =
      count-in_order line_end n (λ k. matrix_bytes n (g k))
      ∙ total_ext n (λ k. count_of line_end (matrix_bytes n (g k))) (λ k. n + 1) (λ k l. matrix_ends (g k)) ∙ total-same n (n + 1)
