-- Condition 14, by what a comparison found: the lines that the two texts share, and the length of the one that came.
--
--   match_differs                     14 and its place, for any two texts that differ
--   match_fewer, match_other-length   fewer lines are shared than there are; the length is another
--   match_text, match_whole           a text with all lines of the right one and its length is the right one
--
-- Assumes nothing.
use Rattle.std.specs.Prelude.{◌≡◌, List, [], ◌∷◌, ◌++◌, ℕ, zero, suc, ◌≤◌, ◌<◌, length, drop}
use Rattle.std.proofs.Math.Path.{sym, ap}
use Rattle.std.proofs.Common.{◌∙◌, append-nil, append_assoc, arith, drop_of_length-le}
use Rattle.gf2.specs.Truth.{not_true_false}
use Rattle.refusals.specs.Verdicts.{clear, refuse, first_of}
use Rattle.refusals.specs.Orders.{first-applies, first_passes, first-none}
use Rattle.sheet.specs.Orders.{same}
use Rattle.sheet.specs.Written.{same_refl, same_equal}
use Rattle.matrices.specs.Matrices.{in_order, line_end, line_bytes, matrix_bytes, text_bytes, text_size, line_count}
use Rattle.matrices.specs.Orders.{count_of, common, common_lines, match_rule}
use Rattle.matrices.specs.Blocks.{in_order-suc}
use Rattle.matrices.proofs.Blocks.{text_length}
use Rattle.matrices.specs.CommonLines.{common_itself, common-left, lines-all, lines-most}
use Rattle.matrices.proofs.Counting.{text_ends}
use Rattle.refusals.specs.declared.fault.Fault.TheVariants as faults

-- 14, for any two texts that differ
pub match_differs : (text right : List ℕ) → (text ≡ right → ⊥) → first_of (match_rule text right ∷ []) ≡ refuse faults.OtherText (common_lines text right)
match_differs text right u =
    first-applies (match_rule text right) [] (rw (not_true_false (same text right) (λ e. u (same_equal text right e))))

-- a text of matrices ends a line
module _ (m : ℕ) (g : ℕ → ℕ → ℕ → ℕ) where
  abbrev before-end : List ℕ
  before-end = in_order m (λ k. matrix_bytes (suc m) (g k)) ++ in_order (suc m) (λ i. line_bytes (suc m) (g m i))

  text_ended : text_bytes (suc m) g ≡ before-end ++ (line_end ∷ [])
  unfolding text_bytes matrix_bytes
  text_ended =
      in_order-suc m (λ k. matrix_bytes (suc m) (g k))
      ∙ sym (append_assoc (in_order m (λ k. matrix_bytes (suc m) (g k))) (in_order (suc m) (λ i. line_bytes (suc m) (g m i))) (line_end ∷ []))

module _ (n : ℕ) (g : ℕ → ℕ → ℕ → ℕ) (text : List ℕ) where
  abbrev right : List ℕ
  right = text_bytes n g

  pub lines_itself : common_lines (text_bytes n g) (text_bytes n g) ≡ line_count n
  unfolding common_lines
  lines_itself = ap (count_of line_end) (common_itself right) ∙ text_ends n g

  -- ---- the texts differ

  module _ (lines : ℕ) (e : lines ≡ common_lines text (text_bytes n g)) where
    pub match_fewer : lines < line_count n → first_of (match_rule text (text_bytes n g) ∷ []) ≡ refuse faults.OtherText lines
    match_fewer h =
        match_differs text right (λ p. let s : lines ≡ line_count n = e ∙ ap (λ (l : List ℕ). common_lines l right) p ∙ lines_itself in omega (arith, s, h)) ∙ ap (refuse faults.OtherText) (sym e)

    pub match_other-length : (length text ≡ text_size n → ⊥) → first_of (match_rule text (text_bytes n g) ∷ []) ≡ refuse faults.OtherText lines
    match_other-length u = match_differs text right (λ p. u (ap (λ (l : List ℕ). length l) p ∙ text_length n g)) ∙ ap (refuse faults.OtherText) (sym e)

-- ---- or they are the same

begins : (n : ℕ) → 1 ≤ n → (g : ℕ → ℕ → ℕ → ℕ) (text : List ℕ) → line_count n ≤ common_lines text (text_bytes n g) → common text (text_bytes n g) ≡ text_bytes n g
begins zero pos g text h = absurd (omega arith)
begins (suc m) pos g text h =
    let front : List ℕ = before-end m g in
    let e : text_bytes (suc m) g ≡ front ++ (line_end ∷ []) = text_ended m g in
    let ends : count_of line_end (front ++ (line_end ∷ [])) ≡ line_count (suc m) = ap (count_of line_end) (sym e) ∙ text_ends (suc m) g in
    let most : common_lines text (front ++ (line_end ∷ [])) ≤ count_of line_end (front ++ (line_end ∷ [])) = lines-most text front [] in
    let few : line_count (suc m) ≤ common_lines text (front ++ (line_end ∷ [])) = rw e at h in
    rw e (lines-all text front (omega (arith, ends, most, few)))

pub match_text : (n : ℕ) → 1 ≤ n → (g : ℕ → ℕ → ℕ → ℕ) (text : List ℕ) → line_count n ≤ common_lines text (text_bytes n g) → length text ≡ text_size n → text ≡ text_bytes n g
match_text n pos g text h size =
    let all = begins n pos g text h in
    let nothing : drop (length (text_bytes n g)) text ≡ [] = drop_of_length-le text {i = length (text_bytes n g)} (omega (arith, size, text_length n g)) in
    common-left text (text_bytes n g)
    ∙ ap (λ (l : List ℕ). l ++ drop (length l) text) all
    ∙ ap (λ (l : List ℕ). text_bytes n g ++ l) nothing ∙ append-nil (text_bytes n g)

pub match_whole : (n : ℕ) → 1 ≤ n → (g : ℕ → ℕ → ℕ → ℕ) (text : List ℕ) → line_count n ≤ common_lines text (text_bytes n g) → length text ≡ text_size n
    → first_of (match_rule text (text_bytes n g) ∷ []) ≡ clear
match_whole n pos g text h size =
    first_passes (match_rule text (text_bytes n g)) [] (rw (match_text n pos g text h size, same_refl (text_bytes n g))) ∙ first-none
