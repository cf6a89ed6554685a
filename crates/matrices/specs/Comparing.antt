-- Comparing a text with the right one: digit after digit a line, line after line a matrix, matrix after matrix the text. Each law is what
-- one turn of a loop finds, or its last step.
--
--   Agrees x y lines p   x and y agree in so many lines up to place p, and what follows there decides
--
-- What of this a wrong definition breaks, and what rests on that, stands in `proofs/Comparing.antt`.
-- Assumes nothing.
use Rattle.std.specs.Prelude.{◌≡◌, get_or}
use Rattle.std.proofs.Math.Path.{sym}
use Rattle.std.proofs.Common.{drop-cons}
use mathlib.Core.List.{List, [], ◌∷◌}
use Prim.Native.Nat.{ℕ, suc, ◌+◌, ◌≤◌, ◌<◌}
use Rattle.std.proofs.Math.Nat.{zero-add}
use Rattle.std.proofs.Math.ListN.{length, drop, drop_of_length-le}
use borrow.Author.Tests.{ne_eqb}
use Rattle.matrices.specs.Matrices.{line_end}
use Rattle.matrices.specs.Orders.{count_of, common, common_lines}
use Rattle.matrices.specs.CommonLines.{common-nil}

abbrev pub Agrees : (x y : List ℕ) (lines p : ℕ) → Type 0
Agrees x y lines p = common_lines x y ≡ lines + common_lines (drop p x) (drop p y)

pub agrees_start : (x y : List ℕ) → Agrees x y 0 0
agrees_start x y = sym (zero-add (common_lines x y))

-- ---- the end of a line

module _ (text : List ℕ) (at : ℕ) where
  pub end_missing : length text ≤ at → 0 ≡ common_lines (drop at text) (line_end ∷ [])
  unfolding common_lines common count_of
  end_missing h = rw (drop_of_length-le text {i = at} h)

  pub end-other : at < length text → (get_or text at 0 ≡ line_end → ⊥) → 0 ≡ common_lines (drop at text) (line_end ∷ [])
  unfolding common_lines common count_of
  end-other h e = rw (drop-cons text at 0 h, ne_eqb (get_or text at 0) line_end e)

  pub end-there : at < length text → get_or text at 0 ≡ line_end → 1 ≡ common_lines (drop at text) (line_end ∷ [])
  unfolding common_lines common count_of
  end-there h e = rw (drop-cons text at 0 h, e, common-nil (drop (suc at) text))
