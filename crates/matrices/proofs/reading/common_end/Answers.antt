-- `matrices::reading::common_end` meets its contract: nothing there, another byte, or the end.
-- Assumes nothing.
use Rattle.std.specs.Prelude.{◌≡◌, true, false, cond, List, [], ◌∷◌, ℕ, ◌≤◌, ◌<◌, eqb, length, get_or, drop}
use Rattle.std.proofs.Math.Logic.{⊎_elim}
use Rattle.std.proofs.Common.{le-ltb}
use native.Mathlib.Omega.{arith}
use borrow.Author.Tests.{eqb-true, eqb-false}
use Rattle.gf2.specs.Truth.{bool_cases}
use Rattle.matrices.specs.Matrices.{line_end}
use Rattle.matrices.specs.Orders.{common_lines}
use Rattle.matrices.specs.Comparing.{end_missing, end-other, end-there}
use Rattle.matrices.proofs.reading.common_end.Goals as goal

byte-there : (text : List ℕ) (at : ℕ) → at < length text → cond (eqb (get_or text at 0) line_end) 1 0 ≡ common_lines (drop at text) (line_end ∷ [])
byte-there text at h =
    ⊎_elim
    (λ (t : eqb (get_or text at 0) line_end ≡ true). rw t (end-there text at h (eqb-true (get_or text at 0) line_end t)))
    (λ (t : eqb (get_or text at 0) line_end ≡ false). rw t (end-other text at h (eqb-false (get_or text at 0) line_end t)))
    (bool_cases (eqb (get_or text at 0) line_end))

pub returns-then-at-text : goal.returns-then-at-text
returns-then-at-text c = byte-there c.args.text.now c.args.at c.if-at-text.true

pub returns-else-at-text : goal.returns-else-at-text
returns-else-at-text c =
    let past : length c.args.text.now ≤ c.args.at = omega (arith, c.if-at-text.false) in
    rw (le-ltb c.args.at (length c.args.text.now) past) (end_missing c.args.text.now c.args.at past)
