-- `matrices::line::RowsTwice::match_verdict` meets its contract: a line is missing, the length is another, or the text is the right one.
-- Assumes nothing.
use mathlib.Core.Path.{sym, ap, ◌∙◌}
use Prim.Native.Nat.{◌≤◌}
use native.Mathlib.Omega.{arith}
use Rattle.gf2.specs.Limit.{limit}
use Rattle.refusals.specs.Answers.{checked_of}
use Rattle.refusals.specs.Answered.{answer-clear}
use Rattle.matrices.specs.Matrices.{text_bytes, line_count}
use Rattle.matrices.specs.Orders.{common_lines}
use Rattle.matrices.specs.Blocks.{lines-size-most}
use Rattle.matrices.specs.Turned.{turned}
use Rattle.matrices.proofs.Matching.{match_fewer, match_other-length, match_whole}
use Rattle.matrices.proofs.line.RowsTwice.match_verdict.Goals as goal
use Rattle.std.specs.Prelude.{Err}
use Rattle.refusals.specs.Answers.{passed}

pub overflow_mul-n : goal.overflow_mul-n
overflow_mul-n c = omega (arith, lines-size-most limit c.args.self.now.n c.args.self.now.n c.args.self.now.in_range (omega arith))

pub returns-then-lines-n : goal.returns-then-lines-n
returns-then-lines-n c =
    c.refused_at.ensures ∙ ap checked_of (sym (match_fewer c.args.self.now.n (turned c.args.self.now.n c.args.self.now.rows) c.args.text.now c.common_text-lines.result c.common_text-lines.ensures c.if-lines-n.true))

pub returns-then-text-text_size : goal.returns-then-text-text_size
returns-then-text-text_size c =
    c.refused_at-then-text-text_size.ensures ∙ ap checked_of (sym (match_other-length c.args.self.now.n (turned c.args.self.now.n c.args.self.now.rows) c.args.text.now c.common_text-lines.result c.common_text-lines.ensures (λ p. c.if-text-text_size.true (p ∙ sym c.text_size.ensures))))

pub returns : goal.returns
returns c =
    let most : line_count c.args.self.now.n ≤ common_lines c.args.text.now (text_bytes c.args.self.now.n (turned c.args.self.now.n c.args.self.now.rows)) = omega (arith, c.common_text-lines.ensures, c.if-lines-n.false) in
    answer-clear Err passed (match_whole c.args.self.now.n c.requires (turned c.args.self.now.n c.args.self.now.rows) c.args.text.now most (c.if-text-text_size.false ∙ c.text_size.ensures))
