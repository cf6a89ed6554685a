-- `elements::squares::Squares::square` meets its contract: what bytes pick of the tables is the square.
-- Assumes nothing.
use Rattle.std.proofs.Common.{ℕ, List, ap, ◌∙◌}
use Rattle.rows.specs.ByteSums.{bytes, picked_bytes}
use Rattle.elements.specs.Squares.{squares-picked}
use Rattle.elements.proofs.squares.Squares.square.Goals as goal

pub returns : goal.returns
returns c =
    let s = c.args.self.now in
    c.sum_by_bytes.ensures ∙ ap (λ (sums : List ℕ). picked_bytes bytes sums c.args.y) s.held
    ∙ squares-picked s.f s.n s.of_field.is_degree c.args.y c.requires s.of_field.most
