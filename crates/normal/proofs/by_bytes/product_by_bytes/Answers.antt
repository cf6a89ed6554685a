-- `normal::by_bytes::product_by_bytes` meets its contract: its closure sums the n rows whose byte sums these are. Assumes nothing.
use Rattle.std.proofs.Common.{rules, ◌≡◌, List, ℕ, ◌∙◌}
use Rattle.rows.specs.ByteSums.{bytes, picked_bytes}
use Rattle.normal.specs.TableProduct.{SumsRows}
use Rattle.normal.specs.Summed.{summed_rows, Summed, summed_rows-length}
use Rattle.normal.proofs.by_bytes.product_by_bytes.Goals as goal

sums-rows : (n : ℕ) (sums : List ℕ) → Summed n sums → (answers : ℕ → ℕ → Type 0) → ((v s : ℕ) → answers v s → s ≡ picked_bytes bytes sums v)
    → SumsRows n (summed_rows n sums) answers
sums-rows n sums tables answers is =
    record {
      size = summed_rows-length n sums;
      row_lt = tables.row_lt;
      sums = λ v s h p. is v s p ∙ tables.picks v h;
    }

pub product_by_turns-requires-clause-rows : goal.product_by_turns-requires-clause-rows
product_by_turns-requires-clause-rows c =
    (summed_rows c.args.n c.args.sums.now, sums-rows c.args.n c.args.sums.now c.requires.0 _ (λ v s p. search rules))

pub returns : goal.returns
returns c =
    c.product_by_turns.ensures (summed_rows c.args.n c.args.sums.now) (sums-rows c.args.n c.args.sums.now c.requires.0 _ (λ v s p. search rules))
