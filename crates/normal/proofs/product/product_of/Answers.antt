-- `normal::product::product_of` meets its contract: its closure sums the n rows of the table. Assumes nothing.
use Rattle.std.proofs.Common.{rules, ◌≡◌, List, ℕ, ◌^◌, ◌<◌, take, length, arith, sym, ◌∙◌, pow_mono}
use lib.Seq.{length-take-le, get_or-take}
use Rattle.gf2.specs.Limit.{limit}
use Rattle.rows.specs.Rows.{comb}
use Rattle.rows.specs.Sums.{comb-take}
use Rattle.normal.specs.TableProduct.{Factors, SumsRows}
use Rattle.normal.proofs.product.product_of.Goals as goal

sums-rows : (n : ℕ) (table : List ℕ) (size : length table ≡ limit) (a b : ℕ) (given : Factors table n a b) (answers : ℕ → ℕ → Type 0)
    → ((v s : ℕ) → v < 2 ^ limit → answers v s → s ≡ comb table v) → SumsRows n (take n table) answers
sums-rows n table size a b given answers is =
    record {
      size = length-take-le n table (omega (arith, given.most));
      row_lt = λ i h. rw (get_or-take n table i 0 h) (given.table.row_lt i);
      sums = λ v s h p. is v s (omega (arith, h, pow_mono given.most)) p ∙ sym (comb-take n table v h);
    }

pub product_by_turns-requires-clause-callable : goal.product_by_turns-requires-clause-callable
product_by_turns-requires-clause-callable c = λ v h. let small : v < 2 ^ limit = omega (arith, h, pow_mono c.requires.most) in search rules

pub product_by_turns-requires-clause-rows : goal.product_by_turns-requires-clause-rows
product_by_turns-requires-clause-rows c =
    (take c.args.n c.args.table, sums-rows c.args.n c.args.table (search rules) c.args.a c.args.b c.requires _ (λ v s h p. search rules))

pub returns : goal.returns
returns c =
    c.product_by_turns.ensures (take c.args.n c.args.table) (sums-rows c.args.n c.args.table (search rules) c.args.a c.args.b c.requires _ (λ v s h p. search rules))
