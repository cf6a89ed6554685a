-- `rows::by_bytes::degree_sums` meets its contract: past the tables of the rows that are not zero, rows and entries are zero.
-- Assumes nothing.
use Rattle.std.proofs.Common.{◌≡◌, List, ℕ, ◌+◌, ◌*◌, ◌/◌, ◌≤◌, ◌∙◌, ap, arith, length, replicate}
use Rattle.std.proofs.lemmas.List.{length-replicate}
use Rattle.gf2.specs.Limit.{limit}
use Rattle.rows.specs.Rows.{Matrix}
use Rattle.rows.specs.Sums.{zeros-at}
use Rattle.rows.specs.ByteSums.{bytes, byte_sums}
use Rattle.rows.specs.Doubling.{tables, tables-enough}
use Rattle.rows.proofs.by_bytes.degree_sums.Goals as goal

-- (n + 7) / 8 tables hold all rows that are not zero
enough : (n : ℕ) (rows sums : List ℕ) → Matrix rows n → n ≤ limit → sums ≡ replicate (256 * bytes) 0 → tables ((n + 7) / 8) rows sums ≡ byte_sums bytes rows
enough n rows sums m most e =
    tables-enough rows sums ((n + 7) / 8) bytes (omega arith) (ap length e ∙ length-replicate {A = ℕ} (256 * bytes) 0) (λ i. rw e (zeros-at (256 * bytes) i)) (λ i h. m.rest i (omega arith))

pub returns : goal.returns
returns c = c.first_tables.ensures ∙ enough c.args.n c.args.rows c.args.sums.now c.requires.0 c.requires.1 c.requires.2
