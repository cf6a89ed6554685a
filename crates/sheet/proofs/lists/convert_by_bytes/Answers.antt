-- `sheet::lists::convert_by_bytes` meets its contract: for the values that come, what the tables pick is what the rows pick. Assumes nothing.
use Rattle.std.proofs.Common.{◌≡◌, ◌∙◌, ◌^◌, ◌<◌, List, map, ℕ, length, get_or, arith, rules}
use Rattle.gf2.specs.Limit.{limit}
use Rattle.rows.specs.Rows.{comb}
use Rattle.rows.specs.ByteSums.{bytes, byte_sums, picked_bytes, bytes_pick}
use Rattle.sheet.specs.Lists.{map-each, map-agree}
use Rattle.sheet.proofs.lists.convert_by_bytes.Goals as goal

-- what the tables of the rows pick of small values is what the rows pick
by_bits : (rows : List ℕ) {sums : List ℕ} → sums ≡ byte_sums bytes rows → (values : List ℕ) → ((i : ℕ) → i < length values → get_or values i 0 < 2 ^ limit)
    → map (picked_bytes bytes sums) values ≡ map (comb rows) values
by_bits rows e values small = rw e (map-agree (picked_bytes bytes (byte_sums bytes rows)) (comb rows) values (λ i l. bytes_pick bytes rows (get_or values i 0) (omega (arith, small i l))))

pub returns : goal.returns
returns c =
    map-each (picked_bytes bytes c.byte_sums.new.sums) c.args.list.now c.convert_each.new.list c.convert_each.ensures.size (λ i l. let h = c.convert_each.ensures.converted i l in search rules)
    ∙ by_bits c.args.rows c.byte_sums.ensures c.args.list.now c.requires
