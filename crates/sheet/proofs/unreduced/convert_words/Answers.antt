-- `sheet::unreduced::convert_words` meets its contract: what the tables pick of a word is what the rows make of its remainder.
-- Assumes nothing.
use Rattle.std.proofs.Common.{◌≡◌, ap, ◌∙◌, ◌^◌, ◌<◌, List, map, ℕ, length, get_or, arith, rules}
use Rattle.gf2.specs.Poly.{Degree}
use Rattle.rows.specs.ByteSums.{word_bytes, byte_sums, picked_bytes}
use Rattle.sheet.specs.Lists.{map-each, map-agree}
use Rattle.sheet.specs.Unreduced.{in_normal, word_rows, word_bits, words_pick}
use Rattle.sheet.proofs.unreduced.convert_words.Goals as goal

-- what the tables of the rows pick of words
by_rows : (f n : ℕ) → Degree f n → (rows words : List ℕ) {made sums : List ℕ} → made ≡ word_rows f n rows → sums ≡ byte_sums word_bytes made
    → ((i : ℕ) → i < length words → get_or words i 0 < 2 ^ word_bits) → map (picked_bytes word_bytes sums) words ≡ map (in_normal f n rows) words
by_rows f n deg rows words {made} {sums} m e small =
    map-agree (picked_bytes word_bytes sums) (in_normal f n rows) words
    (λ i l. words_pick f n deg rows (e ∙ ap (byte_sums word_bytes) m) (get_or words i 0) (small i l))

pub returns : goal.returns
returns c =
    let words = c.args.list.now in
    map-each (picked_bytes word_bytes c.byte_sums.new.sums) words c.convert_each.new.list c.convert_each.ensures.size (λ i l. let h = c.convert_each.ensures.converted i l in search rules)
    ∙ by_rows c.args.ring.f c.args.ring.n c.args.ring.in_range.is_degree c.args.rows.now words c.word_rows.ensures c.byte_sums.ensures (λ i h. omega (arith, c.slice_known-1.given i))
