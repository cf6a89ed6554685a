-- Words that arrive unreduced (document 02, §6): how a list of them is reduced and converted by tables.
--
--   in_normal f n rows word   the sum of the rows that the bits of the word's remainder pick
--   word_rows f n rows        its values at x^0 to x^63: rows that the bits of any word pick
--
-- In order: it is linear, so the byte sums of these rows give it for every word (`words_pick`); turns of the loop that makes the rows; a word
-- on a sheet of good shape, and a list of them.
-- Assumes nothing.
use Rattle.std.specs.Prelude.{◌≡◌, ℕ, ◌+◌, ◌*◌, ◌^◌, ◌<◌, get_or}
use Rattle.std.proofs.Common.{sym, ◌∙◌, arith, pow_mono}
use Rattle.std.proofs.Math.Path.{ap}
use mathlib.Core.List.{List, map, map-map}
use Rattle.gf2.specs.Poly.{rem, mul_mod, Degree}
use Rattle.gf2.specs.Limit.{limit}
use Rattle.gf2.specs.Numbers.{pow-next}
use Rattle.gf2.specs.Remainder.{rem-⊕, rem_lt}
use Rattle.field.specs.Accepted.{InRange}
use Rattle.field.specs.Ring.{mul_mod_comm, mul_mod-x}
use Rattle.rows.specs.Rows.{comb}
use Rattle.rows.specs.Linear.{Linear, linear_ext}
use Rattle.rows.specs.Sums.{comb-⊕, comb-power}
use Rattle.rows.specs.ByteSums.{word_bytes, byte_sums, picked_bytes, bytes_pick}
use Rattle.normal.specs.Normal.{listed, padded}
use Rattle.normal.specs.Coordinates.{listed_at}
use Rattle.normal.specs.Filling.{padded-comb}
use Rattle.sheet.specs.Record.{record_count, polynomial_in, inverse_rows_in}
use Rattle.sheet.specs.Orders.{Small, Shaped}
use Rattle.sheet.specs.Answers.{element_in, to_normal}
use Rattle.sheet.specs.Clear.{polynomial-degree}
use Rattle.sheet.specs.Lists.{map_below, map-agree}

unfoldable pub in_normal : (f n : ℕ) (rows : List ℕ) (word : ℕ) → ℕ
in_normal f n rows word = comb rows (rem f n word)

-- the bits of a word
abbrev pub word_bits : ℕ
word_bits = 8 * word_bytes

unfoldable pub word_rows : (f n : ℕ) (rows : List ℕ) → List ℕ
word_rows f n rows = listed word_bits (λ i. in_normal f n rows (2 ^ i))

-- ---- the rows, and their byte sums

module _ (f n : ℕ) (deg : Degree f n) (rows : List ℕ) where
  in_normal_linear : Linear (in_normal f n rows)
  unfolding in_normal
  in_normal_linear a b = ap (comb rows) (rem-⊕ f n deg a b) ∙ comb-⊕ rows (rem f n a) (rem f n b)

  rows_pick : (word : ℕ) → word < 2 ^ word_bits → comb (word_rows f n rows) word ≡ in_normal f n rows word
  unfolding word_rows
  rows_pick word h =
      linear_ext (comb (word_rows f n rows)) (in_normal f n rows) (comb-⊕ (word_rows f n rows)) in_normal_linear word_bits
      (λ i l. comb-power (word_rows f n rows) i ∙ listed_at word_bits (λ j. in_normal f n rows (2 ^ j)) i l)
      word h

  -- one lookup for each byte reduces and converts
  pub words_pick : {sums : List ℕ} → sums ≡ byte_sums word_bytes (word_rows f n rows) → (word : ℕ) → word < 2 ^ word_bits
      → picked_bytes word_bytes sums word ≡ in_normal f n rows word
  words_pick e word h = rw e (bytes_pick word_bytes (word_rows f n rows) word h ∙ rows_pick word h)
  -- ---- the loop that makes the rows: y is x ^ i modulo f

pub power_turn : (f n : ℕ) → Degree f n → (i y z : ℕ) → y ≡ rem f n (2 ^ i) → z ≡ mul_mod f n y 2 → z ≡ rem f n (2 ^ (i + 1))
power_turn f n deg i y z e m =
    m ∙ mul_mod_comm f n deg y 2 ∙ ap (mul_mod f n 2) e ∙ mul_mod-x f n deg (2 ^ i) ∙ ap (rem f n) (sym (pow-next i))

-- ---- a list that is reduced first, and then converted

module _ (f n : ℕ) (r : InRange f n) (words : List ℕ) {reduced : List ℕ} (e : reduced ≡ map (rem f n) words) where
  pub reduced_small : Small limit reduced
  reduced_small =
      rw e (map_below (rem f n) (2 ^ limit) (λ w. omega (arith, rem_lt f n r.is_degree w, pow_mono r.most)) words)

  pub reduced_converted : (rows : List ℕ) → map (comb rows) reduced ≡ map (in_normal f n rows) words
  unfolding in_normal
  reduced_converted rows = ap (map (comb rows)) e ∙ map-map (comb rows) (rem f n) words

-- ---- on a sheet

module _ (sheet : List ℕ) (z : Shaped sheet) where
  pub sheet_range : InRange (polynomial_in sheet) (record_count sheet)
  sheet_range = record { two = z.size.two; most = z.size.most; is_degree = polynomial-degree sheet z }

  pub element_in_lt : (word : ℕ) → element_in sheet word < 2 ^ record_count sheet
  unfolding element_in
  element_in_lt word = rem_lt (polynomial_in sheet) (record_count sheet) (polynomial-degree sheet z) word

-- by the rows that were loaded a word is converted as by the sheet's own
loaded_word : (sheet : List ℕ) {loaded : List ℕ} → loaded ≡ padded (inverse_rows_in sheet) → (word : ℕ)
    → in_normal (polynomial_in sheet) (record_count sheet) loaded word ≡ to_normal sheet word
unfolding in_normal to_normal element_in
loaded_word sheet e word = rw e (padded-comb (inverse_rows_in sheet) (rem (polynomial_in sheet) (record_count sheet) word))

pub loaded_words : (sheet : List ℕ) {loaded : List ℕ} → loaded ≡ padded (inverse_rows_in sheet) → (words : List ℕ)
    → map (in_normal (polynomial_in sheet) (record_count sheet) loaded) words ≡ map (to_normal sheet) words
loaded_words sheet {loaded} e words =
    map-agree (in_normal (polynomial_in sheet) (record_count sheet) loaded) (to_normal sheet) words (λ i h. loaded_word sheet e (get_or words i 0))
