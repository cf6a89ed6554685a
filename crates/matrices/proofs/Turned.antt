-- The laws of `specs/Turned.antt` that a wrong definition breaks, and what rests on them. The head there tells of both files.
-- Assumes nothing.
use Rattle.std.specs.Prelude.{◌≡◌}
use Rattle.std.proofs.Math.Path.{sym, ap}
use Rattle.std.proofs.Common.{◌∙◌, ⊎_elim, mod-eq_of_lt, arith}
use mathlib.Core.List.{List}
use Prim.Native.Nat.{ℕ, ◌+◌, ◌-◌, ◌%◌, ◌≤◌, ◌<◌}
use Rattle.std.proofs.Math.Nat.{add-mod_right}
use Rattle.std.proofs.Math.ListN.{get_or}
use Rattle.gf2.specs.Numbers.{order}
use Rattle.rows.specs.Bits.{bit_of}
use Rattle.normal.specs.Filling.{padded-at}
use Rattle.normal.specs.Normal.{table_rows, padded}
use Rattle.sheet.specs.Sheets.{Based}
use Rattle.matrices.specs.Matrices.{matrix_entry, text_bytes, matrices_text}
use Rattle.matrices.proofs.Blocks.{text_ext}
use Rattle.matrices.specs.Entries.{entry-table}
use Rattle.matrices.specs.Turned.{Twice, turned}

-- ---- the text from the table

-- row m of the rows twice over is row m mod n
twice_at : (n : ℕ) (table rows : List ℕ) → Twice n table rows → (m : ℕ) → m < n + n → get_or rows m 0 ≡ get_or table (m % n) 0
twice_at n table rows s m h =
    ⊎_elim
    (λ (l : m < n). s.first m l ∙ ap (λ (x : ℕ). get_or table x 0) (sym (mod-eq_of_lt l)))
    (λ (l : n ≤ m).
    let j : ℕ = m - n in
    let e : n + j ≡ m = omega arith in
    let t : j + n ≡ m = omega arith in
    let q : m % n ≡ j = ap (λ (x : ℕ). x % n) (sym t) ∙ add-mod_right j n ∙ mod-eq_of_lt (omega arith) in
    ap (λ (x : ℕ). get_or rows x 0) (sym e) ∙ s.again j (omega arith) ∙ ap (λ (x : ℕ). get_or table x 0) (sym q))
    (order m n)

module _ (f n a : ℕ) (b : Based f n a) (table rows : List ℕ) (held : table ≡ padded (table_rows f n a)) (s : Twice n table rows) where
  turned-entry : (k i j : ℕ) → k < n → i < n → j < n → turned n rows k i j ≡ matrix_entry f n a k i j
  unfolding turned
  turned-entry k i j hk hi hj =
      let bit : ℕ = (k + (n - i)) % n in
      ap (λ (v : ℕ). bit_of v bit)
      (twice_at n table rows s (j + (n - i)) (omega arith) ∙ ap (λ (l : List ℕ). get_or l ((j + (n - i)) % n) 0) held ∙ padded-at (table_rows f n a) ((j + (n - i)) % n))
      ∙ sym (entry-table f n a b k i j hk hi hj)

  -- the text that the code works out is the one of the definitions
  pub turned_text : text_bytes n (turned n rows) ≡ matrices_text f n a
  unfolding matrices_text
  turned_text = text_ext n (turned n rows) (matrix_entry f n a) turned-entry
