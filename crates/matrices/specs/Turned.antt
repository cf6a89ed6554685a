-- The lines of the matrices from a table: entry (i,j) of T_k is t((j-i) mod n, (k-i) mod n), taken from the table's rows twice over, where
-- (j-i) mod n is found without turning round.
--
--   twice_limit              room for the rows of the longest table, twice over
--   Twice n table rows      rows has the n rows of the table, once more the same, and zeros
--   Copied n i table rows   the same for the first i of them: what a loop has done
--   turned n rows k i j     entry (i,j) of T_k, from such rows
--   copied_none, -next      how the loop copies
--   twice_unique            no other rows are so
--   turned_text             the text from such rows is that of the definitions
--
-- What of this a wrong definition breaks, and what rests on that, stands in `proofs/Turned.antt`.
-- Assumes nothing.
use Rattle.std.specs.Prelude.{◌≡◌, length, set, replicate}
use Rattle.std.proofs.Math.Path.{sym, ap}
use Rattle.std.proofs.Common.{◌∙◌, ⊎_elim, arith, length-set, get_or-set_same, get_or-set_other, ext_get_or}
use mathlib.Core.List.{List}
use Prim.Native.Nat.{ℕ, ◌+◌, ◌-◌, ◌*◌, ◌%◌, ◌≤◌, ◌<◌}
use Rattle.std.proofs.Math.ListN.{get_or}
use Rattle.std.proofs.lemmas.List.{length-replicate, get_or-replicate}
use Rattle.gf2.specs.Limit.{limit}
use Rattle.gf2.specs.Numbers.{order}
use Rattle.normal.specs.TableProduct.{entry}

abbrev pub twice_limit : ℕ
twice_limit = 2 * limit

pub record Copied (n i : ℕ) (table rows : List ℕ) : Type 0 where
  pub size : length rows ≡ twice_limit
  pub first : (j : ℕ) → j < i → get_or rows j 0 ≡ get_or table j 0
  pub again : (j : ℕ) → j < i → get_or rows (n + j) 0 ≡ get_or table j 0
  pub rest : (j : ℕ) → n + i ≤ j → j < twice_limit → get_or rows j 0 ≡ 0

abbrev pub Twice : (n : ℕ) (table rows : List ℕ) → Type 0
Twice n table rows = Copied n n table rows

unfoldable pub turned : (n : ℕ) (rows : List ℕ) (k i j : ℕ) → ℕ
turned n rows k i j = entry rows (j + (n - i)) ((k + (n - i)) % n)

-- ---- copying the rows

pub copied_none : (n : ℕ) (table : List ℕ) → Copied n 0 table (replicate twice_limit 0)
copied_none n table =
    record { size = length-replicate {A = ℕ} twice_limit 0; first = λ j h. absurd (omega arith); again = λ j h. absurd (omega arith); rest = λ j h l. get_or-replicate twice_limit j 0 0 l }

-- one row more, in both places
pub copied_next : (n i : ℕ) (table rows : List ℕ) → n ≤ limit → i < n → Copied n i table rows
    → Copied n (i + 1) table (set (set rows i (get_or table i 0)) (n + i) (get_or table i 0))
copied_next n i table rows most h s =
    let x : ℕ = get_or table i 0 in
    let once : List ℕ = set rows i x in
    let size : length once ≡ twice_limit = length-set rows i x ∙ s.size in
    record {
      size = length-set once (n + i) x ∙ size;
      first = λ j l.
          get_or-set_other once (n + i) j x 0 (λ p. omega arith)
          ∙ ⊎_elim
          (λ (u : j < i). get_or-set_other rows i j x 0 (λ p. omega arith) ∙ s.first j u)
          (λ (u : i ≤ j). let p : j ≡ i = omega arith in rw p (get_or-set_same rows i x 0 (omega (arith, s.size))))
          (order j i);
      again = λ j l.
          ⊎_elim
          (λ (u : j < i).
          get_or-set_other once (n + i) (n + j) x 0 (λ p. omega arith) ∙ get_or-set_other rows i (n + j) x 0 (λ p. omega arith) ∙ s.again j u)
          (λ (u : i ≤ j). let p : j ≡ i = omega arith in rw p (get_or-set_same once (n + i) x 0 (omega (arith, size))))
          (order j i);
      rest = λ j l t.
          get_or-set_other once (n + i) j x 0 (λ p. omega arith) ∙ get_or-set_other rows i j x 0 (λ p. omega arith) ∙ s.rest j (omega arith) t;
    }

-- so what the loop ends with is determined
pub twice_unique : (n : ℕ) (table rows other : List ℕ) → Twice n table rows → Twice n table other → rows ≡ other
twice_unique n table rows other s t =
    ext_get_or 0 rows other (s.size ∙ sym t.size)
    (λ j h.
    ⊎_elim
    (λ (u : j < n). s.first j u ∙ sym (t.first j u))
    (λ (u : n ≤ j).
    ⊎_elim
    (λ (v : j < n + n).
    let e : n + (j - n) ≡ j = omega arith in
    let l : j - n < n = omega arith in
    ap (λ (x : ℕ). get_or rows x 0) (sym e) ∙ s.again (j - n) l ∙ sym (t.again (j - n) l) ∙ ap (λ (x : ℕ). get_or other x 0) e)
    (λ (v : n + n ≤ j). let l : j < twice_limit = omega (arith, h, s.size) in s.rest j v l ∙ sym (t.rest j v l))
    (order j (n + n)))
    (order j n))
