-- The laws of `specs/Comparing.antt` that a wrong definition breaks, and what rests on them. The head there tells of both files.
-- Assumes nothing.
use Rattle.std.specs.Prelude.{◌≡◌, refl, ◌⊎◌, true, false, eqb, get_or}
use Rattle.std.proofs.Math.Path.{sym, ap, ap₂}
use Rattle.std.proofs.Common.{◌∙◌, inl, inr, add_assoc, zero-mul, arith, drop-drop, get_or-drop}
use mathlib.Core.List.{List, [], ◌∷◌, ◌++◌, append-nil}
use Prim.Native.Nat.{ℕ, zero, suc, ◌+◌, ◌*◌, ◌≤◌, ◌<◌}
use Rattle.std.proofs.Math.Nat.{zero-add, add-zero}
use Rattle.std.proofs.Math.ListN.{length, drop, drop_of_length-le, length-drop, get_or-append}
use Rattle.std.proofs.Math.Seq.{drop-append-add}
use borrow.Author.Tests.{ne_eqb, eqb-true}
use Rattle.gf2.specs.Truth.{bool_cases}
use Rattle.normal.specs.Normal.{listed}
use Rattle.normal.specs.Coordinates.{listed_at, listed-length}
use Rattle.matrices.specs.Matrices.{in_order, digit_byte, line_end, line_bytes, matrix_bytes, text_bytes, matrix_size, line_count}
use Rattle.matrices.specs.Orders.{count_of, common, common_lines}
use Rattle.matrices.specs.Blocks.{next_place, in_order-drop}
use Rattle.matrices.proofs.Blocks.{line-length, lines-length, matrix_length, matrices-length}
use Rattle.matrices.specs.CommonLines.{common-nil, lines-whole, lines-part, lines-most, lines_other, lines_next}
use Rattle.matrices.proofs.Counting.{line-ends, matrix_ends}
use Rattle.matrices.specs.Comparing.{Agrees, agrees_start}

-- a block that ends a line stands at place p of y, and q is the place after it
module _ (x y : List ℕ) (lines p q : ℕ) (e : Agrees x y lines p) (front : List ℕ) (c : ℕ) (ends : count_of line_end (front ++ (line_end ∷ [])) ≡ c)
    (after : p + length (front ++ (line_end ∷ [])) ≡ q) (stands : drop p y ≡ front ++ (line_end ∷ []) ++ drop q y)
    (r : ℕ) (er : r ≡ common_lines (drop p x) (front ++ (line_end ∷ []))) where
  -- a line of it is not in x
  pub agrees_stop : r < c → common_lines x y ≡ lines + r
  agrees_stop h =
      e ∙ ap (λ (l : List ℕ). lines + common_lines (drop p x) l) stands
      ∙ ap (λ (m : ℕ). lines + m) (lines-part (drop p x) front (drop q y) (rw (← er, ends) h) ∙ sym er)

  -- all of it is
  pub agrees_on : c ≤ r → Agrees x y (lines + c) q
  agrees_on h =
      let block : List ℕ = front ++ (line_end ∷ []) in
      let all : common_lines (drop p x) block ≡ count_of line_end block = omega (arith, er, ends, h, lines-most (drop p x) front (drop q y)) in
      let place : drop (length block) (drop p x) ≡ drop q x = drop-drop (length block) p x ∙ ap (λ (m : ℕ). drop m x) after in
      e ∙ ap (λ (l : List ℕ). lines + common_lines (drop p x) l) stands
      ∙ ap (λ (m : ℕ). lines + m) (lines-whole (drop p x) front (drop q y) all ∙ ap₂ (λ (m : ℕ) (l : List ℕ). m + common_lines l (drop q y)) ends place)
      ∙ sym (add_assoc lines c (common_lines (drop q x) (drop q y)))

-- ---- a line

digit-ends : (d : ℕ) → digit_byte d ≡ line_end → ⊥
digit-ends d e = omega arith

-- digits alone end no line
short : (n : ℕ) (g : ℕ → ℕ) (x : List ℕ) → length x ≤ n → common_lines x (listed n (λ j. digit_byte (g j)) ++ (line_end ∷ [])) ≡ 0
unfolding listed common_lines common count_of
short n g [] h = refl
short zero g (a ∷ x) h = absurd (omega arith)
short (suc n) g (a ∷ x) h = go (bool_cases (eqb a (digit_byte (g 0)))) (short n (λ j. g (suc j)) x (omega arith))
  where
    rest : List ℕ
    rest = listed n (λ j. digit_byte (g (suc j))) ++ (line_end ∷ [])

    go : (eqb a (digit_byte (g 0)) ≡ true) ⊎ (eqb a (digit_byte (g 0)) ≡ false) → common_lines x (listed n (λ j. digit_byte (g (suc j))) ++ (line_end ∷ [])) ≡ 0
        → common_lines (a ∷ x) (listed (suc n) (λ j. digit_byte (g j)) ++ (line_end ∷ [])) ≡ 0
    go (inl e) ih = rw (e, ne_eqb a line_end (λ p. digit-ends (g 0) (sym (eqb-true a (digit_byte (g 0)) e) ∙ p))) (zero-add _ ∙ ih)
    go (inr e) ih = rw e refl

module _ (text : List ℕ) (at n : ℕ) (g : ℕ → ℕ) where
  abbrev here : List ℕ
  here = drop at text

  abbrev line : List ℕ
  line = line_bytes n g

  pub line_missing : length text ≤ at + n → 0 ≡ common_lines (drop at text) (line_bytes n g)
  unfolding line_bytes
  line_missing h = sym (short n g here (rw length-drop (omega arith)))

  digit_at : (j : ℕ) → j < n → get_or line j 0 ≡ digit_byte (g j)
  unfolding line_bytes
  digit_at j h =
      get_or-append (listed n (λ i. digit_byte (g i))) (line_end ∷ []) 0 j (rw listed-length h) ∙ listed_at n (λ i. digit_byte (g i)) j h

  module _ (long : at + n < length text) (j : ℕ) (h : j < n) (e : Agrees (drop at text) (line_bytes n g) 0 j) where
    inside : (j < length here) × (j < length line)
    inside = (rw length-drop (omega arith), rw line-length (omega arith))

    byte_at : get_or here j 0 ≡ get_or text (at + j) 0
    byte_at = get_or-drop at text j 0

    pub line_other : (get_or text (at + j) 0 ≡ digit_byte (g j) → ⊥) → 0 ≡ common_lines (drop at text) (line_bytes n g)
    line_other u =
        let z : common_lines (drop j here) (drop j line) ≡ 0 = lines_other here line j inside.0 inside.1 (λ p. u (sym byte_at ∙ p ∙ digit_at j h)) in
        sym (e ∙ zero-add _ ∙ z)

    pub line-next : get_or text (at + j) 0 ≡ digit_byte (g j) → Agrees (drop at text) (line_bytes n g) 0 (j + 1)
    line-next p =
        let same : get_or here j 0 ≡ get_or line j 0 = byte_at ∙ p ∙ sym (digit_at j h) in
        let no_end : eqb (get_or here j 0) line_end ≡ false = ne_eqb (get_or here j 0) line_end (λ q. digit-ends (g j) (sym (byte_at ∙ p) ∙ q)) in
        e ∙ ap (λ (m : ℕ). 0 + m) (sym (rw no_end at (lines_next here line j inside.0 inside.1 same)) ∙ zero-add _)

  -- after the digits, the end decides
  pub line-end : Agrees (drop at text) (line_bytes n g) 0 n → common_lines (drop at text) (line_bytes n g) ≡ common_lines (drop (at + n) text) (line_end ∷ [])
  unfolding line_bytes
  line-end e =
      let digits : List ℕ = listed n (λ i. digit_byte (g i)) in
      let size : n ≡ length digits + 0 = sym (add-zero (length digits) ∙ listed-length n (λ i. digit_byte (g i))) in
      e ∙ zero-add _
      ∙ ap₂ common_lines (drop-drop n at text) (ap (λ (k : ℕ). drop k (digits ++ (line_end ∷ []))) size ∙ drop-append-add digits (line_end ∷ []) 0)

-- ---- a matrix

module _ (text : List ℕ) (at n : ℕ) (g : ℕ → ℕ → ℕ) where
  abbrev there : List ℕ
  there = drop at text

  pub matrix_start : Agrees (drop at text) (matrix_bytes n g) 0 (0 * (n + 1))
  matrix_start = rw (zero-mul (n + 1)) (agrees_start there (matrix_bytes n g))

  module _ (i : ℕ) (h : i < n) (e : Agrees (drop at text) (matrix_bytes n g) i (i * (n + 1))) (r : ℕ) (er : r ≡ common_lines (drop (at + i * (n + 1)) text) (line_bytes n (g i))) where
    found : r ≡ common_lines (drop (i * (n + 1)) there) (line_bytes n (g i))
    found = er ∙ ap (λ (l : List ℕ). common_lines l (line_bytes n (g i))) (sym (drop-drop (i * (n + 1)) at text))

    after : i * (n + 1) + length (line_bytes n (g i)) ≡ (i + 1) * (n + 1)
    after = ap (λ (m : ℕ). i * (n + 1) + m) (line-length n (g i)) ∙ next_place i (n + 1)

    stands : drop (i * (n + 1)) (matrix_bytes n g) ≡ line_bytes n (g i) ++ drop ((i + 1) * (n + 1)) (matrix_bytes n g)
    unfolding matrix_bytes
    stands = in_order-drop (n + 1) n (λ m. line_bytes n (g m)) (λ m. line-length n (g m)) (line_end ∷ []) i h

    pub matrix_stop : r ≡ 0 → i ≡ common_lines (drop at text) (matrix_bytes n g)
    unfolding line_bytes
    matrix_stop z =
        sym (agrees_stop there (matrix_bytes n g) i (i * (n + 1)) ((i + 1) * (n + 1)) e (listed n (λ j. digit_byte (g i j))) 1 (line-ends n (g i)) after stands r found (omega arith)
        ∙ ap (λ (m : ℕ). i + m) z ∙ add-zero i)

    pub matrix_next : (r ≡ 0 → ⊥) → Agrees (drop at text) (matrix_bytes n g) (i + 1) ((i + 1) * (n + 1))
    unfolding line_bytes
    matrix_next z =
        agrees_on there (matrix_bytes n g) i (i * (n + 1)) ((i + 1) * (n + 1)) e (listed n (λ j. digit_byte (g i j))) 1 (line-ends n (g i)) after stands r found (omega (arith, z))

  -- after the lines, the empty one decides
  pub matrix_end : Agrees (drop at text) (matrix_bytes n g) n (n * (n + 1)) → (r : ℕ) → r ≡ common_lines (drop (at + n * (n + 1)) text) (line_end ∷ [])
      → n + r ≡ common_lines (drop at text) (matrix_bytes n g)
  unfolding matrix_bytes
  matrix_end e r er =
      let lines : List ℕ = in_order n (λ i. line_bytes n (g i)) in
      let size : n * (n + 1) ≡ length lines + 0 = sym (add-zero (length lines) ∙ lines-length n n g) in
      ap (λ (m : ℕ). n + m)
      (er
      ∙ ap₂ common_lines (sym (drop-drop (n * (n + 1)) at text))
      (sym (ap (λ (k : ℕ). drop k (lines ++ (line_end ∷ []))) size ∙ drop-append-add lines (line_end ∷ []) 0)))
      ∙ sym e

  pub matrix_most : common_lines (drop at text) (matrix_bytes n g) ≤ n + 1
  unfolding matrix_bytes
  matrix_most = omega (arith, lines-most there (in_order n (λ i. line_bytes n (g i))) [], matrix_ends n g)

-- ---- the text

module _ (text : List ℕ) (n : ℕ) (g : ℕ → ℕ → ℕ → ℕ) where
  pub text_start : Agrees text (text_bytes n g) (0 * (n + 1)) (0 * matrix_size n)
  text_start = rw (zero-mul (n + 1), zero-mul (matrix_size n)) (agrees_start text (text_bytes n g))

  module _ (k : ℕ) (h : k < n) (e : Agrees text (text_bytes n g) (k * (n + 1)) (k * matrix_size n)) (r : ℕ) (er : r ≡ common_lines (drop (k * matrix_size n) text) (matrix_bytes n (g k))) where
    past : k * matrix_size n + length (matrix_bytes n (g k)) ≡ (k + 1) * matrix_size n
    past = ap (λ (m : ℕ). k * matrix_size n + m) (matrix_length n (g k)) ∙ next_place k (matrix_size n)

    holds : drop (k * matrix_size n) (text_bytes n g) ≡ matrix_bytes n (g k) ++ drop ((k + 1) * matrix_size n) (text_bytes n g)
    unfolding text_bytes
    holds =
        rw append-nil at (in_order-drop (matrix_size n) n (λ m. matrix_bytes n (g m)) (λ m. matrix_length n (g m)) [] k h)

    pub text_stop : r ≤ n → k * (n + 1) + r ≡ common_lines text (text_bytes n g)
    unfolding matrix_bytes
    text_stop l =
        sym (agrees_stop text (text_bytes n g) (k * (n + 1)) (k * matrix_size n) ((k + 1) * matrix_size n) e (in_order n (λ i. line_bytes n (g k i))) (n + 1) (matrix_ends n (g k)) past holds r er (omega arith))

    pub text_next : n < r → Agrees text (text_bytes n g) ((k + 1) * (n + 1)) ((k + 1) * matrix_size n)
    unfolding matrix_bytes
    text_next l =
        rw (next_place k (n + 1)) at
        (agrees_on text (text_bytes n g) (k * (n + 1)) (k * matrix_size n) ((k + 1) * matrix_size n) e (in_order n (λ i. line_bytes n (g k i))) (n + 1) (matrix_ends n (g k)) past holds r er (omega arith))

  -- all matrices are there
  pub text_end : Agrees text (text_bytes n g) (n * (n + 1)) (n * matrix_size n) → line_count n ≡ common_lines text (text_bytes n g)
  unfolding text_bytes common_lines count_of
  text_end e =
      let none : drop (n * matrix_size n) (in_order n (λ k. matrix_bytes n (g k))) ≡ [] = drop_of_length-le (in_order n (λ k. matrix_bytes n (g k))) {i = n * matrix_size n} (omega (arith, matrices-length n n g)) in
      sym (e ∙ ap (λ (l : List ℕ). n * (n + 1) + count_of line_end (common (drop (n * matrix_size n) text) l)) none
      ∙ ap (λ (l : List ℕ). n * (n + 1) + count_of line_end l) (common-nil (drop (n * matrix_size n) text)) ∙ add-zero (n * (n + 1)))
