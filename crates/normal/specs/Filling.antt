-- Matrices inside a computation: padding changes neither rows nor sums of rows; the rows of a linear function (`padded_linear`); and how a
-- loop fills a matrix row by row.
--
--   FilledOf k m i g   of the k entries of m those below i are those of g, and the rest 0; `Filled m i g`: of a matrix
--
-- Assumes nothing.
use Rattle.std.specs.Prelude.{◌≡◌, List, ◌++◌, ℕ, ◌+◌, ◌-◌, ◌^◌, ◌≤◌, ◌<◌, get_or, set, take, replicate}
use Rattle.std.proofs.Common.{sym, ap, ◌∙◌, ⊎_elim, add-sub_of_le, arith, length-set, ext_get_or, get_or-set_same, get_or-set_other, get_or-append-add, take_at}
use Rattle.std.proofs.Math.ListN.{length, length-append, get_or-append, get_or-eq_default}
use Rattle.std.proofs.lemmas.List.{length-replicate}
use Rattle.gf2.specs.Numbers.{order}
use Rattle.gf2.specs.Limit.{limit}
use Rattle.rows.specs.Rows.{comb, Matrix, Inverse}
use Rattle.rows.specs.Linear.{Linear, linear_ext}
use Rattle.rows.specs.Sums.{comb-same, comb-⊕, comb-power, zeros-at}
use Rattle.normal.specs.Normal.{listed, padded}
use Rattle.normal.specs.Coordinates.{listed_at, listed-length}

-- ---- padding

module _ (rows : List ℕ) (short : length rows ≤ limit) where
  pub padded-length : length (padded rows) ≡ limit
  unfolding padded
  padded-length = length-append rows (replicate (limit - length rows) 0) ∙ rw (length-replicate {A = ℕ} (limit - length rows) 0) (add-sub_of_le short)

pub padded-at : (rows : List ℕ) (i : ℕ) → get_or (padded rows) i 0 ≡ get_or rows i 0
unfolding padded
padded-at rows i =
    ⊎_elim
    (λ (l : i < length rows). get_or-append rows (replicate (limit - length rows) 0) 0 i l)
    (λ (l : length rows ≤ i).
    let e : length rows + (i - length rows) ≡ i = add-sub_of_le l in
    ap (λ (k : ℕ). get_or (rows ++ replicate (limit - length rows) 0) k 0) (sym e)
    ∙ get_or-append-add rows (replicate (limit - length rows) 0) (i - length rows) 0
    ∙ zeros-at (limit - length rows) (i - length rows)
    ∙ sym (get_or-eq_default rows 0 l))
    (order i (length rows))

pub padded-comb : (rows : List ℕ) (v : ℕ) → comb (padded rows) v ≡ comb rows v
padded-comb rows v = comb-same (padded rows) rows (padded-at rows) v

-- the values of a linear function at the powers of x, as rows, give its value at every element
pub padded_linear : (g : ℕ → ℕ) → Linear g → (n v : ℕ) → v < 2 ^ n → comb (padded (listed n (λ i. g (2 ^ i)))) v ≡ g v
padded_linear g lin n v h =
    let rows : List ℕ = listed n (λ i. g (2 ^ i)) in
    linear_ext (comb (padded rows)) g (comb-⊕ (padded rows)) lin n
    (λ i l. comb-power (padded rows) i ∙ padded-at rows i ∙ listed_at n (λ j. g (2 ^ j)) i l)
    v h

pub padded-take : (rows : List ℕ) (n : ℕ) → length rows ≡ n → take n (padded rows) ≡ rows
unfolding padded
padded-take rows n e = take_at rows (replicate (limit - length rows) 0) n e

-- what has as many entries as the limit says, and those of rows
pub padded_ext : (rows m : List ℕ) → length rows ≤ limit → length m ≡ limit → ((i : ℕ) → get_or m i 0 ≡ get_or rows i 0) → m ≡ padded rows
padded_ext rows m short size e =
    ext_get_or 0 m (padded rows) (size ∙ sym (padded-length rows short)) (λ i l. e i ∙ sym (padded-at rows i))

pub padded_matrix : (rows : List ℕ) (n : ℕ) → Matrix rows n → Matrix (padded rows) n
padded_matrix rows n m =
    record { row_lt = λ i. rw (padded-at rows i) (m.row_lt i); rest = λ i h. padded-at rows i ∙ m.rest i h }

-- an inverse of the padded rows is one of the rows
pub padded-inverse : (rows inv : List ℕ) (n : ℕ) → Inverse (padded rows) n inv → Inverse rows n inv
padded-inverse rows inv n s =
    record {
      shape = s.shape;
      right = λ i h. sym (padded-comb rows (get_or inv i 0)) ∙ s.right i h;
      left = λ i h. ap (comb inv) (sym (padded-at rows i)) ∙ s.left i h;
    }

-- ---- filling

pub record FilledOf (k : ℕ) (m : List ℕ) (i : ℕ) (g : ℕ → ℕ) : Type 0 where
  pub size : length m ≡ k
  pub done : (j : ℕ) → j < i → get_or m j 0 ≡ g j
  pub rest : (j : ℕ) → i ≤ j → get_or m j 0 ≡ 0

abbrev pub Filled : (m : List ℕ) (i : ℕ) (g : ℕ → ℕ) → Type 0
Filled m i g = FilledOf limit m i g

pub filled_start : {k : ℕ} (g : ℕ → ℕ) → FilledOf k (replicate k 0) 0 g
filled_start {k} g =
    record { size = length-replicate {A = ℕ} k 0; done = λ j h. absurd (omega arith); rest = λ j h. zeros-at k j }

pub filled_turn : {k : ℕ} (m : List ℕ) (i x : ℕ) (g : ℕ → ℕ) → i < k → x ≡ g i → FilledOf k m i g → FilledOf k (set m i x) (i + 1) g
filled_turn m i x g h e s =
    record {
      size = length-set m i x ∙ s.size;
      done = λ j l. ⊎_elim
          (λ (u : j < i). get_or-set_other m i j x 0 (λ p. omega arith) ∙ s.done j u)
          (λ (u : i ≤ j). let p : j ≡ i = omega arith in rw p (get_or-set_same m i x 0 (omega (arith, s.size)) ∙ e))
          (order j i);
      rest = λ j l. get_or-set_other m i j x 0 (λ p. omega arith) ∙ s.rest j (omega arith);
    }

pub filled_padded : (m : List ℕ) (n : ℕ) (g : ℕ → ℕ) → n ≤ limit → Filled m n g → m ≡ padded (listed n g)
filled_padded m n g h s =
    padded_ext (listed n g) m (rw listed-length h) s.size
    (λ i. ⊎_elim
    (λ (l : i < n). s.done i l ∙ sym (listed_at n g i l))
    (λ (l : n ≤ i). s.rest i l ∙ sym (get_or-eq_default (listed n g) 0 (rw listed-length l)))
    (order i n))

-- all entries
pub filled_listed : {k : ℕ} (m : List ℕ) (i : ℕ) (g : ℕ → ℕ) → k ≤ i → FilledOf k m i g → m ≡ listed k g
filled_listed {k} m i g h s =
    ext_get_or 0 m (listed k g) (s.size ∙ sym (listed-length k g))
    (λ j l. let u : j < k = omega (arith, s.size) in s.done j (omega arith) ∙ sym (listed_at k g j u))
