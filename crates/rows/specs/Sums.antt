-- Laws of `comb`, the sum of the rows that the bits of a number pick. In order: one row more; linear in the number; a power
-- of two picks its row; bounds; rows that agree; a linear function of a sum, and so a sum of sums; rows from a place upward;
-- turns of the loop that sums.
-- Assumes nothing.
use Rattle.std.specs.Prelude.{◌≡◌, refl, List, [], ◌∷◌, ℕ, zero, suc, ◌+◌, ◌-◌, ◌*◌, ◌/◌, ◌%◌, ◌^◌, ◌≤◌, ◌<◌, get_or, take, drop, replicate}
use Rattle.std.proofs.Common.{sym, ap, ◌∙◌, ⊎_elim, zero-mul, one-mul, pow-suc, add-zero, add_comm, mul-zero, arith, pow_pos, pow-add, get_or-take, get_or-drop, drop-drop}
use Rattle.std.proofs.Math.Arith.{lt-one}
use Rattle.gf2.specs.Poly.{◌⊕◌}
use Rattle.gf2.specs.Numbers.{order, mod-two-lt}
use Rattle.gf2.specs.Steps.{bit-mul-lt}
use Rattle.gf2.specs.Sum.{⊕_half, ⊕_odd, zero-⊕, ⊕-zero, ⊕_assoc, ⊕-four, ⊕-lt, bit-⊕-mul}
use Rattle.rows.specs.Rows.{comb}
use Rattle.rows.specs.Linear.{Linear, linear_zero, linear_bit, linear_ext, linear_after, linear_shift}

-- ---- one row more

pub comb-nil : (v : ℕ) → comb [] v ≡ 0
unfolding comb
comb-nil v = refl

pub comb-cons : (r : ℕ) (rs : List ℕ) (v : ℕ) → comb (r ∷ rs) v ≡ (v % 2) * r ⊕ comb rs (v / 2)
unfolding comb
comb-cons r rs v = refl

-- the same for any list, whose first row is 0 where it has none
pub comb-step : (rows : List ℕ) (v : ℕ) → comb rows v ≡ (v % 2) * get_or rows 0 0 ⊕ comb (drop 1 rows) (v / 2)
comb-step [] v = comb-nil v ∙ sym (rw (comb-nil (v / 2), mul-zero) (zero-⊕ 0))
comb-step (r ∷ rs) v = comb-cons r rs v

-- ---- linear in the number

-- it says `Linear (comb rows)`
pub comb-⊕ : (rows : List ℕ) (v w : ℕ) → comb rows (v ⊕ w) ≡ comb rows v ⊕ comb rows w
comb-⊕ [] v w = rw (comb-nil (v ⊕ w), comb-nil v, comb-nil w) (sym (zero-⊕ 0))
comb-⊕ (r ∷ rs) v w =
    rw (comb-cons r rs (v ⊕ w), comb-cons r rs v, comb-cons r rs w, ⊕_half, ⊕_odd, comb-⊕ rs (v / 2) (w / 2), bit-⊕-mul (v % 2) (w % 2) r (mod-two-lt v) (mod-two-lt w))
    (⊕-four (v % 2 * r) (w % 2 * r) (comb rs (v / 2)) (comb rs (w / 2)))

pub comb-zero : (rows : List ℕ) → comb rows 0 ≡ 0
comb-zero rows = linear_zero (comb rows) (comb-⊕ rows)

pub comb-bit : (rows : List ℕ) (d v : ℕ) → d < 2 → comb rows (d * v) ≡ d * comb rows v
comb-bit rows d v h = linear_bit (comb rows) (comb-⊕ rows) d v h

-- ---- a power of two picks its row

pow_half : (c : ℕ) → 2 ^ suc c / 2 ≡ 2 ^ c
pow_half c = omega (arith, pow-suc 2 c)

pow_even : (c : ℕ) → 2 ^ suc c % 2 ≡ 0
pow_even c = omega (arith, pow-suc 2 c)

pub comb-power : (rows : List ℕ) (c : ℕ) → comb rows (2 ^ c) ≡ get_or rows c 0
comb-power [] c = comb-nil (2 ^ c)
comb-power (r ∷ rs) zero = comb-cons r rs 1 ∙ rw (one-mul, comb-zero rs) (⊕-zero r)
comb-power (r ∷ rs) (suc c) = comb-cons r rs (2 ^ suc c) ∙ rw (pow_half, pow_even, zero-mul, comb-power rs c) (zero-⊕ _)

-- ---- bounds

-- rows below 2 ^ k have their sums below 2 ^ k
pub comb-lt : (k : ℕ) (rows : List ℕ) → ((i : ℕ) → get_or rows i 0 < 2 ^ k) → (v : ℕ) → comb rows v < 2 ^ k
comb-lt k [] h v = rw comb-nil (pow_pos k)
comb-lt k (r ∷ rs) h v =
    rw comb-cons (⊕-lt k (v % 2 * r) (comb rs (v / 2)) (bit-mul-lt (v % 2) r (2 ^ k) (mod-two-lt v) (h 0)) (comb-lt k rs (λ i. h (suc i)) (v / 2)))

-- the same where only the first n rows are known, for a number below 2 ^ n
pub comb-lt-first : (k n : ℕ) (rows : List ℕ) → ((i : ℕ) → i < n → get_or rows i 0 < 2 ^ k) → (v : ℕ) → v < 2 ^ n → comb rows v < 2 ^ k
comb-lt-first k n [] h v l = rw comb-nil (pow_pos k)
comb-lt-first k zero (r ∷ rs) h v l = rw (lt-one l, comb-zero (r ∷ rs)) (pow_pos k)
comb-lt-first k (suc n) (r ∷ rs) h v l =
    let p : v < 2 ^ n * 2 = rw pow-suc at l in
    rw comb-cons
    (⊕-lt k (v % 2 * r) (comb rs (v / 2))
    (bit-mul-lt (v % 2) r (2 ^ k) (mod-two-lt v) (h 0 (omega arith)))
    (comb-lt-first k n rs (λ i q. h (suc i) (omega arith)) (v / 2) (omega arith)))

-- ---- rows that agree have the same sums

pub comb_ext : (n : ℕ) (A B : List ℕ) → ((i : ℕ) → i < n → get_or A i 0 ≡ get_or B i 0) → (v : ℕ) → v < 2 ^ n → comb A v ≡ comb B v
comb_ext n A B h = linear_ext (comb A) (comb B) (comb-⊕ A) (comb-⊕ B) n (λ i l. comb-power A i ∙ h i l ∙ sym (comb-power B i))

below_power : (v : ℕ) → v < 2 ^ v
below_power zero = omega arith
below_power (suc v) = rw pow-suc (omega (arith, below_power v))

-- rows that agree at every place, though one list may have more zeros at its end
pub comb-same : (A B : List ℕ) → ((i : ℕ) → get_or A i 0 ≡ get_or B i 0) → (v : ℕ) → comb A v ≡ comb B v
comb-same A B h v = comb_ext v A B (λ i l. h i) v (below_power v)

-- ---- a linear function of a sum of rows is the sum of its values at the rows

pub linear_rows : (f : ℕ → ℕ) → Linear f → (A B : List ℕ) → ((i : ℕ) → get_or A i 0 ≡ f (get_or B i 0)) → (v : ℕ) → comb A v ≡ f (comb B v)
linear_rows f l A B h v =
    linear_ext (comb A) (λ w. f (comb B w)) (comb-⊕ A) (linear_after f (comb B) l (comb-⊕ B)) v
    (λ i q. comb-power A i ∙ h i ∙ ap f (sym (comb-power B i)))
    v (below_power v)

-- a sum of sums, which stand in a list of their own
pub comb-sums : (C A B : List ℕ) → ((i : ℕ) → get_or A i 0 ≡ comb C (get_or B i 0)) → (v : ℕ) → comb A v ≡ comb C (comb B v)
comb-sums C = linear_rows (comb C) (comb-⊕ C)

-- ---- rows from a place upward

pub zeros-at : (m i : ℕ) → ◌≡◌ {A = ℕ} (get_or (replicate m 0) i 0) 0
zeros-at zero i = refl
zeros-at (suc m) zero = refl
zeros-at (suc m) (suc i) = zeros-at m i

-- the bits from place n upward pick the rows from place n upward
pub comb-drop : (n : ℕ) (rows : List ℕ) (v : ℕ) → comb rows (v * 2 ^ n) ≡ comb (drop n rows) v
comb-drop n rows v =
    sym
    (linear_ext (comb (drop n rows)) (λ w. comb rows (w * 2 ^ n)) (comb-⊕ (drop n rows)) (linear_after (comb rows) (λ w. w * 2 ^ n) (comb-⊕ rows) (linear_shift n)) v
    (λ i l. comb-power (drop n rows) i ∙ get_or-drop n rows i 0 ∙ ap (λ (k : ℕ). get_or rows k 0) (add_comm n i) ∙ sym (rw (← pow-add 2 i n) (comb-power rows (i + n))))
    v (below_power v))

-- a number below 2 ^ n picks among the first n rows
pub comb-take : (n : ℕ) (rows : List ℕ) (v : ℕ) → v < 2 ^ n → comb (take n rows) v ≡ comb rows v
comb-take n rows = comb_ext n (take n rows) rows (λ i l. get_or-take n rows i 0 l)

-- ---- the loop that sums: what is summed, and what the bits that are left pick of the rows that are left

-- while a bit is left there is a row
pub left_turn : (m i left : ℕ) → left < 2 ^ (m - i) → 0 < left → (i < m) × (left / 2 < 2 ^ (m - (i + 1)))
left_turn m i left h p =
    ⊎_elim
    (λ (l : i < m).
    let e : m - i ≡ suc (m - (i + 1)) = omega arith in
    let g : left < 2 ^ (m - (i + 1)) * 2 = rw (e, pow-suc) at h in
    (l, omega arith))
    (λ (l : m ≤ i). let e : m - i ≡ 0 = omega arith in let g : left < 1 = rw e at h in absurd (omega arith))
    (order i m)

pub comb_turn : (rows : List ℕ) (i sum left part v : ℕ) → part ≡ (left % 2) * get_or rows i 0 → sum ⊕ comb (drop i rows) left ≡ comb rows v
    → (sum ⊕ part) ⊕ comb (drop (i + 1) rows) (left / 2) ≡ comb rows v
comb_turn rows i sum left part v p e =
    let first : get_or (drop i rows) 0 0 ≡ get_or rows i 0 = get_or-drop i rows 0 0 ∙ rw add-zero in
    let step : comb (drop i rows) left ≡ part ⊕ comb (drop (i + 1) rows) (left / 2) =
    comb-step (drop i rows) left ∙ rw (first, drop-drop 1 i rows, ← p) in
    ⊕_assoc sum part (comb (drop (i + 1) rows) (left / 2)) ∙ ap (λ (x : ℕ). sum ⊕ x) (sym step) ∙ e

pub comb-end : (rows : List ℕ) (i sum left v : ℕ) → left ≡ 0 → sum ⊕ comb (drop i rows) left ≡ comb rows v → sum ≡ comb rows v
comb-end rows i sum left v z e = sym (ap (λ (x : ℕ). sum ⊕ x) (ap (comb (drop i rows)) z ∙ comb-zero (drop i rows)) ∙ ⊕-zero sum) ∙ e
