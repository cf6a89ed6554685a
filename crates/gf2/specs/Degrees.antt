-- Laws of the degree: every polynomial but 0 has one, and one only; that of a product is the sum of its factors' degrees; bounds of a
-- product and of a spread.
-- Assumes nothing.
use Rattle.std.specs.Prelude.{◌≡◌, ℕ, zero, suc, ◌+◌, ◌-◌, ◌*◌, ◌/◌, ◌%◌, ◌^◌, ◌<◌, ◌≤◌}
use Rattle.std.proofs.Common.{sym, ap, ◌∙◌, ⊎_elim, le_refl, zero-mul, one-mul, pow-suc, zero-add, suc-add, add_comm, mul-le-mul_right, arith, pow_pos, pow-add, pow_mono, shl_lt}
use Rattle.std.proofs.Math.Arith.{bin_ind, lt-one}
use Rattle.gf2.specs.Poly.{◌⊕◌, digits, product, degree, spread, Degree}
use Rattle.gf2.specs.Numbers.{bit_cases, order, mod-two-lt, pow-next}
use Rattle.gf2.specs.Sum.{⊕-lt, ⊕-high, ⊕-low}
use Rattle.gf2.specs.Product.{digits-zero, digits-pos, product-zero_l, product-one_l, product-step, product-⊕_l, product_shift_l, product-square}

-- ---- the degree exists

size : ℕ → ℕ
size a = digits 0 (λ d r. r + 1) a

-- a has the binary digits that `degree` counts
sized : (a : ℕ) → 0 < a → (1 ≤ size a) × Degree a (size a - 1)
unfolding size
sized =
    bin_ind (λ (m : ℕ). 0 < m → (1 ≤ size m) × Degree m (size m - 1)) (λ h. absurd (omega arith))
    (λ m ih h.
    let s : size m ≡ size (m / 2) + 1 = digits-pos 0 (λ d r. r + 1) m h in
    ⊎_elim
    (λ (l : m / 2 < 1).
    let e : m / 2 ≡ 0 = omega arith in
    let z : size (m / 2) ≡ 0 = ap size e ∙ digits-zero 0 (λ d r. r + 1) in
    let d : size m - 1 ≡ 0 = omega arith in
    (omega arith, rw d (record { low = h; high = omega arith })))
    (λ (l : 1 ≤ m / 2).
    let i = ih l in
    let k : ℕ = size (m / 2) - 1 in
    let d : size m - 1 ≡ k + 1 = omega (arith, i.0) in
    let u : 2 ^ k ≤ m / 2 = i.1.low in
    let v : m / 2 < 2 ^ k * 2 = rw pow-next at i.1.high in
    (omega arith, rw d (record { low = rw pow-next (omega arith); high = rw (pow-next (k + 1), pow-next) (omega arith) })))
    (order (m / 2) 1))

pub degree_is : (a : ℕ) → 0 < a → Degree a (degree a)
unfolding degree size
degree_is a h = (sized a h).1

-- ---- degrees compare as numbers do, so there is one only

pub degree_mono : (a b i j : ℕ) → Degree a i → Degree b j → a ≤ b → i ≤ j
degree_mono a b i j da db l =
    ⊎_elim (λ (u : i < j + 1). omega arith) (λ (u : j + 1 ≤ i). absurd (omega (arith, pow_mono u, da.low, db.high))) (order i (j + 1))

pub degree_unique : (a i j : ℕ) → Degree a i → Degree a j → i ≡ j
degree_unique a i j u v = omega (arith, degree_mono a a i j u v (le_refl a), degree_mono a a j i v u (le_refl a))

pub degree-eq : (a n : ℕ) → Degree a n → degree a ≡ n
degree-eq a n d = degree_unique a (degree a) n (degree_is a (omega (arith, d.low, pow_pos n))) d

pub degree-pos : (a i : ℕ) → 2 ≤ a → Degree a i → 1 ≤ i
degree-pos a zero l d = let h : a < 2 ^ (0 + 1) = d.high in absurd (omega arith)
degree-pos a (suc i) l d = omega arith

-- the degree of a number below a power of two
pub degree-lt : (a i k : ℕ) → Degree a i → a < 2 ^ k → i < k
degree-lt a i k d h = ⊎_elim (λ (u : i < k). u) (λ (u : k ≤ i). absurd (omega (arith, pow_mono u, d.low))) (order i k)

pub degree-zero : degree 0 ≡ 0
unfolding degree
degree-zero = rw (digits-zero 0 (λ d r. r + 1))

-- moving the coefficients up by k
pub degree_shift : (a n k : ℕ) → Degree a n → Degree (a * 2 ^ k) (n + k)
degree_shift a n k d =
    let e : n + k + 1 ≡ n + 1 + k = omega arith in
    record {
      low = rw pow-add (mul-le-mul_right (2 ^ k) d.low);
      high = rw e (shl_lt (n + 1) k d.high);
    }

-- ---- the degree of a product

bit-mul-le : (d x : ℕ) → d < 2 → d * x ≤ x
bit-mul-le d x h = ⊎_elim (λ (e : d ≡ 0). rw (e, zero-mul) (omega arith)) (λ (e : d ≡ 1). rw (e, one-mul) (omega arith)) (bit_cases d h)

pub product_lt : (i j a b : ℕ) → a < 2 ^ i → b < 2 ^ j * 2 → product a b < 2 ^ (i + j)
product_lt zero j a b ha hb = rw (lt-one ha, product-zero_l, zero-add) (pow_pos j)
product_lt (suc i) j a b ha hb =
    let h : a < 2 ^ i * 2 = rw pow-suc at ha in
    let ih : product (a / 2) b < 2 ^ (i + j) = product_lt i j (a / 2) b (omega arith) hb in
    let up : 2 ^ j ≤ 2 ^ (i + j) = pow_mono (omega arith) in
    let e : 2 ^ (suc i + j) ≡ 2 ^ (i + j) * 2 = rw (suc-add, pow-suc) in
    rw (product-step a b)
    (⊕-lt (suc i + j) (a % 2 * b) (product (a / 2) b * 2) (omega (arith, bit-mul-le (a % 2) b (mod-two-lt a))) (omega arith))

pub spread-lt : (n a : ℕ) → a < 2 ^ n → spread a < 2 ^ (n + n)
spread-lt n a h = rw (← product-square a) (product_lt n n a a h (omega arith))

pub degree-product : (a b i j : ℕ) → Degree a i → Degree b j → Degree (product a b) (i + j)
degree-product a b i j da db =
    let ha : a < 2 ^ i * 2 = rw pow-next at da.high in
    let hb : b < 2 ^ j * 2 = rw pow-next at db.high in
    let la : 2 ^ i ≤ a = da.low in
    let t : ℕ = a - 2 ^ i in
    let ea : 1 * 2 ^ i ⊕ t ≡ a = ⊕-low 1 i t (omega arith) ∙ (omega arith) in
    let e : product a b ≡ b * 2 ^ i ⊕ product t b = ap (λ (x : ℕ). product x b) (sym ea) ∙ rw (product-⊕_l, product_shift_l, product-one_l) in
    let lo : 2 ^ (i + j) ≤ b * 2 ^ i = rw (add_comm i j, pow-add) (mul-le-mul_right (2 ^ i) db.low) in
    let n : i + 1 + j ≡ i + j + 1 = omega arith in
    record {
      low = rw e (⊕-high (i + j) (b * 2 ^ i) (product t b) lo (product_lt i j t b (omega arith) hb));
      high = rw n at (product_lt (i + 1) j a b da.high hb);
    }
