-- The laws of `specs/ProductBits.antt` that a wrong definition breaks, and what rests on them. The head there tells of both files.
-- Assumes nothing.
use Rattle.std.specs.Prelude.{◌≡◌, ◌⊎◌, List, [], ◌∷◌, length, get_or}
use Rattle.std.proofs.Math.Path.{refl, sym, ap, ap₂}
use Rattle.std.proofs.Common.{◌∙◌, inl, inr, le_refl, zero-mul, mul-zero, mul_assoc, mod-lt, add-zero, not-suc-le-zero, add-one, arith}
use Prim.Native.Nat.{ℕ, zero, suc, ◌+◌, ◌-◌, ◌*◌, ◌/◌, ◌%◌, ◌^◌, ◌≤◌, ◌<◌}
use Rattle.std.proofs.Math.Nat.{mod-eq_of_lt, mod_self, mod-add-mod, add-mod_right, zero-div}
use Rattle.gf2.specs.Poly.{◌⊕◌, mul_mod, Degree}
use Rattle.gf2.specs.Numbers.{bit_cases, mod-two-lt}
use Rattle.gf2.specs.Sum.{⊕_comm, ⊕_assoc, zero-⊕, ⊕-zero, ⊕-one-one, bit-mul-⊕}
use Rattle.gf2.specs.Steps.{bit-mul-lt}
use Rattle.field.specs.Field.{squared}
use Rattle.field.specs.Frobenius.{squared_fixes}
use Rattle.rows.specs.Rows.{comb, Independent}
use Rattle.rows.specs.Bits.{bit_of}
use Rattle.rows.specs.Sharing.{bit_of-lt, bit_of-⊕, bit_of-zero}
use Rattle.rows.specs.Linear.{linear_bit}
use Rattle.normal.specs.TableProduct.{rotate, entry, total, product_bit, table_product}
use Rattle.normal.specs.Rotation.{rotate_back}
use Rattle.normal.proofs.Rotation.{rotate_back-lt, rotate-bit, rotate_back-bit}
use Rattle.normal.specs.Normal.{conjugates, table_rows}
use Rattle.normal.specs.Products.{Table, horner_product}
use Rattle.normal.proofs.Products.{table_rows-table, horner_product-lt, horner-product}
use Rattle.normal.specs.ProductBits.{bit_of-first, bit_of_half, bits_make, total-none, total_ext, xor_sum}

-- ---- sums modulo 2

xor_sum_ext : (k : ℕ) (g h : ℕ → ℕ) → ((i : ℕ) → i < k → g i ≡ h i) → xor_sum k g ≡ xor_sum k h
unfolding xor_sum
xor_sum_ext zero g h e = refl
xor_sum_ext (suc k) g h e =
    ap₂ ◌⊕◌ (e 0 (omega arith)) (xor_sum_ext k (λ i. g (suc i)) (λ i. h (suc i)) (λ i l. e (suc i) (omega arith)))

xor_sum-last : (k : ℕ) (g : ℕ → ℕ) → xor_sum (suc k) g ≡ xor_sum k g ⊕ g k
unfolding xor_sum
xor_sum-last zero g = ⊕_comm (g 0) 0
xor_sum-last (suc k) g =
    ap (λ (x : ℕ). g 0 ⊕ x) (xor_sum-last k (λ i. g (suc i))) ∙ sym (⊕_assoc (g 0) (xor_sum k (λ i. g (suc i))) (g (suc k)))

xor_sum_scale : (k d : ℕ) (g : ℕ → ℕ) → d < 2 → d * xor_sum k g ≡ xor_sum k (λ i. d * g i)
unfolding xor_sum
xor_sum_scale zero d g h = mul-zero d
xor_sum_scale (suc k) d g h =
    bit-mul-⊕ d (g 0) (xor_sum k (λ i. g (suc i))) h ∙ ap (λ (x : ℕ). d * g 0 ⊕ x) (xor_sum_scale k d (λ i. g (suc i)) h)

plus_odd : (x y : ℕ) → (x + y) % 2 ≡ x % 2 ⊕ y % 2
plus_odd x y = go (bit_cases (x % 2) (mod-two-lt x)) (bit_cases (y % 2) (mod-two-lt y))
  where
    go : (x % 2 ≡ 0) ⊎ (x % 2 ≡ 1) → (y % 2 ≡ 0) ⊎ (y % 2 ≡ 1) → (x + y) % 2 ≡ x % 2 ⊕ y % 2
    go (inl p) q = rw (p, zero-⊕) (omega arith)
    go (inr p) (inl q) = rw (p, q, ⊕-zero) (omega arith)
    go (inr p) (inr q) = rw (p, q, ⊕-one-one) (omega arith)

total_odd : (k : ℕ) (g : ℕ → ℕ) → total k g % 2 ≡ xor_sum k (λ i. g i % 2)
unfolding total xor_sum
total_odd zero g = refl
total_odd (suc k) g = plus_odd (g 0) (total k (λ i. g (suc i))) ∙ ap (λ (x : ℕ). g 0 % 2 ⊕ x) (total_odd k (λ i. g (suc i)))

-- ---- the sum over a cycle of indices

turn : (m : ℕ) (h : ℕ → ℕ) → xor_sum (suc m) (λ j. h ((j + 1) % suc m)) ≡ xor_sum (suc m) h
turn m h =
    xor_sum-last m (λ j. h ((j + 1) % suc m))
    ∙ ap₂ ◌⊕◌
    (xor_sum_ext m (λ j. h ((j + 1) % suc m)) (λ j. h (suc j)) (λ j l. ap h (mod-eq_of_lt {n = j + 1} (omega arith) ∙ add-one j)))
    (ap h (ap (λ (x : ℕ). x % suc m) (add-one m) ∙ mod_self (suc m)))
    ∙ ⊕_comm (xor_sum m (λ j. h (suc j))) (h 0)
    ∙ sym (unfold xor_sum in refl)

turns : (m i : ℕ) (h : ℕ → ℕ) → xor_sum (suc m) (λ j. h ((j + i) % suc m)) ≡ xor_sum (suc m) h
turns m zero h =
    xor_sum_ext (suc m) (λ j. h ((j + 0) % suc m)) h (λ j l. ap h (ap (λ (x : ℕ). x % suc m) (add-zero j) ∙ mod-eq_of_lt l))
turns m (suc i) h =
    xor_sum_ext (suc m) (λ j. h ((j + suc i) % suc m)) (λ j. h (((j + 1) % suc m + i) % suc m))
    (λ j l. ap h (let e : j + suc i ≡ j + 1 + i = omega arith in ap (λ (x : ℕ). x % suc m) e ∙ sym (mod-add-mod (j + 1) (suc m) i)))
    ∙ turn m (λ x. h ((x + i) % suc m))
    ∙ turns m i h

xor_sum_cycle : (n : ℕ) → 1 ≤ n → (i : ℕ) (h : ℕ → ℕ) → xor_sum n (λ j. h ((j + i) % n)) ≡ xor_sum n h
xor_sum_cycle zero pos i h = absurd (not-suc-le-zero pos)
xor_sum_cycle (suc m) pos i h = turns m i h

-- ---- bits

bit_of-digit : (k d x : ℕ) → d < 2 → bit_of (d * x) k ≡ d * bit_of x k
bit_of-digit k d x h = linear_bit (λ x. bit_of x k) (λ a b. bit_of-⊕ a b k) d x h

comb_bits : (k : ℕ) (T : List ℕ) (v : ℕ) → bit_of (comb T v) k ≡ xor_sum (length T) (λ j. bit_of v j * entry T j k)
unfolding comb xor_sum
comb_bits k [] v = unfold bit_of in rw zero-div
comb_bits k (t ∷ T) v =
    bit_of-⊕ (v % 2 * t) (comb T (v / 2)) k
    ∙ ap₂ ◌⊕◌ (bit_of-digit k (v % 2) t (mod-two-lt v) ∙ ap (λ (x : ℕ). x * bit_of t k) (sym (bit_of-first v)))
    (comb_bits k T (v / 2) ∙ xor_sum_ext (length T) (λ j. bit_of (v / 2) j * entry T j k) (λ j. bit_of v (suc j) * entry T j k) (λ j l. ap (λ (x : ℕ). x * entry T j k) (bit_of_half v j)))

-- ---- the product by turns, bit by bit

module _ (n : ℕ) (pos : 1 ≤ n) (T : List ℕ) (size : length T ≡ n) (row_lt : (i : ℕ) → i < n → get_or T i 0 < 2 ^ n) where
  once_round : (k : ℕ) → k < n → (k + (n - 0)) % n ≡ k
  once_round k h = let e : k + (n - 0) ≡ k + n = omega arith in ap (λ (x : ℕ). x % n) e ∙ add-mod_right k n ∙ mod-eq_of_lt h

  back : (k i : ℕ) → suc i ≤ n → ((k + (n - 1)) % n + (n - i)) % n ≡ (k + (n - suc i)) % n
  back k i h =
      let e : k + (n - 1) + (n - i) ≡ k + (n - suc i) + n = omega arith in
      mod-add-mod (k + (n - 1)) n (n - i) ∙ ap (λ (x : ℕ). x % n) e ∙ add-mod_right (k + (n - suc i)) n

  on : (j i : ℕ) → ((j + i) % n + 1) % n ≡ (j + suc i) % n
  on j i = let e : j + i + 1 ≡ j + suc i = omega arith in mod-add-mod (j + i) n 1 ∙ ap (λ (x : ℕ). x % n) e

  -- what bit i of u adds to bit k
  part : (u v k i : ℕ) → ℕ
  part u v k i = bit_of u i * xor_sum n (λ j. bit_of v ((j + i) % n) * entry T j ((k + (n - i)) % n))

  part-first : (v k : ℕ) → k < n → bit_of (comb T v) k ≡ xor_sum n (λ j. bit_of v ((j + 0) % n) * entry T j ((k + (n - 0)) % n))
  part-first v k hk =
      comb_bits k T v ∙ ap (λ (z : ℕ). xor_sum z (λ j. bit_of v j * entry T j k)) size
      ∙ xor_sum_ext n (λ j. bit_of v j * entry T j k) (λ j. bit_of v ((j + 0) % n) * entry T j ((k + (n - 0)) % n))
      (λ j l. ap₂ ◌*◌ (ap (bit_of v) (sym (ap (λ (x : ℕ). x % n) (add-zero j) ∙ mod-eq_of_lt l))) (ap (entry T j) (sym (once_round k hk))))

  part-later : (u v k i : ℕ) → v < 2 ^ n → suc i ≤ n → part (u / 2) (rotate_back n v) ((k + (n - 1)) % n) i ≡ part u v k (suc i)
  unfolding part
  part-later u v k i hv h =
      ap₂ ◌*◌ (bit_of_half u i)
      (xor_sum_ext n (λ j. bit_of (rotate_back n v) ((j + i) % n) * entry T j (((k + (n - 1)) % n + (n - i)) % n)) (λ j. bit_of v ((j + suc i) % n) * entry T j ((k + (n - suc i)) % n))
      (λ j l. ap₂ ◌*◌ (rotate_back-bit n pos v ((j + i) % n) hv (mod-lt (j + i) pos) ∙ ap (bit_of v) (on j i)) (ap (entry T j) (back k i h))))

  horner-parts : (m u v k : ℕ) → m ≤ n → v < 2 ^ n → k < n → bit_of (horner_product n T m u v) k ≡ xor_sum m (part u v k)
  unfolding horner_product xor_sum
  horner-parts zero u v k hm hv hk = unfold bit_of in rw zero-div
  horner-parts (suc m) u v k hm hv hk =
      let q : ℕ = horner_product n T m (u / 2) (rotate_back n v) in
      let hw : rotate_back n v < 2 ^ n = rotate_back-lt n pos v hv in
      let k' : ℕ = (k + (n - 1)) % n in
      bit_of-⊕ ((u % 2) * comb T v) (rotate n q) k
      ∙ ap₂ ◌⊕◌
      (bit_of-digit k (u % 2) (comb T v) (mod-two-lt u) ∙ unfold part in ap₂ ◌*◌ (sym (bit_of-first u)) (part-first v k hk))
      (rotate-bit n pos q k (horner_product-lt n pos T row_lt m (u / 2) (rotate_back n v) hw) hk
      ∙ horner-parts m (u / 2) (rotate_back n v) k' (omega arith) hw (mod-lt (k + (n - 1)) pos)
      ∙ xor_sum_ext m (part (u / 2) (rotate_back n v) k') (λ i. part u v k (suc i)) (λ i l. part-later u v k i hv (omega arith)))

  -- ---- document 01's formula

  term : (u v k i j : ℕ) → ℕ
  term u v k i j = bit_of u i * bit_of v j * entry T ((j + (n - i)) % n) ((k + (n - i)) % n)

  home : (j i : ℕ) → j < n → i < n → ((j + i) % n + (n - i)) % n ≡ j
  home j i hj hi =
      let e : j + i + (n - i) ≡ j + n = omega arith in
      mod-add-mod (j + i) n (n - i) ∙ ap (λ (x : ℕ). x % n) e ∙ add-mod_right j n ∙ mod-eq_of_lt hj

  around : (v i q : ℕ) → i < n → xor_sum n (λ j. bit_of v ((j + i) % n) * entry T j q) ≡ xor_sum n (λ j. bit_of v j * entry T ((j + (n - i)) % n) q)
  around v i q hi =
      xor_sum_ext n (λ j. bit_of v ((j + i) % n) * entry T j q) (λ j. bit_of v ((j + i) % n) * entry T (((j + i) % n + (n - i)) % n) q)
      (λ j l. ap (λ (x : ℕ). bit_of v ((j + i) % n) * entry T x q) (sym (home j i l hi)))
      ∙ xor_sum_cycle n pos i (λ j. bit_of v j * entry T ((j + (n - i)) % n) q)

  part_terms : (u v k i : ℕ) → i < n → part u v k i ≡ xor_sum n (term u v k i)
  unfolding part term
  part_terms u v k i l =
      ap (λ (x : ℕ). bit_of u i * x) (around v i ((k + (n - i)) % n) l)
      ∙ xor_sum_scale n (bit_of u i) (λ j. bit_of v j * entry T ((j + (n - i)) % n) ((k + (n - i)) % n)) (bit_of-lt u i)
      ∙ xor_sum_ext n (λ j. bit_of u i * (bit_of v j * entry T ((j + (n - i)) % n) ((k + (n - i)) % n))) (λ j. bit_of u i * bit_of v j * entry T ((j + (n - i)) % n) ((k + (n - i)) % n))
      (λ j h. sym (mul_assoc (bit_of u i) (bit_of v j) _))

  term-lt : (u v k i j : ℕ) → term u v k i j < 2
  unfolding term
  term-lt u v k i j =
      bit-mul-lt (bit_of u i * bit_of v j) (entry T ((j + (n - i)) % n) ((k + (n - i)) % n)) 2 (bit-mul-lt (bit_of u i) (bit_of v j) 2 (bit_of-lt u i) (bit_of-lt v j)) (bit_of-lt _ _)

  pub horner-bit : (u v k : ℕ) → v < 2 ^ n → k < n → bit_of (horner_product n T n u v) k ≡ product_bit n T u v k
  unfolding product_bit
  horner-bit u v k hv hk =
      horner-parts n u v k (le_refl n) hv hk
      ∙ xor_sum_ext n (part u v k) (λ i. xor_sum n (term u v k i)) (λ i l. part_terms u v k i l)
      ∙ sym (total_odd n (λ i. total n (term u v k i))
      ∙ xor_sum_ext n (λ i. total n (term u v k i) % 2) (λ i. xor_sum n (term u v k i))
      (λ i l. total_odd n (term u v k i) ∙ xor_sum_ext n (λ j. term u v k i j % 2) (term u v k i) (λ j h. mod-eq_of_lt (term-lt u v k i j))))
      ∙ unfold term in refl

  -- the faster form equals document 01's
  pub horner-table : (u v : ℕ) → v < 2 ^ n → horner_product n T n u v ≡ table_product n T u v
  unfolding table_product
  horner-table u v hv =
      sym (bits_make n (horner_product n T n u v) (horner_product-lt n pos T row_lt n u v hv))
      ∙ total_ext n (λ k. bit_of (horner_product n T n u v) k * 2 ^ k) (λ k. product_bit n T u v k * 2 ^ k) (λ k h. ap (λ (x : ℕ). x * 2 ^ k) (horner-bit u v k hv h))

-- the product of coordinates is a coordinate number
pub table_product-lt : (n : ℕ) → 1 ≤ n → (T : List ℕ) → length T ≡ n → ((i : ℕ) → i < n → get_or T i 0 < 2 ^ n) → (u v : ℕ) → v < 2 ^ n → table_product n T u v < 2 ^ n
table_product-lt n pos T size row_lt u v hv = rw (← horner-table n pos T size row_lt u v hv) (horner_product-lt n pos T row_lt n u v hv)

-- 0 times a number is 0, through any rows
zero_bit : (n : ℕ) (T : List ℕ) (v k : ℕ) → product_bit n T 0 v k ≡ 0
unfolding product_bit
zero_bit n T v k =
    ap (λ (x : ℕ). x % 2)
    (total-none n (λ i. total n (λ j. bit_of 0 i * bit_of v j * entry T ((j + (n - i)) % n) ((k + (n - i)) % n)))
    (λ i. total-none n (λ j. bit_of 0 i * bit_of v j * entry T ((j + (n - i)) % n) ((k + (n - i)) % n)) (λ j. rw (bit_of-zero i, zero-mul, zero-mul))))

pub table_product-zero : (n : ℕ) (T : List ℕ) (v : ℕ) → table_product n T 0 v ≡ 0
unfolding table_product
table_product-zero n T v = total-none n (λ k. product_bit n T 0 v k * 2 ^ k) (λ k. rw (zero_bit n T v k, zero-mul))

-- "Bit k of a product of normal coordinates", through the table of a normal element: converted to polynomial notation, the product of
-- coordinates is the product of elements
pub table-product : (f n : ℕ) (deg : Degree f n) → 2 ≤ n → squared f n n 2 ≡ 2 → (a : ℕ) → a < 2 ^ n → Independent (conjugates f n a) n → (u v : ℕ) → u < 2 ^ n → v < 2 ^ n
    → comb (conjugates f n a) (table_product n (table_rows f n a) u v) ≡ mul_mod f n (comb (conjugates f n a) u) (comb (conjugates f n a) v)
table-product f n deg big returns a ha free u v hu hv =
    let T : List ℕ = table_rows f n a in
    let tab : Table f n a T = table_rows-table f n deg a ha free in
    let pos : 1 ≤ n = omega arith in
    ap (comb (conjugates f n a)) (sym (horner-table n pos T tab.size tab.row_lt u v hv))
    ∙ horner-product f n deg pos a (squared_fixes f n deg big n returns a ha) T tab u v hu hv
