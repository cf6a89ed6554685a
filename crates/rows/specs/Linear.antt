-- Linear functions of numbers: those that turn a sum into the sum of their values.
--
--   Linear f     f (v ⊕ w) ≡ f v ⊕ f w
--
-- In order: values at 0 and at a coefficient times a number; two linear functions that agree at the powers of two below 2 ^ n
-- agree below 2 ^ n (`linear_ext`); what is built of linear functions.
-- Assumes nothing.
use Rattle.std.specs.Prelude.{◌≡◌, refl, ℕ, zero, suc, ◌*◌, ◌/◌, ◌%◌, ◌^◌, ◌<◌}
use Rattle.std.proofs.Common.{sym, ap, ap₂, ◌∙◌, ⊎_elim, zero-mul, one-mul, mod-lt, one-add, arith, pow_pos, shr_lt}
use Rattle.std.proofs.Math.Arith.{lt-one}
use Rattle.std.proofs.Math.Pow.{split}
use Rattle.gf2.specs.Poly.{◌⊕◌}
use Rattle.gf2.specs.Numbers.{bit_cases}
use Rattle.gf2.specs.Sum.{zero-⊕, ⊕_self, ⊕-four, ⊕-low, ⊕_shl}

abbrev pub Linear : (f : ℕ → ℕ) → Type 0
Linear f = (v w : ℕ) → f (v ⊕ w) ≡ f v ⊕ f w

pub linear_zero : (f : ℕ → ℕ) → Linear f → f 0 ≡ 0
linear_zero f l = ap f (sym (zero-⊕ 0)) ∙ l 0 0 ∙ ⊕_self (f 0)

pub linear_bit : (f : ℕ → ℕ) → Linear f → (d x : ℕ) → d < 2 → f (d * x) ≡ d * f x
linear_bit f l d x h =
    ⊎_elim
    (λ (e : d ≡ 0). rw (e, zero-mul x, zero-mul) (linear_zero f l))
    (λ (e : d ≡ 1). rw (e, one-mul x, one-mul))
    (bit_cases d h)

-- the digits from place k upward, and those below
pub high-apart : (k v : ℕ) → v / 2 ^ k * 2 ^ k ⊕ v % 2 ^ k ≡ v
high-apart k v = ⊕-low (v / 2 ^ k) k (v % 2 ^ k) (mod-lt v (pow_pos k)) ∙ split v k

pub linear_ext : (f g : ℕ → ℕ) → Linear f → Linear g → (n : ℕ) → ((c : ℕ) → c < n → f (2 ^ c) ≡ g (2 ^ c)) → (v : ℕ) → v < 2 ^ n → f v ≡ g v
linear_ext f g lf lg zero h v b = rw (lt-one b) (linear_zero f lf ∙ sym (linear_zero g lg))
linear_ext f g lf lg (suc n) h v b =
    let q : ℕ = v / 2 ^ n in
    let d : q < 2 = shr_lt 1 n (rw one-add b) in
    ap f (sym (high-apart n v))
    ∙ lf (q * 2 ^ n) (v % 2 ^ n)
    ∙ ap₂ ◌⊕◌
    (linear_bit f lf q (2 ^ n) d ∙ ap (λ (x : ℕ). q * x) (h n (omega arith)) ∙ sym (linear_bit g lg q (2 ^ n) d))
    (linear_ext f g lf lg n (λ c l. h c (omega arith)) (v % 2 ^ n) (mod-lt v (pow_pos n)))
    ∙ sym (lg (q * 2 ^ n) (v % 2 ^ n))
    ∙ ap g (high-apart n v)

-- ---- built of linear functions

pub linear_same : Linear (λ v. v)
linear_same v w = refl

pub linear_after : (f g : ℕ → ℕ) → Linear f → Linear g → Linear (λ v. f (g v))
linear_after f g lf lg v w = ap f (lg v w) ∙ lf (g v) (g w)

pub linear_⊕ : (f g : ℕ → ℕ) → Linear f → Linear g → Linear (λ v. f v ⊕ g v)
linear_⊕ f g lf lg v w = ap₂ ◌⊕◌ (lf v w) (lg v w) ∙ ⊕-four (f v) (f w) (g v) (g w)

pub linear_shift : (k : ℕ) → Linear (λ v. v * 2 ^ k)
linear_shift k v w = ⊕_shl v w k
