-- The products of one a by the numbers below 16: all are sums of those by 1, 2, 4 and 8.
--
--   multiples_of f n a   entry d: a times d, for d below 16
--
-- Assumes nothing.
use Rattle.std.specs.Prelude.{◌≡◌, ℕ, ◌<◌, List, [], ◌∷◌, bit_xor, slice_index}
use Rattle.gf2.specs.Poly.{◌⊕◌, mul_mod}
use Rattle.normal.specs.Normal.{listed}
use Rattle.normal.specs.Coordinates.{listed_at}

unfoldable pub multiples_of : (f n a : ℕ) → List ℕ
multiples_of f n a = listed 16 (λ d. mul_mod f n a d)

pub multiples-at : (f n a d : ℕ) → d < 16 → slice_index (multiples_of f n a) d ≡ mul_mod f n a d
unfolding multiples_of
multiples-at f n a = listed_at 16 (λ d. mul_mod f n a d)

-- all are sums of those at 1, 2, 4 and 8
pub sums-listed : (g : ℕ → ℕ) → ((x y : ℕ) → g (x ⊕ y) ≡ g x ⊕ g y) → g 0 ≡ 0 → (a b c d : ℕ) → a ≡ g 1 → b ≡ g 2 → c ≡ g 4 → d ≡ g 8
    → (ab cd : ℕ) → ab ≡ bit_xor b a → cd ≡ bit_xor d c
    → 0 ∷ a ∷ b ∷ ab ∷ c ∷ bit_xor c a ∷ bit_xor c b ∷ bit_xor c ab ∷ d ∷ bit_xor d a ∷ bit_xor d b ∷ bit_xor d ab ∷ cd ∷ bit_xor cd a ∷ bit_xor cd b ∷ bit_xor cd ab ∷ []
    ≡ listed 16 g
unfolding listed ◌⊕◌
sums-listed g lin z a b c d ea eb ec ed ab cd eab ecd =
    rw (ecd, eab, ea, eb, ec, ed, z, lin 12 3, lin 12 2, lin 12 1, lin 8 4, lin 8 3, lin 8 2, lin 8 1, lin 4 3, lin 4 2, lin 4 1, lin 2 1)
