-- Powers, inverse and quotient of normal coordinates, through a table's rows as they stand (document 02, §1). Definitions alone. `Recursion`
-- proves that `power_of` satisfies the three sentences of §1, and that nothing else does; `Standing` what it stands for through the table of a
-- normal element. Through other rows "power" and "inverse" are names of these steps.
--
--   even_power n rows h p      "the power for h, rotated h places, times that power", where that power is p
--   odd_power n rows p a       "the power for k-1, rotated once, times a", where the power for k-1 is p
--   power_within steps ..      the power for k, if so many steps are enough
--   power_of n rows k a        the power of a with exponent 2^k-1, for k from 1
--   inverse_of n rows a        the inverse of a
--   quotient_of n rows b a     b divided by a
--
-- Through rows that no builder wrote the product need not be commutative: in each product the rotated factor stands first, and the dividend
-- before the inverse.
-- Assumes nothing.
use Rattle.std.specs.Prelude.{cond, List, ℕ, zero, suc, ◌-◌, ◌/◌, ◌%◌, leb, eqb}
use Rattle.normal.specs.TableProduct.{rotate, rotated_by, table_product}

abbrev pub even_power : (n : ℕ) (rows : List ℕ) (h p : ℕ) → ℕ
even_power n rows h p = table_product n rows (rotated_by n h p) p

abbrev pub odd_power : (n : ℕ) (rows : List ℕ) (p a : ℕ) → ℕ
odd_power n rows p a = table_product n rows (rotate n p) a

-- "For k = 1 it is a. For k = 2h it is the power for h, rotated h places, times that power. For odd k above 1 it is the power for k-1,
-- rotated once, times a." Half of that k-1 is half of k, rounded down.
unfoldable pub power_within : (steps n : ℕ) (rows : List ℕ) (k a : ℕ) → ℕ
power_within zero n rows k a = a
power_within (suc steps) n rows k a =
    cond (leb k 1) a
    (cond (eqb (k % 2) 0) (even_power n rows (k / 2) (power_within steps n rows (k / 2) a)) (odd_power n rows (power_within steps n rows (k - 1) a) a))

-- each step makes k smaller, so k steps are enough
unfoldable pub power_of : (n : ℕ) (rows : List ℕ) (k a : ℕ) → ℕ
power_of n rows k a = power_within k n rows k a

-- "The inverse is the power for n-1, rotated once"
unfoldable pub inverse_of : (n : ℕ) (rows : List ℕ) (a : ℕ) → ℕ
inverse_of n rows a = rotate n (power_of n rows (n - 1) a)

-- "a quotient is the dividend times the inverse"
unfoldable pub quotient_of : (n : ℕ) (rows : List ℕ) (b a : ℕ) → ℕ
quotient_of n rows b a = table_product n rows b (inverse_of n rows a)
