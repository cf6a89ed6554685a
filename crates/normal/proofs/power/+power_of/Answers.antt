-- `normal::power::power_of` meets its contract: at 1 the power is a itself, and above it is made from the half's, by the parity of k.
-- Assumes nothing.
use mathlib.Core.Path.{◌≡◌, sym, ap, ◌∙◌}
use mathlib.Core.List.{List}
use Prim.Native.Nat.{ℕ, ◌/◌, ◌%◌, ◌^◌, ◌<◌}
use native.Mathlib.Omega.{arith}
use Rattle.gf2.specs.Numbers.{mod-two-lt}
use Rattle.normal.specs.TableProduct.{rotate, rotated_by, table_product}
use Rattle.normal.proofs.Turns.{rotated_by-lt}
use Rattle.normal.proofs.Rotation.{rotate-lt}
use Rattle.normal.proofs.ProductBits.{table_product-lt}
use Rattle.normal.specs.Powers.{power_of}
use Rattle.normal.specs.Recursion.{power-one, power_half_even, power_half_odd}
use Rattle.normal.proofs.Recursion.{power-lt}
use Rattle.normal.specs.Summed.{summed_rows, Summed, summed_rows-length}
use Rattle.normal.proofs.power.+power_of.Goals as goal

-- ---- the numbers are below 2 ^ n

module _ (n : ℕ) (sums : List ℕ) (tables : Summed n sums) where
  half_lt : (k a half : ℕ) → a < 2 ^ n → half ≡ power_of n (summed_rows n sums) k a → half < 2 ^ n
  half_lt k a half h e = rw e (power-lt n tables.one (summed_rows n sums) (summed_rows-length n sums) tables.row_lt k a h)

  turned_lt : (i half turned : ℕ) → half < 2 ^ n → turned ≡ rotated_by n i half → turned < 2 ^ n
  turned_lt i half turned h e = rw e (rotated_by-lt n tables.one i half h)

  product_lt : (u v product : ℕ) → v < 2 ^ n → product ≡ table_product n (summed_rows n sums) u v → product < 2 ^ n
  product_lt u v product h e = rw e (table_product-lt n tables.one (summed_rows n sums) (summed_rows-length n sums) tables.row_lt u v h)

  next_lt : (even next : ℕ) → even < 2 ^ n → next ≡ rotate n even → next < 2 ^ n
  next_lt even next h e = rw e (rotate-lt n tables.one even h)

-- ---- the goals

pub returns-then-k-eq1 : goal.returns-then-k-eq1
returns-then-k-eq1 t c =
    let n = c.args.n in
    let S = c.args.sums.now in
    let a = c.args.a in
    sym (ap (λ (k : ℕ). power_of n (summed_rows n S) k a) c.if-k-eq1.true ∙ power-one n (summed_rows n S) a)

pub power_of-half-requires : goal.power_of-half-requires
power_of-half-requires t c =
    let above : 1 < c.args.k = omega (arith, c.requires.1, c.if-k-eq1.false) in
    (rw (sym c.decreases) (omega (arith, above)), (c.requires.0, omega (arith, above), c.requires.2))

pub rotated_by-requires : goal.rotated_by-requires
rotated_by-requires t c =
    let tab = c.requires.0 in
    (tab.one, omega (arith, tab.most), half_lt c.args.n c.args.sums.now tab (c.args.k / 2) c.args.a c.power_of-half.result c.requires.2 c.power_of-half.ensures)

pub product_by_bytes-even-requires : goal.product_by_bytes-even-requires
product_by_bytes-even-requires t c =
    let n = c.args.n in
    let S = c.args.sums.now in
    let k = c.args.k in
    let tab = c.requires.0 in
    let half = c.power_of-half.result in
    let hh = half_lt n S tab (k / 2) c.args.a half c.requires.2 c.power_of-half.ensures in
    (tab, turned_lt n S tab (k / 2) half c.rotated_by.result hh c.rotated_by.ensures, hh)

pub rotated-requires : goal.rotated-requires
rotated-requires t c =
    let n = c.args.n in
    let S = c.args.sums.now in
    let tab = c.requires.0 in
    let half = c.power_of-half.result in
    let even = c.product_by_bytes-even in
    let hh = half_lt n S tab (c.args.k / 2) c.args.a half c.requires.2 c.power_of-half.ensures in
    (omega (arith, tab.most), product_lt n S tab c.rotated_by.result half even.result hh even.ensures)

pub product_by_bytes-requires : goal.product_by_bytes-requires
product_by_bytes-requires t c =
    let n = c.args.n in
    let S = c.args.sums.now in
    let tab = c.requires.0 in
    let ha = c.requires.2 in
    let half = c.power_of-half.result in
    let even = c.product_by_bytes-even in
    let hh = half_lt n S tab (c.args.k / 2) c.args.a half ha c.power_of-half.ensures in
    let he = product_lt n S tab c.rotated_by.result half even.result hh even.ensures in
    (tab, next_lt n S tab even.result c.rotated.result he c.rotated.ensures, ha)

pub returns-then-k-eq0 : goal.returns-then-k-eq0
returns-then-k-eq0 t c =
    let k = c.args.k in
    let above : 1 < k = omega (arith, c.requires.1, c.if-k-eq1.false) in
    power_half_even c.args.n (summed_rows c.args.n c.args.sums.now) c.args.a k c.power_of-half.result c.rotated_by.result c.product_by_bytes-even.result above c.if-k-eq0.true
    c.power_of-half.ensures c.rotated_by.ensures c.product_by_bytes-even.ensures

pub returns : goal.returns
returns t c =
    let k = c.args.k in
    let above : 1 < k = omega (arith, c.requires.1, c.if-k-eq1.false) in
    let odd : k % 2 ≡ 1 = omega (arith, mod-two-lt k, c.if-k-eq0.false) in
    power_half_odd c.args.n (summed_rows c.args.n c.args.sums.now) c.args.a k c.power_of-half.result c.rotated_by.result c.product_by_bytes-even.result c.rotated.result c.product_by_bytes.result
    above odd c.power_of-half.ensures c.rotated_by.ensures c.product_by_bytes-even.ensures c.rotated.ensures c.product_by_bytes.ensures
