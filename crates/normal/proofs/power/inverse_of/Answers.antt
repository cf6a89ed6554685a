-- `normal::power::inverse_of` meets its contract. Assumes nothing.
use mathlib.Core.Path.{◌≡◌, ap, ◌∙◌}
use Prim.Native.Nat.{ℕ, ◌-◌}
use native.Mathlib.Omega.{arith}
use Rattle.normal.specs.TableProduct.{rotate}
use Rattle.normal.specs.Powers.{inverse_of}
use Rattle.normal.proofs.Recursion.{power-lt}
use Rattle.normal.specs.Summed.{summed_rows, summed_rows-length}
use Rattle.normal.proofs.power.inverse_of.Goals as goal

-- the power, rotated once
once : (n : ℕ) {result power whole : ℕ} → result ≡ rotate n power → power ≡ whole → result ≡ rotate n whole
once n e g = e ∙ ap (rotate n) g

pub rotated-requires : goal.rotated-requires
rotated-requires c =
    let n = c.args.n in
    let tab = c.requires.0 in
    let S = c.args.sums.now in
    (omega (arith, tab.most), rw c.power_of.ensures (power-lt n tab.one (summed_rows n S) (summed_rows-length n S) tab.row_lt (n - 1) c.args.a c.requires.2))

pub returns : goal.returns
unfolding inverse_of
returns c = once c.args.n c.rotated.ensures c.power_of.ensures
