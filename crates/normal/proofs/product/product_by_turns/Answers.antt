-- `normal::product::product_by_turns` meets its contract: the goals that the check leaves. Its loop is told in `Invariants.antt`. Assumes nothing.
use Rattle.std.proofs.Common.{◌≡◌, List, ℕ, ◌-◌, ◌*◌, ◌/◌, ◌%◌, ◌^◌, ◌≤◌, ◌<◌, arith, ap, ◌∙◌}
use lib.Bits.{bit_xor}
use Rattle.rows.specs.Rows.{comb}
use Rattle.normal.specs.TableProduct.{rotate, table_product, SumsRows}
use Rattle.normal.proofs.Rotation.{rotate-lt}
use Rattle.normal.specs.Turns.{Taken, taken_none}
use Rattle.normal.proofs.Turns.{turned_lt, product_lt, taken_next, taken-all}
use Rattle.normal.proofs.product.product_by_turns.Goals as goal

module _ (n : ℕ) (pos : 1 ≤ n) (T : List ℕ) (answers : ℕ → ℕ → Type 0) (S : SumsRows n T answers) (a b : ℕ) (hb : b < 2 ^ n) (product turned i : ℕ) (inv : Taken n T a b product turned i) where
  turned-small : turned < 2 ^ n
  turned-small = turned_lt n pos T S.size S.row_lt a b hb product turned i inv

  product_small : product < 2 ^ n
  product_small = product_lt n pos T S.size S.row_lt a b hb product turned i inv

  turn : 0 < i → (turned' product' part row : ℕ) → turned' ≡ rotate n turned → product' ≡ rotate n product → answers turned' row → part ≡ (a / 2 ^ (i - 1) % 2) * row
      → Taken n T a b (bit_xor product' part) turned' (i - 1)
  turn p turned' product' part row et ep answered e =
      let small : turned' < 2 ^ n = rw et (rotate-lt n pos turned turned-small) in
      taken_next n pos T S.size S.row_lt a b hb product turned i inv p turned' product' part row et ep
      (S.sums turned' row small answered ∙ ap (comb T) et) e

  done : i ≡ 0 → product ≡ table_product n T a b
  done z = taken-all n pos T S.size S.row_lt a b hb product turned i inv z

pub loop-i-init : goal.loop-i-init
loop-i-init g c = λ T S. taken_none c.args.n T c.args.a c.args.b

pub rotated-turned-requires : goal.rotated-turned-requires
rotated-turned-requires g c =
    let r = c.requires.rows in
    (omega (arith, c.requires.degree.1), turned-small c.args.n c.requires.degree.0 r.0 _ r.1 c.args.a c.args.b c.requires.operand c.loop-i.product c.loop-i.turned c.loop-i.i (c.loop-i.invariant r.0 r.1))

pub sum-row-requires : goal.sum-row-requires
sum-row-requires g c =
    let r = c.requires.rows in
    c.requires.callable c.rotated-turned.result
    (rw c.rotated-turned.ensures
    (rotate-lt c.args.n c.requires.degree.0 c.loop-i.turned (turned-small c.args.n c.requires.degree.0 r.0 _ r.1 c.args.a c.args.b c.requires.operand c.loop-i.product c.loop-i.turned c.loop-i.i (c.loop-i.invariant r.0 r.1))))

pub rotated-requires : goal.rotated-requires
rotated-requires g c =
    let r = c.requires.rows in
    (omega (arith, c.requires.degree.1), product_small c.args.n c.requires.degree.0 r.0 _ r.1 c.args.a c.args.b c.requires.operand c.loop-i.product c.loop-i.turned c.loop-i.i (c.loop-i.invariant r.0 r.1))

pub loop-i-preserved : goal.loop-i-preserved
loop-i-preserved g c = λ T S.
    turn c.args.n c.requires.degree.0 T _ S c.args.a c.args.b c.requires.operand c.loop-i.product c.loop-i.turned c.loop-i.i (c.loop-i.invariant T S) c.loop-i-test.true
    c.rotated-turned.result c.rotated.result c.picked.result c.sum-row.result c.rotated-turned.ensures c.rotated.ensures c.sum-row.ensures c.picked.ensures

pub returns : goal.returns
returns g c = λ T S.
    done c.args.n c.requires.degree.0 T _ S c.args.a c.args.b c.requires.operand c.loop-i.product c.loop-i.turned c.loop-i.i (c.loop-i.invariant T S) (omega arith)
