-- `rows::inversion::place` meets its contract: the goals that the check leaves. Its loop is told in `Invariants.antt`. Assumes nothing.
use mathlib.Core.Path.{◌≡◌, refl, ap, ◌∙◌}
use mathlib.Core.List.{List}
use Prim.Native.Nat.{ℕ, ◌+◌}
use native.Mathlib.Omega.{arith}
use lib.ListN.{set, get_or}
use Rattle.gf2.specs.Poly.{◌⊕◌}
use Rattle.rows.specs.Bits.{bit_of}
use Rattle.rows.specs.Added.{added, added-past, added_turn}
use Rattle.rows.proofs.inversion.place.Goals as goal

pub loop-i-init : goal.loop-i-init
unfolding added
loop-i-init c = (refl, refl)

pub loop-i-preserved : goal.loop-i-preserved
unfolding ◌⊕◌ bit_of
loop-i-preserved c =
    let s = c.args in
    let i = c.loop-i.i in
    let heads = s.reduced.now in
    let head = get_or c.loop-i.reduced i 0 in
    let same : head ≡ get_or heads i 0 = ap (λ (r : List ℕ). get_or r i 0) c.loop-i.invariant.0 ∙ added-past s.column s.row heads heads i i (omega arith) in
    let part = c.picked in
    let row-turn : set c.loop-i.reduced i (head ⊕ part.result) ≡ added (i + 1) s.column s.row heads heads =
    added_turn s.column s.row heads heads i c.loop-i.reduced head part.result c.loop-i.invariant.0 same part.ensures in
    let name-turn : set c.loop-i.names i (get_or c.loop-i.names i 0 ⊕ c.picked-in-loop-i.result) ≡ added (i + 1) s.column s.name heads s.names.now =
    added_turn s.column s.name heads s.names.now i c.loop-i.names head c.picked-in-loop-i.result c.loop-i.invariant.1 same c.picked-in-loop-i.ensures in
    (row-turn, name-turn)

pub returns : goal.returns
returns c =
    let s = c.args in
    let e : s.count ≡ c.loop-i.i = omega arith in record {
      rows = rw e (ap (λ (r : List ℕ). set r s.column s.row) c.loop-i.invariant.0);
      follow = rw e (ap (λ (r : List ℕ). set r s.column s.name) c.loop-i.invariant.1);
    }
