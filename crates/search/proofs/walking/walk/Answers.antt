-- `search::walking::walk` meets its contract: up to the first normal leader nothing is added, and on from it the walk joins.
-- Assumes nothing.
use mathlib.Core.Path.{◌≡◌, refl, sym, ap, ◌∙◌}
use mathlib.Core.Bool.{true}
use Prim.Native.Nat.{◌+◌}
use native.Mathlib.Omega.{arith}
use Rattle.elements.specs.declared.modulus.Modulus.{Modulus}
use Rattle.search.specs.Search.{normal_leader}
use Rattle.search.specs.Joining.{as_answer}
use Rattle.search.specs.Walks.{leader_is_normal}
use Rattle.search.specs.Begun.{PartOf, FirstFrom}
use Rattle.search.proofs.Begun.{begun_nothing, begun_found}
use Rattle.search.proofs.walking.walk.Goals.{After-new-m, After-new-tables}
use Rattle.search.proofs.walking.walk.Goals as goal

-- the modulus is f
m_f : (t : After-new-m) → t.new-m.result.f ≡ t.args.ring.f
m_f t = t.new-m.ensures.0 ∙ t.new-squares.ensures.0

m_n : (t : After-new-m) → t.new-m.result.n ≡ t.args.ring.n
m_n t = t.new-m.ensures.1 ∙ t.new-squares.ensures.1

pub first_normal-requires : goal.first_normal-requires
first_normal-requires c =
    let part : PartOf c.args.ring.n c.args.first c.args.last = record { within = omega (arith, c.requires.0.ordered); elements = c.requires.0.elements } in
    record {
      of_squares = (sym c.new-m.ensures.0, sym c.new-m.ensures.1);
      part = rw (m_n (goal.at.first_normal-requires c).After-new-m) part;
    }

pub new-reference-requires : goal.new-reference-requires
new-reference-requires c =
    let m = (goal.at.new-reference-requires c).After-new-m in
    let first = c.in-Some.ensures in
    let passes : normal_leader c.args.ring.f c.args.ring.n c.in-Some.b ≡ true = rw (m_f m, m_n m) at first.1.passes first.0 in (
      record { of_field = c.requires.0.of_field; below = omega (arith, first.0, c.requires.0.elements) },
      leader_is_normal c.args.ring.f c.args.ring.n c.in-Some.b passes,
    )

pub new-tables-requires : goal.new-tables-requires
new-tables-requires c =
    let m = (goal.at.new-tables-requires c).After-new-m in
    record {
      of_squares = (sym c.new-m.ensures.0, sym c.new-m.ensures.1);
      of_reference = (c.new-reference.ensures.0 ∙ sym (m_f m), c.new-reference.ensures.1 ∙ sym (m_n m));
      of_uppers = rw (c.new-reference.ensures.0 ∙ sym (m_f m), c.new-reference.ensures.1 ∙ sym (m_n m)) at c.upper_sums.ensures;
    }

-- and so are the tables
tables_f : (t : After-new-tables) (m : After-new-m) → t.new-m.result ≡ m.new-m.result → t.new-tables.result.modulus.f ≡ m.args.ring.f
tables_f t m e = ap (λ (m : Modulus). m.f) (t.new-tables.ensures.1 ∙ e) ∙ m_f m

tables_n : (t : After-new-tables) (m : After-new-m) → t.new-m.result ≡ m.new-m.result → t.new-tables.result.modulus.n ≡ m.args.ring.n
tables_n t m e = ap (λ (m : Modulus). m.n) (t.new-tables.ensures.1 ∙ e) ∙ m_n m

pub walk_on-requires : goal.walk_on-requires
walk_on-requires c =
    let first = c.in-Some.ensures in
    let part : PartOf c.args.ring.n c.in-Some.b c.args.last = record { within = first.1.upto; elements = c.requires.0.elements } in
    let place = goal.at.walk_on-requires c in
    (rw (tables_n place.After-new-tables place.After-new-m refl) part, omega (arith, c.requires.1, first.1.since))

pub returns-in-None : goal.returns-in-None
returns-in-None c =
    let m = (goal.at.returns-in-None c).After-new-m in
    let begun : FirstFrom c.args.ring.f c.args.ring.n (normal_leader c.args.ring.f c.args.ring.n) c.args.first c.args.last (c.args.last + 1) = rw (m_f m, m_n m) at c.in-None.ensures in
    begun_nothing c.args.ring.f c.args.ring.n c.args.first c.args.last (c.args.last + 1) (normal_leader c.args.ring.f c.args.ring.n) begun (as_answer c.args.held) (omega arith)

pub returns-in-Some : goal.returns-in-Some
returns-in-Some c =
    let f = c.args.ring.f in
    let n = c.args.ring.n in
    let place = goal.at.returns-in-Some c in
    let m = place.After-new-m in
    let begun : FirstFrom f n (normal_leader f n) c.args.first c.args.last c.in-Some.b = rw (m_f m, m_n m) at c.in-Some.ensures.1 in
    begun_found f n c.args.first c.args.last c.in-Some.b (normal_leader f n) begun (as_answer c.args.held) (as_answer c.walk_on.result)
    (rw (tables_f place.After-new-tables m refl, tables_n place.After-new-tables m refl) at c.walk_on.ensures)
