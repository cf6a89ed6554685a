-- The search of a whole field: its best is no worse than any normal element, leader or not; nothing is found only where there is none.
-- Assumes nothing.
use Rattle.std.specs.Prelude.{◌≡◌, true, ℕ, ◌-◌, ◌^◌, ◌≤◌, ◌<◌}
use Rattle.std.proofs.Math.Path.{ap}
use Rattle.std.proofs.Common.{◌∙◌, arith}
use Rattle.gf2.specs.Poly.{Degree}
use Rattle.field.specs.Field.{squared}
use Rattle.normal.specs.Normal.{normal, complexity}
use Rattle.search.specs.Search.{complexity_at, normal_leader, ranged}
use Rattle.search.specs.Leaders.{leader_exists, leader-normal}
use Rattle.search.specs.Walks.{normal-leader}
use Rattle.search.proofs.Named.{ranged-named, ranged-nothing}
use Rattle.search.specs.declared.answer.Best.{Best}
use Rattle.search.specs.declared.answer.Search.TheVariants.{Nothing, Found}

module _ (f n : ℕ) (deg : Degree f n) (big : 2 ≤ n) (returns : squared f n n 2 ≡ 2) (a : ℕ) (ha : a < 2 ^ n) (e : normal f n a ≡ true) where
  -- the leader of a normal element: normal, of the same complexity, and no larger
  leading : (l : ℕ) × (normal_leader f n l ≡ true) × (complexity_at f n l ≡ complexity_at f n a) × (l ≤ a)
  unfolding complexity_at
  leading =
      let s = leader_exists f n deg big returns a ha in
      let t = leader-normal f n deg big returns a ha s.0 s.1 e in
      (s.0, normal-leader f n s.0 s.1.leads t.0, ap complexity t.1, s.1.least)

  pub whole-best : (x : Best) → ranged f n 0 (2 ^ n - 1) ≡ Found x
      → (x.complexity ≤ complexity_at f n a) × (complexity_at f n a ≡ x.complexity → x.element ≤ a)
  whole-best x p =
      let s = ranged-named f n 0 (2 ^ n - 1) (omega arith) x p in
      let d = leading in
      let u : d.0 ≤ 2 ^ n - 1 = omega (arith, d.3) in (
        rw d.2 at (s.fewest d.0 (omega arith) u d.1),
        λ q. omega (arith, s.smallest d.0 (omega arith) u d.1 (d.2 ∙ q), d.3),
      )

  pub whole-nothing : ranged f n 0 (2 ^ n - 1) ≡ Nothing → ⊥
  whole-nothing p =
      let d = leading in
      (ranged-nothing f n 0 (2 ^ n - 1) (omega arith)).0 p d.0 (omega arith) (omega (arith, d.3)) d.1
