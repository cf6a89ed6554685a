-- The laws of `specs/Begun.antt` that a wrong definition breaks, and what rests on them. The head there tells of both files.
-- Assumes nothing.
use Rattle.std.specs.Prelude.{◌≡◌, Bool, false}
use Rattle.std.proofs.Common.{sym, ◌∙◌, arith}
use Rattle.std.proofs.Math.Path.{ap, ap₂}
use Prim.Native.Nat.{ℕ, suc, ◌+◌, ◌-◌, ◌≤◌, ◌<◌}
use Rattle.search.specs.Search.{normal_leader, joined, candidate_of, walked, ranged, count_of}
use Rattle.search.specs.Joined.{joined-nothing, nothing-joined}
use Rattle.search.proofs.Joined.{joined_assoc, joined-count-le}
use Rattle.search.specs.Walks.{candidate_none, candidate_count-le}
use Rattle.search.proofs.Walks.{walked_none, walked_next, walked_cut}
use Rattle.search.specs.declared.answer.Search.{Search}
use Rattle.search.specs.declared.answer.Search.TheVariants.{Nothing}
use Rattle.search.specs.Begun.{FirstFrom}

-- ---- elements that add nothing

pub walked_start : (f n first : ℕ) → walked f n first (first - first) ≡ Nothing
walked_start f n first = let z : first - first ≡ 0 = omega arith in rw z (walked_none f n first)

module _ (f n first a : ℕ) (h : first ≤ a) where
  -- one more element
  walked_to : walked f n first (a + 1 - first) ≡ joined (walked f n first (a - first)) (candidate_of f n a)
  walked_to =
      let s : a + 1 - first ≡ suc (a - first) = omega arith in
      let t : first + (a - first) ≡ a = omega arith in
      ap (walked f n first) s ∙ walked_next f n first (a - first) ∙ ap (λ (x : ℕ). joined (walked f n first (a - first)) (candidate_of f n x)) t

  pub first_turn : walked f n first (a - first) ≡ Nothing → normal_leader f n a ≡ false → walked f n first (a + 1 - first) ≡ Nothing
  unfolding joined
  first_turn e p = walked_to ∙ ap₂ joined e (candidate_none f n a p)

  -- from a on to the next that passes
  walked_skip : (r : ℕ) → a ≤ r → walked f n a (r - a) ≡ Nothing → walked f n first (r - first) ≡ walked f n first (a - first)
  walked_skip r l e =
      let s : r - first ≡ (a - first) + (r - a) = omega arith in
      let t : first + (a - first) ≡ a = omega arith in
      ap (walked f n first) s ∙ walked_cut f n first (a - first) (r - a)
      ∙ ap (joined (walked f n first (a - first))) (ap (λ (x : ℕ). walked f n x (r - a)) t ∙ e)
      ∙ joined-nothing (walked f n first (a - first))

-- ---- up to the first

module _ (f n first last a r : ℕ) (h : first ≤ a) (t : ℕ → Bool) (next : FirstFrom f n t a last r) where
  pub first_skip : walked f n first (a - first) ≡ Nothing → walked f n first (r - first) ≡ Nothing
  first_skip e = walked_skip f n first a h r next.since next.none ∙ e

  pub next_skip : (held x : Search) → x ≡ joined held (walked f n first (a - first)) → x ≡ joined held (walked f n first (r - first))
  next_skip held x e = e ∙ ap (joined held) (sym (walked_skip f n first a h r next.since next.none))

module _ (f n first last r : ℕ) (t : ℕ → Bool) (begun : FirstFrom f n t first last r) where
  -- what is before the first adds nothing
  begun_rest : ranged f n first last ≡ walked f n r (last + 1 - r)
  unfolding ranged
  begun_rest =
      let s : suc last - first ≡ (r - first) + (last + 1 - r) = omega (arith, begun.since, begun.upto) in
      let t : first + (r - first) ≡ r = omega (arith, begun.since) in
      ap (walked f n first) s
      ∙ walked_cut f n first (r - first) (last + 1 - r)
      ∙ ap₂ joined begun.none (ap (λ (x : ℕ). walked f n x (last + 1 - r)) t)
      ∙ nothing-joined (walked f n r (last + 1 - r))

  -- nothing is there
  pub begun_nothing : (held : Search) → last < r → held ≡ joined held (ranged f n first last)
  begun_nothing held h =
      let z : last + 1 - r ≡ 0 = omega (arith, begun.upto) in
      sym (ap (joined held) (begun_rest ∙ ap (walked f n r) z ∙ walked_none f n r) ∙ joined-nothing held)

  -- the first is there, and it is joined with the rest of the range
  pub begun_found : (held w : Search) → w ≡ joined held (walked f n r (last + 1 - r)) → w ≡ joined held (ranged f n first last)
  begun_found held w e = e ∙ ap (joined held) (sym begun_rest)

-- ---- on from there

pub next_start : (f n next : ℕ) (held : Search) → held ≡ joined held (walked f n next (next - next))
next_start f n next held = sym (ap (joined held) (walked_start f n next) ∙ joined-nothing held)

module _ (f n next a : ℕ) (h : next ≤ a) (held x z : Search) (ez : z ≡ joined x (candidate_of f n a)) where
  pub next_turn : x ≡ joined held (walked f n next (a - next)) → z ≡ joined held (walked f n next (a + 1 - next))
  next_turn ex =
      ez ∙ ap (λ (y : Search). joined y (candidate_of f n a)) ex
      ∙ joined_assoc held (walked f n next (a - next)) (candidate_of f n a)
      ∙ ap (joined held) (sym (walked_to f n next a h))

  -- the count stays within what has been walked
  pub next-count : count_of x ≤ a → count_of z ≤ a + 1
  next-count l =
      let e : count_of z ≤ count_of x + count_of (candidate_of f n a) = rw ez (joined-count-le x (candidate_of f n a)) in
      omega (arith, candidate_count-le f n a)
