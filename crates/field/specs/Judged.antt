-- What a judgement says that hands out the polynomial with its degree: of an order that begins with condition 1, either the verdict is clear,
-- and the ring is that of f, or it is the refusal.
--
--   Judged f rules result   what is said of the result
--   judged_unique           any two results of which it is said are equal
--
-- Assumes nothing.
use Rattle.std.specs.Prelude.{◌≡◌, List, ℕ, Result, Ok, Err, MatchResult}
use Rattle.std.specs.Coded.{le_prop}
use Rattle.std.proofs.Common.{sym, ap, ap₂, ◌∙◌, subst}
use Rattle.gf2.specs.Poly.{degree}
use Rattle.refusals.specs.declared.answer.Refusal.{Refusal}
use Rattle.refusals.specs.Verdicts.{Rule, clear, refuse, first_of}
use Rattle.refusals.specs.Answers.{refusal_at}
use Rattle.refusals.specs.Orders.{refuse_not_clear}
use Rattle.refusals.specs.Telling.{refuse-parts}
use Rattle.field.specs.Accepted.{InRange}
use Rattle.field.specs.declared.ring.Ring.{Ring}

abbrev pub Judged : (f : ℕ) → List Rule → Result Ring Refusal → Type 0
Judged f rules result =
    MatchResult result (λ ring. (ring.f ≡ f) × (ring.n ≡ degree f) × (first_of rules ≡ clear)) (λ refusal. first_of rules ≡ refuse refusal.fault refusal.place)

-- ---- one result alone

in_range_prop : (f n : ℕ) → IsProp (InRange f n)
in_range_prop f n = hlevel le_prop

abbrev ring_of : (f n : ℕ) → InRange f n → Ring
ring_of f n x = record { f = f; n = n; in_range = x }

-- a ring is its polynomial and its degree: that they are in range has one proof
ring_unique : (r s : Ring) → r.f ≡ s.f → r.n ≡ s.n → r ≡ s
ring_unique r s p q =
    let same : (x : InRange r.f r.n) → r ≡ ring_of r.f r.n x = λ x. ap (ring_of r.f r.n) (in_range_prop r.f r.n r.in_range x) in
    let degree_too : (x : InRange r.f s.n) → r ≡ ring_of r.f s.n x = subst (λ (m : ℕ). (x : InRange r.f m) → r ≡ ring_of r.f m x) q same in
    subst (λ (g : ℕ). (x : InRange g s.n) → r ≡ ring_of g s.n x) p degree_too s.in_range

refusal_unique : (one other : Refusal) → refuse one.fault one.place ≡ refuse other.fault other.place → one ≡ other
refusal_unique one other e =
    let parts = refuse-parts one.fault one.place other.fault other.place e in ap₂ refusal_at parts.0 parts.1

-- any two results that such a promise permits are equal
pub judged_unique : (f : ℕ) (rules : List Rule) (one other : Result Ring Refusal) → Judged f rules one → Judged f rules other → one ≡ other
judged_unique f rules (Ok r) (Ok s) a b = ap Ok (ring_unique r s (a.0 ∙ sym b.0) (a.1 ∙ sym b.1))
judged_unique f rules (Ok r) (Err e) a b = absurd (refuse_not_clear e.fault e.place (sym b ∙ a.2))
judged_unique f rules (Err e) (Ok s) a b = absurd (refuse_not_clear e.fault e.place (sym a ∙ b.2))
judged_unique f rules (Err e) (Err d) a b = ap Err (refusal_unique e d (sym a ∙ b))
