-- What the call search answers: for an accepted f and a range of elements, the answer over the range; what is found, with its own complexity
-- and grade; over two adjoining ranges, refused or not, answers that determine the one over their union.
-- Assumes nothing.
use Rattle.std.specs.Prelude.{◌≡◌, refl, true, false, ℕ, suc, ◌^◌, ◌≤◌, ◌<◌}
use Rattle.std.proofs.Common.{ap, ◌∙◌, ⊎_elim, arith, le-leb}
use Rattle.gf2.specs.Poly.{degree}
use Rattle.gf2.specs.Numbers.{order}
use Rattle.gf2.specs.Truth.{bool_cases}
use Rattle.field.specs.Accepted.{degree_outside, Accepted}
use Rattle.refusals.specs.Verdicts.{Verdict, clear, refuse, first_of}
use Rattle.field.specs.Refusals.{too_large_lem, field_order}
use Rattle.refusals.specs.Answers.{answer_of}
use Rattle.field.specs.Orders.{small-enough}
use Rattle.field.specs.Checked.{field_accepts}
use Rattle.search.specs.Search.{complexity_at, grade_at, joined, ranged}
use Rattle.search.specs.Answers.{search_order, search_of, search_answer}
use Rattle.search.proofs.Walks.{ranged_cut}
use Rattle.search.proofs.Named.{ranged-own}
use Rattle.search.proofs.Orders.{search-outside, search-last, search-past}
use Rattle.search.specs.declared.answer.Best.{Best}
use Rattle.search.specs.declared.answer.Search.TheVariants.{Refused, Found}
use Rattle.refusals.specs.declared.fault.Fault.{Fault}
use Rattle.refusals.specs.declared.fault.Fault.TheVariants as faults

large : (n a : ℕ) → 2 ^ n ≤ a → too_large_lem n a ≡ true
unfolding too_large_lem
large n a h = le-leb (2 ^ n) a h

-- past conditions 1, 4 and 12
answer-past : (f first last : ℕ) → degree_outside f ≡ false → first ≤ last → last < 2 ^ degree f
    → search_answer f first last ≡ search_of (first_of (field_order f)) (ranged f (degree f) first last)
unfolding search_answer
answer-past f first last inside h l =
    ap (λ (v : Verdict). search_of v (ranged f (degree f) first last))
    (search-past f first last inside (small-enough (degree f) first (omega arith)) (small-enough (degree f) last l) h)

pub accepted-answer : (f : ℕ) → Accepted f → (first last : ℕ) → first ≤ last → last < 2 ^ degree f
    → search_answer f first last ≡ ranged f (degree f) first last
unfolding answer_of
accepted-answer f s first last h l =
    answer-past f first last s.in_range h l ∙ rw ((field_accepts f s.in_range).1 s)

answer-refused : (f first last : ℕ) (k : Fault) → first_of (search_order f first last) ≡ refuse k 0 → search_answer f first last ≡ Refused k
unfolding search_answer answer_of
answer-refused f first last k e = rw e

-- what the call finds has the complexity and the grade of its own element
pub answer-own : (f first last : ℕ) (x : Best) → search_answer f first last ≡ Found x
    → (x.complexity ≡ complexity_at f (degree f) x.element) × (x.grade ≡ grade_at f (degree f) x.element)
unfolding search_answer answer_of
answer-own f first last x = go (first_of (search_order f first last))
  where
    go : (v : Verdict) → search_of v (ranged f (degree f) first last) ≡ Found x
        → (x.complexity ≡ complexity_at f (degree f) x.element) × (x.grade ≡ grade_at f (degree f) x.element)
    go clear e = ranged-own f (degree f) first last x e
    go (refuse k p) e = let z : ◌≡◌ {A = ℕ} 0 1 = cc in absurd (omega arith)

-- the answers of two adjoining ranges, whatever they are, determine the answer of their union
pub search-joined : (f first mid last : ℕ) → first ≤ mid → mid < last
    → search_answer f first last ≡ joined (search_answer f first mid) (search_answer f (suc mid) last)
unfolding joined answer_of
search-joined f first mid last h l =
    ⊎_elim
    (λ (o : degree_outside f ≡ true).
    rw (answer-refused f first last faults.DegreeOutside (search-outside f first last o), answer-refused f (suc mid) last faults.DegreeOutside (search-outside f (suc mid) last o)))
    (λ (i : degree_outside f ≡ false). ⊎_elim
    (λ (u : last < 2 ^ degree f).
    rw (answer-past f first last i (omega arith) u, answer-past f first mid i h (omega arith), answer-past f (suc mid) last i l u)
    (inside (first_of (field_order f))))
    (λ (u : 2 ^ degree f ≤ last).
    let t : too_large_lem (degree f) last ≡ true = large (degree f) last u in
    rw (answer-refused f first last faults.TooLarge (search-last f first last i t), answer-refused f (suc mid) last faults.TooLarge (search-last f (suc mid) last i t)))
    (order last (2 ^ degree f)))
    (bool_cases (degree_outside f))
  where
    inside : (v : Verdict)
        → search_of v (ranged f (degree f) first last) ≡ joined (search_of v (ranged f (degree f) first mid)) (search_of v (ranged f (degree f) (suc mid) last))
    inside clear = ranged_cut f (degree f) first mid last h l
    inside (refuse k p) = refl
