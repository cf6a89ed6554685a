-- The laws of `specs/Joined.antt` that a wrong definition breaks, and what rests on them. The head there tells of both files.
-- Assumes nothing.
use Rattle.std.specs.Prelude.{◌≡◌, refl, ◌⊎◌, Bool, true, false, ℕ, ◌+◌, ◌≤◌, ◌<◌}
use Rattle.std.proofs.Common.{sym, ap, ◌∙◌, inl, inr, ⊎_elim, add_assoc, add-zero, zero-add, arith}
use Rattle.gf2.specs.Truth.{bool_cases}
use Rattle.search.specs.Search.{with_count, better, joined, Answered, nothing, found, count_of}
use Rattle.search.specs.Preceding.{precedes-means, precedes_trans, precedes_neither}
use Rattle.search.specs.declared.answer.Best.{Best}
use Rattle.search.specs.declared.answer.Search.{Search}
use Rattle.search.specs.declared.answer.Search.TheVariants.{Refused, Nothing, Found}
use Rattle.search.specs.Joined.{before, better-left}

-- ---- found records

pub better-right : (x y : Best) → before y x ≡ true → better x y ≡ with_count y (x.count + y.count)
unfolding better
better-right x y e = rw e

better-count : (x y : Best) → (better x y).count ≡ x.count + y.count
better-count x y =
    ⊎_elim
    (λ (e : before y x ≡ true). ap (λ (b : Best). b.count) (better-right x y e))
    (λ (e : before y x ≡ false). ap (λ (b : Best). b.count) (better-left x y e))
    (bool_cases (before y x))

better_assoc : (x y z : Best) → better (better x y) z ≡ better x (better y z)
better_assoc x y z = go (bool_cases (before y x)) (bool_cases (before z y)) (bool_cases (before z x))
  where
    Case : (b : Bool) → Type 0
    Case b = (b ≡ true) ⊎ (b ≡ false)

    xy : ℕ
    xy = x.count + y.count

    yz : ℕ
    yz = y.count + z.count

    same : (b : Best) → with_count b (x.count + y.count + z.count) ≡ with_count b (x.count + (y.count + z.count))
    same b = ap (with_count b) (add_assoc x.count y.count z.count)

    go : Case (before y x) → Case (before z y) → Case (before z x) → better (better x y) z ≡ better x (better y z)
    go (inl p) (inl q) r =
        let t : before z x ≡ true = precedes_trans z.complexity z.element y.complexity y.element x.complexity x.element q p in
        ap (λ (b : Best). better b z) (better-right x y p) ∙ better-right (with_count y xy) z q ∙ same z
        ∙ sym (ap (better x) (better-right y z q) ∙ better-right x (with_count z yz) t)
    go (inl p) (inr q) r =
        ap (λ (b : Best). better b z) (better-right x y p) ∙ better-left (with_count y xy) z q ∙ same y
        ∙ sym (ap (better x) (better-left y z q) ∙ better-right x (with_count y yz) p)
    go (inr p) (inl q) (inl r) =
        ap (λ (b : Best). better b z) (better-left x y p) ∙ better-right (with_count x xy) z r ∙ same z
        ∙ sym (ap (better x) (better-right y z q) ∙ better-right x (with_count z yz) r)
    go (inr p) (inl q) (inr r) =
        ap (λ (b : Best). better b z) (better-left x y p) ∙ better-left (with_count x xy) z r ∙ same x
        ∙ sym (ap (better x) (better-right y z q) ∙ better-left x (with_count z yz) r)
    go (inr p) (inr q) r =
        let t : before z x ≡ false = precedes_neither z.complexity z.element y.complexity y.element x.complexity x.element q p in
        ap (λ (b : Best). better b z) (better-left x y p) ∙ better-left (with_count x xy) z t ∙ same x
        ∙ sym (ap (better x) (better-left y z q) ∙ better-left x (with_count y yz) p)

-- ---- answers

pub joined_assoc : (x y z : Search) → joined (joined x y) z ≡ joined x (joined y z)
unfolding joined
joined_assoc x y (Refused k) = refl
joined_assoc x y Nothing = refl
joined_assoc x (Refused k) (Found z) = refl
joined_assoc x Nothing (Found z) = refl
joined_assoc (Refused k) (Found y) (Found z) = refl
joined_assoc Nothing (Found y) (Found z) = refl
joined_assoc (Found x) (Found y) (Found z) = ap Found (better_assoc x y z)

pub joined-right : (x y : Best) → y.complexity < x.complexity → joined (Found x) (Found y) ≡ Found (with_count y (x.count + y.count))
unfolding joined
joined-right x y h = ap Found (better-right x y ((precedes-means y.complexity y.element x.complexity x.element).1 (inl h)))

-- ---- counts

pub joined-count : {x y : Search} → Answered x → Answered y → count_of (joined x y) ≡ count_of x + count_of y
unfolding joined count_of
joined-count {x} p nothing = sym (add-zero (count_of x))
joined-count nothing (found y) = sym (zero-add y.count)
joined-count (found x) (found y) = better-count x y

-- whatever the two are
pub joined-count-le : (x y : Search) → count_of (joined x y) ≤ count_of x + count_of y
unfolding joined count_of
joined-count-le x (Refused k) = omega arith
joined-count-le x Nothing = omega arith
joined-count-le (Refused k) (Found y) = omega arith
joined-count-le Nothing (Found y) = omega arith
joined-count-le (Found x) (Found y) = omega (arith, better-count x y)
