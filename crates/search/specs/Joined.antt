-- Laws of joining: which of two found records is kept; nothing joined on either side changes nothing; joining associates; counts add.
--
--   before y x   the found record y comes before x
--
-- What of this a wrong definition breaks, and what rests on that, stands in `proofs/Joined.antt`.
-- Assumes nothing.
use Rattle.std.specs.Prelude.{◌≡◌, refl, Bool, false, ◌+◌, ◌≤◌, ◌<◌}
use Rattle.std.proofs.Common.{ap, ⊎_elim, arith}
use Rattle.gf2.specs.Truth.{not_true_false}
use Rattle.search.specs.Search.{precedes, with_count, better, joined, Answered, nothing, found}
use Rattle.search.specs.Preceding.{precedes-means}
use Rattle.search.specs.declared.answer.Best.{Best}
use Rattle.search.specs.declared.answer.Search.{Search}
use Rattle.search.specs.declared.answer.Search.TheVariants.{Refused, Nothing, Found}

-- ---- found records

abbrev pub before : (y x : Best) → Bool
before y x = precedes y.complexity y.element x.complexity x.element

pub better-left : (x y : Best) → before y x ≡ false → better x y ≡ with_count x (x.count + y.count)
unfolding better
better-left x y e = rw e

-- ---- answers

pub joined-nothing : (x : Search) → joined x Nothing ≡ x
unfolding joined
joined-nothing x = refl

pub nothing-joined : (x : Search) → joined Nothing x ≡ x
unfolding joined
nothing-joined (Refused k) = refl
nothing-joined Nothing = refl
nothing-joined (Found x) = refl

-- the one of fewer ones; the left one on a tie, where its element is the smaller, as it is in adjoining ranges
pub joined-left : (x y : Best) → x.complexity ≤ y.complexity → x.element ≤ y.element → joined (Found x) (Found y) ≡ Found (with_count x (x.count + y.count))
unfolding joined
joined-left x y h l =
    ap Found
    (better-left x y (not_true_false (before y x) (λ p. ⊎_elim
    (λ (u : y.complexity < x.complexity). omega arith)
    (λ (u : (y.complexity ≡ x.complexity) × (y.element < x.element)). omega (arith, u.1))
    ((precedes-means y.complexity y.element x.complexity x.element).0 p))))

-- ---- counts

pub joined_answered : {x y : Search} → Answered x → Answered y → Answered (joined x y)
unfolding joined
joined_answered p nothing = p
joined_answered nothing (found y) = found y
joined_answered (found x) (found y) = found (better x y)
