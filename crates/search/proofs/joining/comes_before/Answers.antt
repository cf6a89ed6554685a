-- `search::joining::comes_before` meets its contract: a pair comes before another by its first part, on a tie by its second.
-- Assumes nothing.
use mathlib.Core.Path.{◌≡◌, refl, ◌∙◌}
use mathlib.Core.Bool.{Bool, true, false, ◌&&◌, ◌||◌}
use Rattle.std.specs.Prelude.{cond, ltb, eqb}
use Rattle.std.specs.Ordering.{is_lt, is_some_and, partial_ordering_then}
use Rattle.std.specs.declared.cmp.Ordering.TheVariants.{Less, Equal, Greater}
use Rattle.std.specs.declared.option.Option.TheVariants.{Some}
use Rattle.search.specs.Search.{precedes}
use Rattle.search.proofs.joining.comes_before.Goals as goal

-- by the tests of the first parts, less and equal, and of the second
by_tests : (l q m k : Bool) → is_some_and is_lt (partial_ordering_then (Some (cond l Less (cond q Equal Greater))) (Some (cond m Less (cond k Equal Greater)))) ≡ (l || (q && m))
by_tests true q m k = refl
by_tests false true true k = refl
by_tests false true false true = refl
by_tests false true false false = refl
by_tests false false m k = refl

pub returns : goal.returns
unfolding precedes
returns c =
    let s = c.args in
    c.lt.ensures ∙ by_tests (ltb s.c s.d) (eqb s.c s.d) (ltb s.e s.g) (eqb s.e s.g)
