-- Converting lists: condition 11; the first value that is too large decides condition 4; a list is filled value by value.
--
--   first_large_lem n i values   the index of the first value that is 2 ^ n or more, counted from i; past the last where there is none
--
-- What of this a wrong definition breaks, and what rests on that, stands in `proofs/ListsLaws.antt`.
-- Assumes nothing.
use Rattle.std.specs.Prelude.{◌≡◌, refl, Bool, true, false, not, cond, ltb, List, [], ◌∷◌, ◌++◌, map, ℕ, zero, suc, ◌+◌, ◌≤◌, ◌<◌, length, get_or, set, take, drop, position, Option, MatchOption}
use Rattle.std.specs.List.{position_or_len}
use Rattle.std.proofs.Common.{sym, ap, ap₂, ◌∙◌, append-nil, le_of_suc-le-suc, not-suc-le-zero, add-one, arith, drop_of_length-le, length-append, length-drop, drop-cons, take-suc, take_all, lt-ltb, le-ltb, ltb-true, ltb-false, eq-eqb, ne_eqb}
use Rattle.std.proofs.lemmas.List.{set_at, get_or_at}
use Rattle.std.proofs.lemmas.List.Sums.{prefix_len-le-length}
use Rattle.std.proofs.Math.Seq.{append_snoc}
use Rattle.refusals.specs.Verdicts.{clear, refuse, first_of}
use Rattle.refusals.specs.Orders.{first-applies, first_passes, first-none, first-clear}
use Rattle.field.specs.Refusals.{too_large_lem}
use Rattle.field.specs.Orders.{not_too_large}
use Rattle.sheet.specs.Orders.{list_limit, list_rule, value_rules, Small}
use Rattle.refusals.specs.declared.fault.Fault.TheVariants as faults

unfoldable pub first_large_lem : (n i : ℕ) → List ℕ → ℕ
first_large_lem n i [] = i
first_large_lem n i (v ∷ vs) = cond (too_large_lem n v) i (first_large_lem n (i + 1) vs)

-- ---- the walk over the values

module _ (n : ℕ) (values : List ℕ) (i : ℕ) where
  pub large_found : i < length values → too_large_lem n (get_or values i 0) ≡ true → first_large_lem n i (drop i values) ≡ i
  unfolding first_large_lem
  large_found h e = rw (drop-cons values i 0 h, e)

  pub large_passed : i < length values → too_large_lem n (get_or values i 0) ≡ false → first_large_lem n (i + 1) (drop (i + 1) values) ≡ first_large_lem n i (drop i values)
  unfolding first_large_lem
  large_passed h e = rw (drop-cons values i 0 h, e, add-one)

  pub large_none : length values ≤ i → first_large_lem n i (drop i values) ≡ i
  unfolding first_large_lem
  large_none h = rw (drop_of_length-le values {i = i} h)

-- ---- that index as std's `position` gives it

large_counted : (n i : ℕ) (values : List ℕ) → first_large_lem n i values ≡ i + position_or_len (too_large_lem n) values
unfolding first_large_lem
large_counted n i [] = omega arith
large_counted n i (v ∷ vs) = go (too_large_lem n v) refl (large_counted n (i + 1) vs)
  where
    go : (b : Bool) → too_large_lem n v ≡ b → first_large_lem n (i + 1) vs ≡ i + 1 + position_or_len (too_large_lem n) vs
        → first_large_lem n i (v ∷ vs) ≡ i + position_or_len (too_large_lem n) (v ∷ vs)
    go true e ih = rw e (omega arith)
    go false e ih = rw e (omega arith)

-- it is the place that `position` finds, and the length where that finds none
pub large_position : (n : ℕ) (values : List ℕ) {found : Option ℕ} → found ≡ position (too_large_lem n) values
    → MatchOption found (first_large_lem n 0 values ≡ length values) (λ i. (first_large_lem n 0 values ≡ i) × (i < length values))
large_position n values is = rw is (go (ltb (position_or_len (too_large_lem n) values) (length values)) refl)
  where
    go : (b : Bool) → ltb (position_or_len (too_large_lem n) values) (length values) ≡ b
        → MatchOption (position (too_large_lem n) values) (first_large_lem n 0 values ≡ length values) (λ i. (first_large_lem n 0 values ≡ i) × (i < length values))
    go true e = rw e (omega (arith, large_counted n 0 values), ltb-true (position_or_len (too_large_lem n) values) (length values) e)
    go false e =
        let l = prefix_len-le-length (λ v. not (too_large_lem n v)) values in
        let h = ltb-false (position_or_len (too_large_lem n) values) (length values) e in
        rw e (omega (arith, large_counted n 0 values))

-- ---- condition 4 by that index

pub large_verdict : (n i : ℕ) (values : List ℕ) → first_large_lem n i values < i + length values → first_of (value_rules n i values) ≡ refuse faults.TooLarge (first_large_lem n i values)
unfolding first_large_lem value_rules first_of
large_verdict n i [] h = absurd (omega arith)
large_verdict n i (v ∷ vs) h = go (too_large_lem n v) refl (large_verdict n (i + 1) vs)
  where
    go : (b : Bool) → too_large_lem n v ≡ b → (first_large_lem n (i + 1) vs < i + 1 + length vs → first_of (value_rules n (i + 1) vs) ≡ refuse faults.TooLarge (first_large_lem n (i + 1) vs))
        → first_of (value_rules n i (v ∷ vs)) ≡ refuse faults.TooLarge (first_large_lem n i (v ∷ vs))
    go true e ih = rw e
    go false e ih = let l : first_large_lem n (i + 1) vs < i + suc (length vs) = rw e at h in rw e (ih (omega arith))

pub small_verdict : (n i : ℕ) (values : List ℕ) → i + length values ≤ first_large_lem n i values → first_of (value_rules n i values) ≡ clear
unfolding first_large_lem value_rules first_of
small_verdict n i [] h = refl
small_verdict n i (v ∷ vs) h = go (too_large_lem n v) refl (small_verdict n (i + 1) vs)
  where
    go : (b : Bool) → too_large_lem n v ≡ b → (i + 1 + length vs ≤ first_large_lem n (i + 1) vs → first_of (value_rules n (i + 1) vs) ≡ clear) → first_of (value_rules n i (v ∷ vs)) ≡ clear
    go true e ih = let l : i + suc (length vs) ≤ i = rw e at h in absurd (omega arith)
    go false e ih = let l : i + suc (length vs) ≤ first_large_lem n (i + 1) vs = rw e at h in rw e (ih (omega arith))

-- ---- condition 11

module _ (values room : ℕ) where
  pub lengths_differ : (values ≡ room → ⊥) → first_of (list_rule values room ∷ []) ≡ refuse faults.BadList 0
  lengths_differ e = first-applies (list_rule values room) [] (rw (ne_eqb values room e))

  module _ (e : values ≡ room) where
    pub list_too_long : list_limit < values → first_of (list_rule values room ∷ []) ≡ refuse faults.BadList 0
    list_too_long h = first-applies (list_rule values room) [] (rw (eq-eqb values room e, lt-ltb list_limit values h))

    pub list_fits : values ≤ list_limit → first_of (list_rule values room ∷ []) ≡ clear
    list_fits h = first_passes (list_rule values room) [] (rw (eq-eqb values room e, le-ltb list_limit values h)) ∙ first-none

-- what conditions 11 and 4 leave
pub coordinates-small : (n i : ℕ) (values : List ℕ) → first_of (value_rules n i values) ≡ clear → Small n values
unfolding value_rules
coordinates-small n i [] e j l = absurd (not-suc-le-zero l)
coordinates-small n i (v ∷ vs) e zero l = not_too_large n v (first-clear (record { fault = faults.TooLarge; place = i; applies = too_large_lem n v }) _ e).0
coordinates-small n i (v ∷ vs) e (suc j) l =
    coordinates-small n (i + 1) vs (first-clear (record { fault = faults.TooLarge; place = i; applies = too_large_lem n v }) _ e).1 j (le_of_suc-le-suc l)

-- ---- filling the list

-- the first i values are converted, and the rest as it came
abbrev pub FilledTo : (convert : ℕ → ℕ) (from start into : List ℕ) (i : ℕ) → Type 0
FilledTo convert from start into i = into ≡ map convert (take i from) ++ drop i start

map-append : (convert : ℕ → ℕ) (xs ys : List ℕ) → map convert (xs ++ ys) ≡ map convert xs ++ map convert ys
map-append convert [] ys = refl
map-append convert (x ∷ xs) ys = ap (λ (l : List ℕ). convert x ∷ l) (map-append convert xs ys)

pub map-length : (convert : ℕ → ℕ) (xs : List ℕ) → length (map convert xs) ≡ length xs
map-length convert [] = refl
map-length convert (x ∷ xs) = ap suc (map-length convert xs)

take-size : (i : ℕ) (l : List ℕ) → i ≤ length l → length (take i l) ≡ i
take-size zero l h = refl
take-size (suc i) [] h = absurd (not-suc-le-zero h)
take-size (suc i) (x ∷ l) h = ap suc (take-size i l (le_of_suc-le-suc h))

pub fill_turn : (convert : ℕ → ℕ) (from start into : List ℕ) (i x : ℕ) → i < length from → length from ≡ length start → x ≡ convert (get_or from i 0)
    → FilledTo convert from start into i → FilledTo convert from start (set into i x) (i + 1)
fill_turn convert from start into i x h e ex inv =
    let front : List ℕ = map convert (take i from) in
    let size : length front ≡ i = map-length convert (take i from) ∙ take-size i from (omega arith) in
    let hs : i < length start = omega arith in
    rw (inv, drop-cons start i 0 hs, set_at front (get_or start i 0) (drop (suc i) start) x i size, add-one, take-suc from i 0 h, map-append, ex)
    (sym (append_snoc front (convert (get_or from i 0)) (drop (suc i) start)))

-- so a list may be converted where it stands: the value at i is the one that came
pub fill-rest : (convert : ℕ → ℕ) (from start into : List ℕ) (i : ℕ) → i < length from → length from ≡ length start → FilledTo convert from start into i → get_or into i 0 ≡ get_or start i 0
fill-rest convert from start into i h e inv =
    let front : List ℕ = map convert (take i from) in
    let size : length front ≡ i = map-length convert (take i from) ∙ take-size i from (omega arith) in
    let hs : i < length start = omega arith in
    rw (inv, drop-cons start i 0 hs) (get_or_at front (get_or start i 0) (drop (suc i) start) 0 i size)

pub fill_done : (convert : ℕ → ℕ) (from start into : List ℕ) (i : ℕ) → length from ≤ i → length from ≡ length start → FilledTo convert from start into i → into ≡ map convert from
fill_done convert from start into i h e inv =
    inv ∙ rw (take_all i from h, drop_of_length-le start {i = i} (omega arith)) (append-nil (map convert from))

pub fill-length : (convert : ℕ → ℕ) (from start into : List ℕ) (i : ℕ) → i ≤ length from → length from ≡ length start → FilledTo convert from start into i → length into ≡ length start
fill-length convert from start into i h e inv =
    rw (inv, length-append, map-length, take-size i from h, length-drop) (omega arith)

-- two ways to convert that agree at the values of a list convert it alike
pub map-agree : (convert other : ℕ → ℕ) (xs : List ℕ) → ((i : ℕ) → i < length xs → convert (get_or xs i 0) ≡ other (get_or xs i 0)) → map convert xs ≡ map other xs
map-agree convert other [] h = refl
map-agree convert other (x ∷ xs) h =
    ap₂ {C = List ℕ} (λ (y : ℕ) (l : List ℕ). y ∷ l) (h 0 (omega arith)) (map-agree convert other xs (λ i l. h (suc i) (omega arith)))

-- a list that has what a way to convert makes of each value of another is that other, converted
pub map-each : (convert : ℕ → ℕ) (from into : List ℕ) → length into ≡ length from → ((i : ℕ) → i < length from → get_or into i 0 ≡ convert (get_or from i 0)) → into ≡ map convert from
map-each convert [] [] e h = refl
map-each convert [] (y ∷ ys) e h = absurd (omega arith)
map-each convert (x ∷ xs) [] e h = absurd (omega arith)
map-each convert (x ∷ xs) (y ∷ ys) e h =
    ap₂ {C = List ℕ} (λ (z : ℕ) (l : List ℕ). z ∷ l) (h 0 (omega arith)) (map-each convert xs ys (omega arith) (λ i l. h (suc i) (omega arith)))

-- ---- lists, value by value

pub map_at : (g : ℕ → ℕ) (l : List ℕ) (i : ℕ) → i < length l → get_or (map g l) i 0 ≡ g (get_or l i 0)
map_at g [] i h = absurd (omega arith)
map_at g (x ∷ l) zero h = refl
map_at g (x ∷ l) (suc i) h = map_at g l i (omega arith)

pub map_below : (g : ℕ → ℕ) (m : ℕ) → ((y : ℕ) → g y < m) → (l : List ℕ) (i : ℕ) → i < length (map g l) → get_or (map g l) i 0 < m
map_below g m h l i k = rw (map_at g l i (rw (sym (map-length g l)) k)) (h (get_or l i 0))

pub map-round : (g h : ℕ → ℕ) (m : ℕ) → ((y : ℕ) → y < m → h (g y) ≡ y) → (l : List ℕ) → ((i : ℕ) → i < length l → get_or l i 0 < m) → map h (map g l) ≡ l
map-round g h m e [] all = refl
map-round g h m e (x ∷ l) all =
    ap₂ {C = List ℕ} (λ (y : ℕ) (r : List ℕ). y ∷ r) (e x (all 0 (omega arith))) (map-round g h m e l (λ i k. all (suc i) (omega arith)))
