-- A call that hands out the number and the place of its order's verdict, and zeros where that refuses, keeps what `Told` says.
--
--   first_found, found_first    a verdict refuses with the number and the place of the first rule that applies
--   every_..                    what holds of every rule of an order holds of the one that is found
--   part_passed                 an order in two parts: a refusal that the first part does not have
--   Lacks k rs, absent_lacks    k is no number of the order rs; the same by a test, `absent`
--   rule-applies                a number that an order has once
--    listed-at-zero, ..positive   the numbers of an order are its own, and none of them is 0
--   told                        a call, by the number, the place and the values that it hands out
--   report_told, value_told, checked_told   the same for a report, and for an answer of one value and of none
--
-- Assumes nothing.
use Rattle.std.specs.Prelude.{◌≡◌, ◌⊎◌, ◌↔◌, Bool, true, false, not, ◌&&◌, List, [], ◌∷◌, ◌++◌, map, ℕ, ◌<◌, ltb, eqb, ◌-◌, slice_index_or, Ok}
use Rattle.std.proofs.Math.Path.{refl, sym}
use Rattle.std.proofs.Common.{ap, ◌∙◌, inl, inr, arith, ltb-true}
use Rattle.std.proofs.lemmas.Bool.{eqb-false}
use Rattle.gf2.specs.Truth.{not_true, and_parts}
use Rattle.refusals.specs.declared.fault.Fault.{Fault}
use Rattle.refusals.specs.declared.fault.Fault.TheVariants.{DegreeOutside, Divided, Strays, TooLarge, NotNormal, NoRoom, BadLength, Misplaced, Oversized, Differs, BadList, EmptyRange, ZeroDivisor, OtherText}
use Rattle.refusals.specs.Verdicts.{fault_number, Rule, Verdict, clear, refuse, first_of}
use Rattle.refusals.specs.Answers.{answer_of, report_of, value_of, passed, checked_of}
use Rattle.refusals.specs.Answered.{value_report_lem, checked_report_lem}
use Rattle.refusals.specs.Orders.{refuse_not_clear, first-applies, first_passes, part-refused, part-clear}
use Rattle.refusals.specs.Told.{number_of, place_of, First, here, later, In, AtZero, Below, Every, numbers_of, places_of, AllZero, Told, ValueTold, CheckedTold}

-- ---- along an order

-- the rows in the order of the table, and the one with a number
abbrev faults : List Fault
faults =
    DegreeOutside ∷ Divided ∷ Strays ∷ TooLarge ∷ NotNormal ∷ NoRoom ∷ BadLength ∷ Misplaced ∷ Oversized ∷ Differs ∷ BadList ∷ EmptyRange
    ∷ ZeroDivisor ∷ OtherText ∷ []

abbrev fault_of : ℕ → Fault
fault_of n = slice_index_or faults (n - 1) DegreeOutside

-- no two rows have the same number
fault_of_number : (k : Fault) → fault_of (fault_number k) ≡ k
fault_of_number DegreeOutside = refl
fault_of_number Divided = refl
fault_of_number Strays = refl
fault_of_number TooLarge = refl
fault_of_number NotNormal = refl
fault_of_number NoRoom = refl
fault_of_number BadLength = refl
fault_of_number Misplaced = refl
fault_of_number Oversized = refl
fault_of_number Differs = refl
fault_of_number BadList = refl
fault_of_number EmptyRange = refl
fault_of_number ZeroDivisor = refl
fault_of_number OtherText = refl

pub same_fault : (k l : Fault) → fault_number k ≡ fault_number l → k ≡ l
same_fault k l e = sym (fault_of_number k) ∙ ap fault_of e ∙ fault_of_number l

pub refuse-parts : (k : Fault) (p : ℕ) (l : Fault) (q : ℕ) → refuse k p ≡ refuse l q → (k ≡ l) × (p ≡ q)
unfolding number_of place_of
refuse-parts k p l q e = (same_fault k l (ap number_of e), ap place_of e)

-- a verdict that refuses is the first rule that applies
pub first_found : (rs : List Rule) (k : Fault) (p : ℕ) → first_of rs ≡ refuse k p → First (fault_number k) p rs
unfolding first_of
first_found [] k p e = absurd (refuse_not_clear k p (sym e))
first_found (r ∷ rs) k p e = go r.applies refl (first_found rs k p)
  where
    go : (b : Bool) → r.applies ≡ b → (first_of rs ≡ refuse k p → First (fault_number k) p rs) → First (fault_number k) p (r ∷ rs)
    go true a ih =
        let s = refuse-parts r.fault r.place k p (sym (first-applies r rs a) ∙ e) in
        here (ap fault_number s.0) s.1 a
    go false a ih = later a (ih (sym (first_passes r rs a) ∙ e))

pub found_first : (rs : List Rule) (k : Fault) (p : ℕ) → First (fault_number k) p rs → first_of rs ≡ refuse k p
found_first [] k p f = elim f [ ]
found_first (r ∷ rs) k p (here ek ep a) = rw (first-applies r rs a, same_fault r.fault k ek, ep)
found_first (r ∷ rs) k p (later a f) = first_passes r rs a ∙ found_first rs k p f

pub every_first : (P : ℕ → ℕ → Type 0) (rs : List Rule) (k p : ℕ) → Every P rs → First k p rs → P k p
every_first P [] k p all f = elim f [ ]
every_first P (r ∷ rs) k p all (here ek ep a) = rw (sym ek, sym ep) all.0
every_first P (r ∷ rs) k p all (later a f) = every_first P rs k p all.1 f

pub every_append : (P : ℕ → ℕ → Type 0) (xs ys : List Rule) → Every P xs → Every P ys → Every P (xs ++ ys)
every_append P [] ys all rest = rest
every_append P (r ∷ xs) ys all rest = (all.0, every_append P xs ys all.1 rest)

pub every_also : (P Q : ℕ → ℕ → Type 0) → ((k p : ℕ) → P k p → Q k p) → (rs : List Rule) → Every P rs → Every Q rs
every_also P Q h [] all = tt
every_also P Q h (r ∷ rs) all = (h (fault_number r.fault) r.place all.0, every_also P Q h rs all.1)

-- what a first part does not refuse with, the rest does, and the first part finds nothing
pub part_passed : (P : ℕ → ℕ → Type 0) (xs ys : List Rule) (k : Fault) (p : ℕ) → Every P xs → (P (fault_number k) p → ⊥) → first_of (xs ++ ys) ≡ refuse k p
    → (first_of xs ≡ clear) × (first_of ys ≡ refuse k p)
part_passed P xs ys k p all off e = go (first_of xs) refl
  where
    go : (v : Verdict) → first_of xs ≡ v → (first_of xs ≡ clear) × (first_of ys ≡ refuse k p)
    go clear c = (c, sym (part-clear xs ys c) ∙ e)
    go (refuse l q) c = absurd (off (every_first P xs (fault_number k) p all (first_found xs k p (c ∙ sym (part-refused xs ys l q c) ∙ e))))

-- ---- a number that an order does not have

abbrev pub Lacks : (k : ℕ) → List Rule → Type 0
Lacks k rs = Every (λ m p. m ≡ k → ⊥) rs

-- the same as a test, of the order's numbers
abbrev pub absent : (k : ℕ) → List ℕ → Bool
absent k [] = true
absent k (m ∷ ks) = not (eqb m k) && absent k ks

pub absent_lacks : (k : ℕ) (rs : List Rule) → absent k (numbers_of rs) ≡ true → Lacks k rs
absent_lacks k [] e = tt
absent_lacks k (r ∷ rs) e =
    let s = and_parts (not (eqb (fault_number r.fault) k)) (absent k (numbers_of rs)) e in
    (eqb-false (fault_number r.fault) k ((not_true (eqb (fault_number r.fault) k)).0 s.0), absent_lacks k rs s.1)

-- a number that stands once in an order is that of its rule: nothing before it applies, and it does
pub rule-applies : (xs : List Rule) (r : Rule) (ys : List Rule) (p : ℕ) → absent (fault_number r.fault) (numbers_of xs) ≡ true → Lacks (fault_number r.fault) ys
    → first_of (xs ++ (r ∷ ys)) ≡ refuse r.fault p → (first_of xs ≡ clear) × (r.applies ≡ true)
rule-applies xs r ys p before after e = (x.0, go r.applies refl)
  where
    Other : ℕ → ℕ → Type 0
    Other m q = m ≡ fault_number r.fault → ⊥

    x : (first_of xs ≡ clear) × (first_of (r ∷ ys) ≡ refuse r.fault p)
    x = part_passed Other xs (r ∷ ys) r.fault p (absent_lacks (fault_number r.fault) xs before) (λ off. off refl) e

    go : (b : Bool) → r.applies ≡ b → r.applies ≡ true
    go true a = a
    go false a =
        absurd (every_first Other ys (fault_number r.fault) p after (first_found ys r.fault p (sym (first_passes r ys a) ∙ x.1)) refl)

-- ---- places

-- an order whose places are all 0 has its own numbers
pub listed-at-zero : (rs : List Rule) → places_of rs ≡ map (λ (r : Rule). 0) rs → Every (AtZero (numbers_of rs)) rs
listed-at-zero rs e = among rs (numbers_of rs) (λ k i. i) (zeros rs e)
  where
    Zeros : List Rule → Type 0
    Zeros l = Every (λ k p. p ≡ 0) l

    zeros : (l : List Rule) → places_of l ≡ map (λ (r : Rule). 0) l → Zeros l
    zeros [] p = tt
    zeros (r ∷ l) p = (cc, zeros l cc)

    among : (l : List Rule) (ks : List ℕ) → ((k : ℕ) → In k (numbers_of l) → In k ks) → Zeros l → Every (AtZero ks) l
    among [] ks sub z = tt
    among (r ∷ l) ks sub z = ((sub (fault_number r.fault) (inl refl), z.0), among l ks (λ k i. sub k (inr i)) z.1)

pub placed-zero : (ks : List ℕ) (rs : List Rule) → Every (AtZero ks) rs → 0 ≡ place_of (first_of rs)
placed-zero ks rs all = go (first_of rs) refl
  where
    go : (v : Verdict) → first_of rs ≡ v → 0 ≡ place_of v
    go clear e = unfold place_of in refl
    go (refuse k p) e = unfold place_of in sym (every_first (AtZero ks) rs (fault_number k) p all (first_found rs k p e)).1

-- ---- no number is 0

abbrev pub nonzero : List ℕ → Bool
nonzero [] = true
nonzero (x ∷ xs) = ltb 0 x && nonzero xs

in_positive : (ks : List ℕ) → nonzero ks ≡ true → (k : ℕ) → In k ks → 0 < k
in_positive [] e k i = absurd i
in_positive (x ∷ ks) e k i = go (ltb 0 x) refl i (λ t. in_positive ks t k)
  where
    go : (b : Bool) → ltb 0 x ≡ b → (k ≡ x) ⊎ In k ks → (nonzero ks ≡ true → In k ks → 0 < k) → 0 < k
    go true p (inl q) ih = let h : 0 < x = ltb-true 0 x p in omega arith
    go true p (inr j) ih = let t : nonzero ks ≡ true = rw p at e in ih t j
    go false p j ih = let z : false ≡ true = rw p at e in let w : ◌≡◌ {A = ℕ} 0 1 = cc in absurd (omega arith)

pub at-zero-positive : (ks : List ℕ) → nonzero ks ≡ true → (k p : ℕ) → AtZero ks k p → 0 < k
at-zero-positive ks e k p h = in_positive ks e k h.0

pub below-positive : (ks : List ℕ) (m : ℕ) → nonzero ks ≡ true → (k p : ℕ) → Below ks m k p → 0 < k
below-positive ks m e k p h = in_positive ks e k h.0

-- ---- a call that hands out the number and the place of its verdict, and zeros where that refuses

pub told : (rs : List Rule) (P : ℕ → ℕ → Type 0) (Done : Type 0) (number place : ℕ) (values : List ℕ)
    → Every P rs → ((k p : ℕ) → P k p → 0 < k) → (first_of rs ≡ clear ↔ Done)
    → number ≡ number_of (first_of rs) → place ≡ place_of (first_of rs) → ((k : Fault) (p : ℕ) → first_of rs ≡ refuse k p → AllZero values)
    → Told rs P Done number place values
unfolding number_of place_of
told rs P Done number place values all positive is en ep zeros = go (first_of rs) refl
  where
    go : (v : Verdict) → first_of rs ≡ v → Told rs P Done number place values
    go clear e =
        let zn : number ≡ 0 = en ∙ ap number_of e in
        let zp : place ≡ 0 = ep ∙ ap place_of e in
        record {
          done = (λ z. is.0 e, λ d. zn);
          done-place = λ z. zp;
          listed = λ h. absurd (omega arith);
          applies = λ h. absurd (omega arith);
          zero = λ h. absurd (omega arith);
        }
    go (refuse k p) e =
        let zn : number ≡ fault_number k = en ∙ ap number_of e in
        let zp : place ≡ p = ep ∙ ap place_of e in
        let found : First number place rs = rw (zn, zp) (first_found rs k p e) in
        let within : P number place = every_first P rs number place all found in
        let more : 0 < number = positive number place within in
        record {
          done = (λ z. absurd (omega arith), λ d. absurd (refuse_not_clear k p (sym e ∙ is.1 d)));
          done-place = λ z. absurd (omega arith);
          listed = λ h. within;
          applies = λ h. found;
          zero = λ h. zeros k p e;
        }

-- ---- answers of one value, and of none

pub done-value : (v : Verdict) (x : ℕ) → (v ≡ clear) ↔ ((y : ℕ) × (value_of v x ≡ Ok y))
unfolding answer_of
done-value clear x = (λ e. (x, refl), λ d. refl)
done-value (refuse k p) x = (λ e. absurd (refuse_not_clear k p e), λ d. let e = d.1 in let z : ◌≡◌ {A = ℕ} 0 1 = cc in absurd (omega arith))

pub done_checked : (v : Verdict) → (v ≡ clear) ↔ (checked_of v ≡ passed)
unfolding answer_of
done_checked clear = (λ e. refl, λ d. refl)
done_checked (refuse k p) = (λ e. absurd (refuse_not_clear k p e), λ d. let z : ◌≡◌ {A = ℕ} 0 1 = cc in absurd (omega arith))

refused-value : (k : Fault) (p x : ℕ) → (report_of (refuse k p) x).value ≡ 0
unfolding report_of
refused-value k p x = refl

module _ (rs : List Rule) (P : ℕ → ℕ → Type 0) (all : Every P rs) (positive : (k p : ℕ) → P k p → 0 < k) where
  -- as the order's verdict reports a value x, whatever done means
  pub report_told : (Done : Type 0) → ((first_of rs ≡ clear) ↔ Done) → (x : ℕ)
      → Told rs P Done (report_of (first_of rs) x).number (report_of (first_of rs) x).place ((report_of (first_of rs) x).value ∷ [])
  report_told Done is x =
      told rs P Done _ _ _ all positive is (number (first_of rs)) (place (first_of rs)) (λ k p e. (ap (λ (v : Verdict). (report_of v x).value) e ∙ refused-value k p x, tt))
    where
      number : (v : Verdict) → (report_of v x).number ≡ number_of v
      number clear = unfold report_of number_of in refl
      number (refuse k p) = unfold report_of number_of in refl

      place : (v : Verdict) → (report_of v x).place ≡ place_of v
      place clear = unfold report_of place_of in refl
      place (refuse k p) = unfold report_of place_of in refl

  pub value_told : (x : ℕ) → ValueTold rs P (value_of (first_of rs) x)
  value_told x = rw (value_report_lem (first_of rs) x) (report_told _ (done-value (first_of rs) x) x)

  pub checked_told : CheckedTold rs P (checked_of (first_of rs))
  checked_told = rw (checked_report_lem (first_of rs)) (report_told _ (done_checked (first_of rs)) 0)
