-- What a refusal says of the conditions up to its own: those before it do not apply, and its own does. So what lies behind its number can
-- be worked out, and is true.
--
--   check_range, check-divided, check-strays          check refuses: the degree is in range, unless with 1; with 2, with 3
--   build-operand, build-divided, build-strays, build_dependent   build refuses: f and the element are operands, unless with 1 or 4; with
--                                                     2, with 3, with 5
--   read-shaped                                       reading refuses with none of 7, 8 and 9: the shape is right, and rebuilding refuses
--   rebuild-divided, rebuild-strays, rebuild_dependent   with 2, with 3, with 5
--   rebuild-differs                                   with 10: the polynomial and the element have nothing to refuse, and a record differs
--   operands_number, shape-number                     1 and 4, and 7, 8 and 9, by a test
--
-- Assumes nothing.
use Rattle.std.specs.Prelude.{◌≡◌, refl, ◌⊎◌, true, false, ◌&&◌, ◌||◌, List, [], ◌∷◌, ◌++◌, ℕ, ◌≤◌, ◌<◌, leb, eqb}
use Rattle.std.proofs.Common.{inl, inr, ⊎_elim, arith, leb-true, leb-false, le-leb, eqb-true}
use Rattle.std.proofs.lemmas.Bool.{eqb-false}
use Rattle.gf2.specs.Numbers.{order}
use Rattle.gf2.specs.Truth.{bool_cases, not_true, and_parts, or_false}
use Rattle.gf2.specs.Poly.{degree}
use Rattle.refusals.specs.Verdicts.{fault_number, Rule, clear, refuse, first_of}
use Rattle.refusals.specs.Orders.{first-clear}
use Rattle.refusals.specs.Told.{In, AtZero, Below}
use Rattle.refusals.specs.Telling.{Lacks, absent_lacks, rule-applies, part_passed, every_also, listed-at-zero}
use Rattle.field.specs.Accepted.{divided, strays, InRange, Operand}
use Rattle.field.specs.Refusals.{degree_rule, element_rule, divisor_rule, return_rule, operand_order, field_order, check_order}
use Rattle.field.specs.Orders.{in_range}
use Rattle.field.proofs.Orders.{operand_judged}
use Rattle.normal.specs.Normal.{normal}
use Rattle.sheet.specs.Record.{record_count, conjugate_in, polynomial_in}
use Rattle.sheet.specs.Orders.{Shaped, room_rule, normal_rule, differ_rules, room_order, build_order, shape_order, basis_order, rebuilt_from, rebuild_order, read_order}
use Rattle.sheet.proofs.Clear.{clear-shaped}
use Rattle.sheet.specs.Listed.{OnShape, differ-listed}
use Rattle.sheet.proofs.Listed.{shape-listed}
use Rattle.refusals.specs.declared.fault.Fault.TheVariants as faults
use Rattle.refusals.specs.declared.fault.Fault.{Fault}

-- ---- check

module _ (f : ℕ) where
  pub check_range : (n : ℕ) (k : Fault) (p : ℕ) → n ≡ degree f → first_of (check_order f) ≡ refuse k p → (fault_number k ≡ 1 → ⊥) → InRange f n
  check_range n k p size e off =
      let only : AtZero (1 ∷ []) (fault_number k) p → ⊥ = λ z. ⊎_elim off (λ (i : In (fault_number k) []). i) z.0 in
      let x = part_passed (AtZero (1 ∷ [])) (degree_rule f ∷ []) (field_order f) k p (listed-at-zero (degree_rule f ∷ []) refl) only e in
      in_range f n size (first-clear (degree_rule f) [] x.0).0

  pub check-divided : (p : ℕ) → first_of (check_order f) ≡ refuse faults.Divided p → divided f (degree f) ≡ true
  check-divided p e = (rule-applies (degree_rule f ∷ []) (divisor_rule f) (return_rule f ∷ []) p refl (absent_lacks 2 (return_rule f ∷ []) refl) e).1

  pub check-strays : (p : ℕ) → first_of (check_order f) ≡ refuse faults.Strays p → strays f (degree f) ≡ true
  check-strays p e = (rule-applies (degree_rule f ∷ divisor_rule f ∷ []) (return_rule f) [] p refl tt e).1

-- ---- build

pub operands_number : (k : ℕ) → ((eqb k 1 || eqb k 4) ≡ true → (k ≡ 1) ⊎ (k ≡ 4)) × ((eqb k 1 || eqb k 4) ≡ false → (k ≡ 1 → ⊥) × (k ≡ 4 → ⊥))
operands_number k = (
  λ e. ⊎_elim (λ (h : eqb k 1 ≡ true). inl (eqb-true k 1 h)) (λ (h : eqb k 1 ≡ false). inr (eqb-true k 4 (rw h at e))) (bool_cases (eqb k 1)),
  λ e. let s = or_false (eqb k 1) (eqb k 4) e in (eqb-false k 1 s.0, eqb-false k 4 s.1),
)

module _ (f a room : ℕ) where
  pub build-operand : (n : ℕ) (k : Fault) (p : ℕ) → n ≡ degree f → first_of (build_order f a room) ≡ refuse k p
      → (fault_number k ≡ 1 → ⊥) → (fault_number k ≡ 4 → ⊥) → Operand f n a
  build-operand n k p size e one four =
      let only : AtZero (1 ∷ 4 ∷ []) (fault_number k) p → ⊥ =
      λ z. ⊎_elim one (λ (i : In (fault_number k) (4 ∷ [])). ⊎_elim four (λ (j : In (fault_number k) []). j) i) z.0 in
      let x = part_passed (AtZero (1 ∷ 4 ∷ [])) (operand_order f (a ∷ [])) (room_rule (degree f) room ∷ basis_order f (degree f) a) k p
      (listed-at-zero (operand_order f (a ∷ [])) refl) only e in
      operand_judged f n a size x.0

  -- what build tests before 2
  abbrev front : List Rule
  front = degree_rule f ∷ element_rule (degree f) (a ∷ []) ∷ room_rule (degree f) room ∷ []

  abbrev last : Rule
  last = normal_rule f (degree f) a

  pub build-divided : (p : ℕ) → first_of (build_order f a room) ≡ refuse faults.Divided p → divided f (degree f) ≡ true
  build-divided p e = (rule-applies front (divisor_rule f) (return_rule f ∷ last ∷ []) p refl (absent_lacks 2 (return_rule f ∷ last ∷ []) refl) e).1

  pub build-strays : (p : ℕ) → first_of (build_order f a room) ≡ refuse faults.Strays p → strays f (degree f) ≡ true
  build-strays p e = (rule-applies (front ++ (divisor_rule f ∷ [])) (return_rule f) (last ∷ []) p refl (absent_lacks 3 (last ∷ []) refl) e).1

  pub build_dependent : (p : ℕ) → first_of (build_order f a room) ≡ refuse faults.NotNormal p → normal f (degree f) a ≡ false
  build_dependent p e = (not_true (normal f (degree f) a)).0 (rule-applies (room_order f a room) last [] p refl tt e).1

-- ---- reading

pub shape-number : (k : ℕ) → ((leb 7 k && leb k 9) ≡ true → (7 ≤ k) × (k ≤ 9)) × ((leb 7 k && leb k 9) ≡ false → (k < 7) ⊎ (9 < k))
shape-number k = (
  λ e. let s = and_parts (leb 7 k) (leb k 9) e in (leb-true 7 k s.0, leb-true k 9 s.1),
  λ e.
      ⊎_elim
      (λ (h : k < 7). inl h)
      (λ (h : 7 ≤ k). inr (leb-false k 9 (rw (le-leb 7 k h) at e)))
      (order k 7),
)

pub read-shaped : (sheet : List ℕ) (k : Fault) (p : ℕ) → first_of (read_order sheet) ≡ refuse k p → (fault_number k < 7) ⊎ (9 < fault_number k) → Shaped sheet × (first_of (rebuild_order sheet) ≡ refuse k p)
read-shaped sheet k p e far =
    let x = part_passed (OnShape (record_count sheet)) (shape_order sheet) (rebuild_order sheet) k p (shape-listed sheet) off e in
    (clear-shaped sheet x.0, x.1)
  where
    outside : (7 ≤ fault_number k) → (fault_number k ≤ 9) → ⊥
    outside low high = ⊎_elim (λ (h : fault_number k < 7). omega arith) (λ (h : 9 < fault_number k). omega arith) far

    off : OnShape (record_count sheet) (fault_number k) p → ⊥
    off (inl (inl h, z)) = outside (omega arith) (omega arith)
    off (inl (inr h, z)) = absurd h
    off (inr (inl h, z)) = outside (omega arith) (omega arith)
    off (inr (inr (inl h), z)) = outside (omega arith) (omega arith)
    off (inr (inr (inr h), z)) = absurd h

module _ (sheet : List ℕ) where
  abbrev n : ℕ
  n = record_count sheet

  abbrev f : ℕ
  f = polynomial_in sheet

  abbrev a : ℕ
  a = conjugate_in sheet 0

  abbrev differ : List Rule
  differ = differ_rules sheet (rebuilt_from sheet) 0 (record_count sheet)

  differ_lacks : (k : ℕ) → (k ≡ 10 → ⊥) → Lacks k (differ_rules sheet (rebuilt_from sheet) 0 (record_count sheet))
  differ_lacks k off =
      every_also (Below (10 ∷ []) n) (λ m p. m ≡ k → ⊥) other differ (differ-listed sheet (rebuilt_from sheet) n n 0 (omega arith))
    where
      other : (m p : ℕ) → Below (10 ∷ []) (record_count sheet) m p → m ≡ k → ⊥
      other m p (inl h, z) e = off (omega arith)
      other m p (inr h, z) e = absurd h

  pub rebuild-divided : (p : ℕ) → first_of (rebuild_order sheet) ≡ refuse faults.Divided p → divided (polynomial_in sheet) (degree (polynomial_in sheet)) ≡ true
  rebuild-divided p e =
      (rule-applies [] (divisor_rule f) (return_rule f ∷ normal_rule f n a ∷ differ) p refl
      (λ t. omega arith, (λ t. omega arith, differ_lacks 2 (λ t. omega arith))) e).1

  pub rebuild-strays : (p : ℕ) → first_of (rebuild_order sheet) ≡ refuse faults.Strays p → strays (polynomial_in sheet) (degree (polynomial_in sheet)) ≡ true
  rebuild-strays p e =
      (rule-applies (divisor_rule f ∷ []) (return_rule f) (normal_rule f n a ∷ differ) p refl
      (λ t. omega arith, differ_lacks 3 (λ t. omega arith)) e).1

  pub rebuild_dependent : (p : ℕ) → first_of (rebuild_order sheet) ≡ refuse faults.NotNormal p → normal (polynomial_in sheet) (record_count sheet) (conjugate_in sheet 0) ≡ false
  rebuild_dependent p e =
      (not_true (normal f n a)).0 (rule-applies (field_order f) (normal_rule f n a) differ p refl (differ_lacks 5 (λ t. omega arith)) e).1

  -- 10 is found where the polynomial and the element have nothing to refuse
  pub rebuild-differs : (p : ℕ) → first_of (rebuild_order sheet) ≡ refuse faults.Differs p
      → (first_of (basis_order (polynomial_in sheet) (record_count sheet) (conjugate_in sheet 0)) ≡ clear) × (first_of (differ_rules sheet (rebuilt_from sheet) 0 (record_count sheet)) ≡ refuse faults.Differs p)
  rebuild-differs p e = part_passed (λ m q. m ≡ 10 → ⊥) (basis_order f n a) differ faults.Differs p (absent_lacks 10 (basis_order f n a) refl) (λ off. off refl) e
