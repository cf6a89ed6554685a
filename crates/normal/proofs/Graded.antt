-- The laws of `specs/Graded.antt` that a wrong definition breaks, and what rests on them. The head there tells of both files.
-- Assumes nothing.
use Rattle.std.specs.Prelude.{◌≡◌, ◌⊎◌, true, false, ℕ, ◌+◌, ◌-◌, ◌*◌, ◌^◌, ◌≤◌, ◌<◌, eqb}
use Rattle.std.proofs.Math.Path.{refl}
use Rattle.std.proofs.Common.{sym, ap, ◌∙◌, inl, inr, arith}
use Rattle.std.proofs.Math.Logic.{⊎_elim}
use borrow.Author.Tests.{eq-eqb, ne_eqb, eqb-true, eqb-false}
use Rattle.gf2.specs.Poly.{Degree}
use Rattle.gf2.specs.Truth.{bool_cases}
use Rattle.field.specs.Field.{squared, pow_mod}
use Rattle.field.specs.Frobenius.{squared-one, squared-undone, pow_mod-lt, pow_mod-conjugate}
use Rattle.rows.specs.Rows.{Independent}
use Rattle.normal.specs.Normal.{conjugates, table_rows, complexity}
use Rattle.normal.proofs.Conjugated.{complexity_of_conjugate}
use Rattle.normal.specs.Grades.{kind_of, grade_of, grade_number}
use Rattle.normal.specs.declared.grade.Grade.{Grade}
use Rattle.normal.specs.declared.grade.Grade.TheVariants.{Zero, One, Two, Three}
use Rattle.normal.specs.Graded.{Says}

same_or_not : (x y : ℕ) → (x ≡ y) ⊎ (x ≡ y → ⊥)
same_or_not x y =
    ⊎_elim (λ (t : eqb x y ≡ true). inl (eqb-true x y t)) (λ (t : eqb x y ≡ false). inr (eqb-false x y t)) (bool_cases (eqb x y))

-- ---- what each grade means

module _ (f n a : ℕ) where
  -- "At degree 2 both descriptions fit, and the new grade 3 says so."
  pub kind_both : n ≡ 2 → kind_of f n a ≡ Three
  unfolding kind_of
  kind_both e = rw (eq-eqb n 2 e)

  module _ (e : n ≡ 2 → ⊥) where
    -- "grade 1 when the element to the power n+1 is 1"
    pub kind_first : pow_mod f n a (n + 1) ≡ 1 → kind_of f n a ≡ One
    unfolding kind_of
    kind_first p = rw (ne_eqb n 2 e, eq-eqb (pow_mod f n a (n + 1)) 1 p)

    -- "otherwise grade 2"
    pub kind_second : (pow_mod f n a (n + 1) ≡ 1 → ⊥) → kind_of f n a ≡ Two
    unfolding kind_of
    kind_second p = rw (ne_eqb n 2 e, ne_eqb (pow_mod f n a (n + 1)) 1 p)

  module _ (c : ℕ) where
    -- "Grade 0: complexity is not 2n-1."
    pub grade-none : (c ≡ 2 * n - 1 → ⊥) → grade_of f n a c ≡ Zero
    unfolding grade_of
    grade-none e = rw (ne_eqb c (2 * n - 1) e)

    -- "with complexity 2n-1"
    pub grade_optimal : c ≡ 2 * n - 1 → grade_of f n a c ≡ kind_of f n a
    unfolding grade_of
    grade_optimal e = rw (eq-eqb c (2 * n - 1) e)

module _ (f n a c : ℕ) where
  says_none : (c ≡ 2 * n - 1 → ⊥) → Says f n a c 0
  says_none e =
      record {
        most = omega arith;
        none = (λ z. e, λ z. refl);
        first = (λ z. omega arith, λ s. absurd (e s.0));
        second = (λ z. omega arith, λ s. absurd (e s.0));
        both = (λ z. omega arith, λ s. absurd (e s.0));
      }

  module _ (e : c ≡ 2 * n - 1) where
    says_both : n ≡ 2 → Says f n a c 3
    says_both t =
        record {
          most = omega arith;
          none = (λ z. omega arith, λ s. absurd (s e));
          first = (λ z. omega arith, λ s. absurd (s.1 t));
          second = (λ z. omega arith, λ s. absurd (s.1 t));
          both = (λ z. (e, t), λ s. refl);
        }

    module _ (t : n ≡ 2 → ⊥) where
      says_first : pow_mod f n a (n + 1) ≡ 1 → Says f n a c 1
      says_first p =
          record {
            most = omega arith;
            none = (λ z. omega arith, λ s. absurd (s e));
            first = (λ z. (e, t, p), λ s. refl);
            second = (λ z. omega arith, λ s. absurd (s.2 p));
            both = (λ z. omega arith, λ s. absurd (t s.1));
          }

      says_second : (pow_mod f n a (n + 1) ≡ 1 → ⊥) → Says f n a c 2
      says_second p =
          record {
            most = omega arith;
            none = (λ z. omega arith, λ s. absurd (s e));
            first = (λ z. omega arith, λ s. absurd (p s.2));
            second = (λ z. (e, t, p), λ s. refl);
            both = (λ z. omega arith, λ s. absurd (t s.1));
          }

  numbered : (g : Grade) (k : ℕ) → grade_of f n a c ≡ g → grade_number g ≡ k → Says f n a c k → Says f n a c (grade_number (grade_of f n a c))
  numbered g k e en s = rw (e, en) s

  pub grade_says : Says f n a c (grade_number (grade_of f n a c))
  unfolding grade_number
  grade_says =
      ⊎_elim
      (λ (e : c ≡ 2 * n - 1). ⊎_elim
      (λ (t : n ≡ 2). numbered Three 3 (grade_optimal f n a c e ∙ kind_both f n a t) refl (says_both e t))
      (λ (t : n ≡ 2 → ⊥). ⊎_elim
      (λ (p : pow_mod f n a (n + 1) ≡ 1). numbered One 1 (grade_optimal f n a c e ∙ kind_first f n a t p) refl (says_first e t p))
      (λ (p : pow_mod f n a (n + 1) ≡ 1 → ⊥). numbered Two 2 (grade_optimal f n a c e ∙ kind_second f n a t p) refl (says_second e t p))
      (same_or_not (pow_mod f n a (n + 1)) 1))
      (same_or_not n 2))
      (λ (e : c ≡ 2 * n - 1 → ⊥). numbered Zero 0 (grade-none f n a c e) refl (says_none e))
      (same_or_not c (2 * n - 1))

-- ---- conjugates

module _ (f n : ℕ) (deg : Degree f n) (big : 2 ≤ n) (returns : squared f n n 2 ≡ 2) (a i : ℕ) (hi : i ≤ n) where
  conjugate-one : (x : ℕ) → x < 2 ^ n → squared f n i x ≡ 1 → x ≡ 1
  conjugate-one x h e = squared-undone f n deg big returns i hi x 1 h e ∙ squared-one f n deg big (n - i)

  -- a power of a conjugate is 1 exactly if that of the element is
  same_power : (e : ℕ) → eqb (pow_mod f n (squared f n i a) e) 1 ≡ eqb (pow_mod f n a e) 1
  same_power e =
      let p : ℕ = pow_mod f n a e in
      let q : pow_mod f n (squared f n i a) e ≡ squared f n i p = pow_mod-conjugate f n deg big i a e in
      ⊎_elim
      (λ (t : eqb p 1 ≡ true). eq-eqb (pow_mod f n (squared f n i a) e) 1 (q ∙ ap (squared f n i) (eqb-true p 1 t) ∙ squared-one f n deg big i) ∙ sym t)
      (λ (t : eqb p 1 ≡ false).
      ne_eqb (pow_mod f n (squared f n i a) e) 1 (λ u. eqb-false p 1 t (conjugate-one p (pow_mod-lt f n deg big a e) (sym q ∙ u))) ∙ sym t)
      (bool_cases (eqb p 1))

  same-grade : (c : ℕ) → grade_of f n (squared f n i a) c ≡ grade_of f n a c
  unfolding grade_of kind_of
  same-grade c = rw (same_power (n + 1))

  -- the grade of a basis, with the complexity of its own table
  pub grade_of_conjugate : a < 2 ^ n → Independent (conjugates f n a) n
      → grade_of f n (squared f n i a) (complexity (table_rows f n (squared f n i a))) ≡ grade_of f n a (complexity (table_rows f n a))
  grade_of_conjugate ha free =
      ap (grade_of f n (squared f n i a)) (complexity_of_conjugate f n deg big returns a ha i hi free) ∙ same-grade (complexity (table_rows f n a))
