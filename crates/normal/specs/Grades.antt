-- The grade of a basis (document 02, §3): by f, of degree n, the element a and the complexity of its table; and the number of each case.
--
--   kind_of f n a      which kind of optimal basis the element makes: the grade where the complexity is 2n-1
--   grade_of f n a c   the grade at complexity c
--   grade_number g     the number of a grade
--
-- A basis gets its grade from `grade_of` alone, and in code from `grade_of`: summaries and found records take it from there. `Graded` says what
-- each grade means, and that all conjugates have the same.
-- Assumes nothing.
use Rattle.std.specs.Prelude.{cond, ℕ, ◌+◌, ◌-◌, ◌*◌, eqb}
use Rattle.field.specs.Field.{pow_mod}
use Rattle.normal.specs.declared.grade.Grade.{Grade}
use Rattle.normal.specs.declared.grade.Grade.TheVariants.{Zero, One, Two, Three}

-- "grade 1 when the element to the power n+1 is 1, otherwise grade 2. At degree 2 both descriptions fit, and the new grade 3 says so."
unfoldable pub kind_of : (f n a : ℕ) → Grade
kind_of f n a = cond (eqb n 2) Three (cond (eqb (pow_mod f n a (n + 1)) 1) One Two)

-- "The grade has to follow the element: with complexity 2n-1", its kind. "Grade 0: complexity is not 2n-1." (document 01)
unfoldable pub grade_of : (f n a c : ℕ) → Grade
grade_of f n a c = cond (eqb c (2 * n - 1)) (kind_of f n a) Zero

unfoldable pub grade_number : Grade → ℕ
grade_number Zero = 0
grade_number One = 1
grade_number Two = 2
grade_number Three = 3
