-- The laws of `specs/Performed.antt` that a wrong definition breaks, and what rests on them. The head there tells of both files.
-- Assumes nothing.
use Rattle.std.specs.Prelude.{◌≡◌, ◌↔◌, List, map, ℕ, ◌^◌, ◌<◌, length, get_or}
use Rattle.std.proofs.Common.{sym, ap₂, ◌∙◌}
use Rattle.gf2.specs.Poly.{rem, mul_mod}
use Rattle.sheet.specs.Record.{record_count, conjugate_in, polynomial_in}
use Rattle.sheet.specs.Orders.{Small}
use Rattle.sheet.specs.Answers.{normal_answer}
use Rattle.sheet.specs.Sheets.{SheetOf}
use Rattle.sheet.specs.declared.answer.Summary.{Summary}
use Rattle.promises.specs.Calls.{Run, read, list-to-polynomial, list-to-normal}
use Rattle.promises.specs.Demand1.{multiply_is, times_is, list-to-polynomial_is, list-to-normal_is}
use Rattle.promises.proofs.Demand1.{read_is, to-normal_is}
use Rattle.promises.specs.Demand2.{Built, read_exactly, accepted-sheet, there_and_back, there-and-back-same, back-and-there, multiplies, list-normal-done, list-normal-at, lists_there-and-back, lists_there-and-back-same}
use Rattle.promises.specs.Performed.{CoordinatesOf, ElementOf, Multiplied, ProductOf, Words, elements}
use Rattle.std.specs.Prelude.{Result, Ok}
use Rattle.refusals.specs.Answers.{passed}
use Rattle.refusals.specs.declared.answer.Refusal.{Refusal}

-- ---- reading

module _ (c : Run read) (t : Summary) where
  -- "sheets the builder wrote, which are exactly those that reading accepts"
  pub read_accepts : (c.result ≡ Ok t) ↔ Built c.args.0.now t
  read_accepts = rw (read_is c) (read_exactly c.args.0.now t)

  -- so for the sheet that reading accepted all that follows holds
  pub read_gives : c.result ≡ Ok t → SheetOf (polynomial_in c.args.0.now) (record_count c.args.0.now) (conjugate_in c.args.0.now 0) c.args.0.now
  read_gives e = accepted-sheet c.args.0.now t (sym (read_is c) ∙ e)

-- ---- on such a sheet

coordinates : (sheet : List ℕ) (y : ℕ) (r : Result ℕ Refusal) → normal_answer sheet y ≡ r → CoordinatesOf sheet y r
coordinates sheet y r e d es ey = to-normal_is d ∙ ap₂ (λ (s : List ℕ) (x : ℕ). normal_answer s x) es ey ∙ e

module _ (f n a : ℕ) (sheet : List ℕ) (s : SheetOf f n a sheet) where
  -- "converting to either notation and back returns the same value", and of any word its remainder
  pub returns-remainder : (word : ℕ) → (v : ℕ) × CoordinatesOf sheet word (Ok v) × ElementOf sheet v (Ok (rem f n word))
  returns-remainder word =
      let x = there_and_back f n a sheet s word in
      (x.0, coordinates sheet word (Ok x.0) x.1, elements sheet x.0 (Ok (rem f n word)) x.2)

  pub returns-element : (y : ℕ) → y < 2 ^ n → (v : ℕ) × CoordinatesOf sheet y (Ok v) × ElementOf sheet v (Ok y)
  returns-element y h =
      let x = there-and-back-same f n a sheet s y h in
      (x.0, coordinates sheet y (Ok x.0) x.1, elements sheet x.0 (Ok y) x.2)

  pub returns-coordinates : (v : ℕ) → v < 2 ^ n → (y : ℕ) × ElementOf sheet v (Ok y) × CoordinatesOf sheet y (Ok v)
  returns-coordinates v h = let x = back-and-there f n a sheet s v h in (x.0, elements sheet v (Ok x.0) x.1, coordinates sheet x.0 (Ok v) x.2)

  -- "multiplying through the table, then converting, equals polynomial multiplication modulo the defining polynomial"
  pub multiplied-through : (u v : ℕ) → u < 2 ^ n → v < 2 ^ n
      → (w x y z : ℕ) × ProductOf sheet u v (Ok w) × ElementOf sheet u (Ok x) × ElementOf sheet v (Ok y)
      × ElementOf sheet w (Ok z) × Multiplied f x y (Ok z) × (z ≡ mul_mod f n x y)
  multiplied-through u v hu hv =
      let p = multiplies f n a sheet s u v hu hv in (
        p.0,
        p.1,
        p.2,
        p.3,
        λ c es eu ev. times_is c ∙ rw (es, eu, ev) p.4,
        elements sheet u (Ok p.1) p.5,
        elements sheet v (Ok p.2) p.6,
        elements sheet p.0 (Ok p.3) p.7,
        λ c ef ex ey. multiply_is c ∙ rw (ef, ex, ey) p.8,
        p.9,
      )

-- ---- lists of up to 4,096 words, and of up to 4,096 coordinate numbers

module _ (f n a : ℕ) (c : Run list-to-normal) (s : SheetOf f n a c.args.0.now) (l : Words c.args.1.0.now c.args.1.1.0.now) where
  -- done, and at every index as the word alone is
  pub list-normal-each : (c.result ≡ passed)
      × ((i : ℕ) → i < length c.args.1.0.now → CoordinatesOf c.args.0.now (get_or c.args.1.0.now i 0) (Ok (get_or c.exit.1.1.0.now i 0)))
  list-normal-each = (
    (list-to-normal_is c).0 ∙ rw l.as_long (list-normal-done f n a c.args.0.now s c.args.1.0.now l.short),
    λ i h. coordinates c.args.0.now (get_or c.args.1.0.now i 0) _
        (rw (list-to-normal_is c).1 (list-normal-at f n a c.args.0.now s c.args.1.0.now l.short c.args.1.1.0.now l.as_long i h)),
  )

  -- what list_to_polynomial then makes of it are the remainders of the words that came
  pub lists_return_remainders : (d : Run list-to-polynomial) → d.args.0.now ≡ c.args.0.now → d.args.1.0.now ≡ c.exit.1.1.0.now
      → length d.args.1.1.0.now ≡ length c.args.1.0.now → d.exit.1.1.0.now ≡ map (rem f n) c.args.1.0.now
  lists_return_remainders d es ef o =
      (list-to-polynomial_is d).1
      ∙ rw (es, ef, (list-to-normal_is c).1)
      (lists_there-and-back f n a c.args.0.now s c.args.1.0.now l.short c.args.1.1.0.now l.as_long d.args.1.1.0.now o)

  -- and if these were values of the field, the list that came
  pub lists_return_elements : Small n c.args.1.0.now → (d : Run list-to-polynomial) → d.args.0.now ≡ c.args.0.now → d.args.1.0.now ≡ c.exit.1.1.0.now
      → length d.args.1.1.0.now ≡ length c.args.1.0.now → d.exit.1.1.0.now ≡ c.args.1.0.now
  lists_return_elements all d es ef o =
      (list-to-polynomial_is d).1
      ∙ rw (es, ef, (list-to-normal_is c).1)
      (lists_there-and-back-same f n a c.args.0.now s c.args.1.0.now l.short all c.args.1.1.0.now l.as_long d.args.1.1.0.now o)
