-- `words::polynomials::polynomial` meets its contract: a word whose first part is all of it has no colon.
-- Assumes nothing.
use Rattle.std.proofs.Common.{◌∙◌, ◌≡◌, true, false, sym, arith, length, ltb, ltb-true, ltb-false}
use Rattle.words.specs.Parts.{first_size, size-le}
use Rattle.words.specs.Exponents.{polynomial-number, polynomial-exponents}
use Rattle.words.proofs.Cut.{colon_held}
use Rattle.words.proofs.polynomials.polynomial.Goals as goal

pub returns-then-contains : goal.returns-then-contains
returns-then-contains c =
    let h : ltb (first_size c.args.word.now) (length c.args.word.now) ≡ true = sym (colon_held c.args.word.now) ∙ sym c.contains.ensures.value ∙ c.if-contains.true in
    c.exponents.ensures ∙ polynomial-exponents c.args.word.now (first_size c.args.word.now) (omega arith)
    (λ e. omega (arith, ltb-true (first_size c.args.word.now) (length c.args.word.now) h))

pub returns : goal.returns
returns c =
    let h : ltb (first_size c.args.word.now) (length c.args.word.now) ≡ false = sym (colon_held c.args.word.now) ∙ sym c.contains.ensures.value ∙ c.if-contains.false in
    c.number.ensures ∙ polynomial-number c.args.word.now (first_size c.args.word.now) (omega arith)
    (omega (arith, size-le c.args.word.now, ltb-false (first_size c.args.word.now) (length c.args.word.now) h))
