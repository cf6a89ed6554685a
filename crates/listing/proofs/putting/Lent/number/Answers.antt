-- `listing::putting::Lent::number` meets its contract: its digits, and the mark after them.
-- Assumes nothing.
use native.Mathlib.Omega.{arith}
use borrow.Author.Rules.{rules}
use Rattle.listing.specs.Lines.{digits-few, number-ends, number_put}
use Rattle.listing.proofs.putting.Lent.number.Goals as goal

pub bytes-requires : goal.bytes-requires
bytes-requires c =
    omega (arith, c.requires, c.decimal-count.ensures.in_bounds.1, digits-few c.args.number c.decimal-count.result (search rules) c.decimal-count.ensures.len)

pub bounds-self-self : goal.bounds-self-self
bounds-self-self c =
    omega (
      arith,
      c.requires,
      number-ends c.args.self.now.text.now c.decimal-count.new.out c.bytes.new.self.text.now c.args.self.now.at c.args.number c.decimal-count.result c.bytes.new.self.at
          c.args.mark (search rules) c.decimal-count.ensures.len c.decimal-count.ensures.digits c.decimal-count.ensures.in_bounds c.bytes.ensures.put c.requires,
    )

pub returns-clause-put : goal.returns-clause-put
returns-clause-put c =
    number_put c.args.self.now.text.now c.decimal-count.new.out c.bytes.new.self.text.now c.args.self.now.at c.args.number c.decimal-count.result c.bytes.new.self.at
    c.args.mark (search rules) c.decimal-count.ensures.len c.decimal-count.ensures.digits c.decimal-count.ensures.in_bounds c.bytes.ensures.put c.requires
