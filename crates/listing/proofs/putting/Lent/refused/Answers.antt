-- `listing::putting::Lent::refused` meets its contract: the word and the two numbers, each after the one before.
-- Assumes nothing.
use Rattle.listing.specs.Text.{refused_word}
use Rattle.listing.specs.Lines.{refused-put}
use Rattle.listing.proofs.putting.Lent.refused.Goals as goal

pub returns-clause-put : goal.returns-clause-put
unfolding refused_word
returns-clause-put c = refused-put c.args.number c.args.place c.bytes.ensures.put (rw c.from.ensures at c.number.ensures.put) c.number-2.ensures.put
