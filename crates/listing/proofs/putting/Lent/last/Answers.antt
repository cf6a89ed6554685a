-- `listing::putting::Lent::last` meets its contract: each word and number after the one before.
-- Assumes nothing.
use Rattle.listing.specs.Text.{complexity_word, grade_word}
use Rattle.listing.specs.Lines.{last-put}
use Rattle.listing.proofs.putting.Lent.last.Goals as goal

pub returns-clause-put : goal.returns-clause-put
unfolding complexity_word grade_word
returns-clause-put c = last-put c.args.complexity c.from-2.ensures c.bytes.ensures.put (rw c.from.ensures at c.number.ensures.put) c.bytes-2.ensures.put c.number-2.ensures.put
