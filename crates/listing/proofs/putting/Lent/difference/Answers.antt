-- `listing::putting::Lent::difference` meets its contract: each number and the word after the one before.
-- Assumes nothing.
use Rattle.listing.specs.Lines.{difference_put}
use Rattle.listing.proofs.putting.Lent.difference.Goals as goal

pub returns-clause-put : goal.returns-clause-put
returns-clause-put c = difference_put c.args.difference c.number.ensures.put c.field.ensures.put c.number-2.ensures.put c.number-3.ensures.put
