-- `listing::putting::Lent::field` meets its contract: the word of each field.
-- Assumes nothing.
use Rattle.listing.specs.Text.{field_word, conjugate_word, inverse_word, table_word}
use Rattle.listing.proofs.putting.Lent.field.Goals as goal

pub returns-in-Conjugate-clause-put : goal.returns-in-Conjugate-clause-put
unfolding field_word conjugate_word
returns-in-Conjugate-clause-put c = rw c.in-Conjugate.is c.bytes.ensures.put

pub returns-in-Inverse-clause-put : goal.returns-in-Inverse-clause-put
unfolding field_word inverse_word
returns-in-Inverse-clause-put c = rw c.in-Inverse.is c.bytes-in-Inverse.ensures.put

pub returns-in-Table-clause-put : goal.returns-in-Table-clause-put
unfolding field_word table_word
returns-in-Table-clause-put c = rw c.in-Table.is c.bytes-in-Table.ensures.put
