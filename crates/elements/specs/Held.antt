-- What tables hold, as the laws take it: their type keeps the parts, each of its own field, and that the fields are the same.
--
--   reference_of t   t holds the sums of the inverse rows of a normal element of the field of its modulus
--
-- Assumes nothing.
use Rattle.elements.specs.Reference.{Reference}
use Rattle.elements.specs.declared.upper.Tables.{Tables}

pub reference_of : (t : Tables) → Reference t.modulus.f t.modulus.n t.reference.now.sums
reference_of t = rw (t.of_reference.0, t.of_reference.1) at t.reference.now.of_normal
