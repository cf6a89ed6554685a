-- `elements::upper::Tables::decide` meets its contract, by the cases of the witness for y's coordinates in the reference's basis.
-- Assumes nothing.
use Rattle.std.proofs.Common.{refl, ◌≡◌, ◌+◌, ◌^◌, ◌<◌}
use Rattle.gf2.specs.Poly.{mul_mod}
use Rattle.elements.specs.Reference.{through}
use Rattle.elements.specs.Held.{reference_of}
use Rattle.elements.specs.Through.{through-lt, witness_vanishes, witness_inverse, through-normal}
use Rattle.elements.proofs.upper.Tables.decide.Goals.{In-Inverse}
use Rattle.elements.proofs.upper.Tables.decide.Goals as goal

pub unit_of-requires : goal.unit_of-requires
unit_of-requires c =
    let t = c.args.self.now in
    (t.modulus.of_field.two, rw c.coordinates.ensures (through-lt t.modulus.f t.modulus.n t.reference.now.sums (reference_of t) c.args.y c.requires))

pub decide_by_basis-requires : goal.decide_by_basis-requires
decide_by_basis-requires c = record { of_field = c.args.self.now.modulus.of_field; below = c.requires }

-- the inverse that the witness is
inverse : (k : In-Inverse) → (k.in-Inverse.r < 2 ^ k.args.self.now.modulus.n) × (mul_mod (2 ^ k.args.self.now.modulus.n + 1) k.args.self.now.modulus.n k.in-Inverse.r (through k.args.self.now.reference.now.sums k.args.y) ≡ 1)
inverse k =
    let t = k.args.self.now in
    witness_inverse t.modulus.f t.modulus.n t.reference.now.sums (reference_of t) k.args.y k.requires
    k.coordinates.result k.coordinates.ensures _ k.in-Inverse.ensures _ refl

pub ones_within-requires : goal.ones_within-requires
ones_within-requires c = (c.requires, inverse (goal.at.ones_within-requires c).In-Inverse)

pub returns-in-Unknown : goal.returns-in-Unknown
returns-in-Unknown c = c.decide_by_basis.ensures c.args.bound

pub returns-in-Vanishes : goal.returns-in-Vanishes
returns-in-Vanishes c =
    let t = c.args.self.now in
    witness_vanishes t.modulus.f t.modulus.n t.reference.now.sums (reference_of t) c.args.y c.requires
    c.coordinates.result c.coordinates.ensures _ c.in-Vanishes.ensures _ refl

pub returns-in-Inverse : goal.returns-in-Inverse
returns-in-Inverse c =
    let t = c.args.self.now in
    (through-normal t.modulus.f t.modulus.n t.reference.now.sums (reference_of t) c.args.y c.requires _ (inverse (goal.at.returns-in-Inverse c).In-Inverse).1, c.ones_within.ensures)
