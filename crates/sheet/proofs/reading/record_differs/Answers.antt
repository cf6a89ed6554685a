-- `sheet::reading::record_differs` meets its contract: two lists of bytes are equal where each byte of them is.
-- Assumes nothing.
use Rattle.std.proofs.Common.{◌≡◌, refl, ap, ◌∙◌, ◌+◌, ◌-◌, ◌*◌, Bool, not, ◌&&◌, eqb, List, [], ◌∷◌, ℕ, take, drop, arith}
use lib.Pointwise.{pointwise}
use Rattle.sheet.specs.Record.{record_size, record_at}
use Rattle.sheet.specs.Orders.{same}
use Rattle.sheet.specs.Reading.{differs}
use Rattle.sheet.proofs.reading.record_differs.Goals as goal

byte_by_byte : (xs ys : List ℕ) → pointwise eqb xs ys ≡ same xs ys
unfolding same
byte_by_byte [] [] = refl
byte_by_byte [] (y ∷ ys) = refl
byte_by_byte (x ∷ xs) [] = refl
byte_by_byte (x ∷ xs) (y ∷ ys) = ap (λ (b : Bool). eqb x y && b) (byte_by_byte xs ys)

slices : (sheet rebuilt : List ℕ) (i : ℕ) → not (pointwise eqb (take (record_size * i + record_size - record_size * i) (drop (record_size * i) sheet)) (take (record_size * i + record_size - record_size * i) (drop (record_size * i) rebuilt))) ≡ differs sheet rebuilt i
unfolding differs record_at
slices sheet rebuilt i =
    let e : record_size * i + record_size - record_size * i ≡ record_size = omega arith in
    rw e (ap not (byte_by_byte (take record_size (drop (record_size * i) sheet)) (take record_size (drop (record_size * i) rebuilt))))

pub returns : goal.returns
returns c = c.ne.ensures ∙ slices c.args.sheet.now c.args.rebuilt.now c.args.i
