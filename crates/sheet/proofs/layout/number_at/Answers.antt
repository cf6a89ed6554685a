-- `sheet::layout::number_at` meets its contract: eight bytes, of which the first are read and the rest are zeros, hold what those that
-- were read hold. Assumes nothing.
use Rattle.std.proofs.Common.{◌≡◌, refl, ap, ◌∙◌, ◌+◌, ◌-◌, ◌*◌, ◌≤◌, List, ◌++◌, [], ◌∷◌, ℕ, zero, suc, length, take, drop, take_all, replicate, length-append, length-drop, arith}
use Rattle.std.proofs.Math.Seq.{length-take-le}
use Rattle.std.specs.Int.{from_le_bytes, w64}
use Rattle.sheet.specs.Record.{number_in}
use Rattle.sheet.specs.Bytes.{number_in-cons}
use Rattle.sheet.proofs.layout.number_at.Goals as goal

wide : (bytes : List ℕ) → length bytes ≡ 8 → from_le_bytes w64 bytes ≡ number_in bytes
unfolding number_in
wide bytes e =
    let all : take 8 bytes ≡ bytes = take_all 8 bytes (omega arith) in
    let b0 = number_in-cons bytes 0 7 (omega arith) in
    let b1 = number_in-cons bytes 1 6 (omega arith) in
    let b2 = number_in-cons bytes 2 5 (omega arith) in
    let b3 = number_in-cons bytes 3 4 (omega arith) in
    let b4 = number_in-cons bytes 4 3 (omega arith) in
    let b5 = number_in-cons bytes 5 2 (omega arith) in
    let b6 = number_in-cons bytes 6 1 (omega arith) in
    let b7 = number_in-cons bytes 7 0 (omega arith) in
    omega (arith, ap number_in all, b0, b1, b2, b3, b4, b5, b6, b7)

zeros : (k m : ℕ) → number_in (drop k (replicate m 0)) ≡ 0
unfolding number_in
zeros zero zero = refl
zeros zero (suc m) = let ih = zeros zero m in omega (arith, ih)
zeros (suc k) zero = refl
zeros (suc k) (suc m) = zeros k m

before_zeros : (bytes rest : List ℕ) → number_in rest ≡ 0 → number_in (bytes ++ rest) ≡ number_in bytes
unfolding number_in
before_zeros [] rest z = z
before_zeros (b ∷ bytes) rest z = ap (λ (x : ℕ). b + 256 * x) (before_zeros bytes rest z)

filled : (copied part : List ℕ) (size : ℕ) → copied ≡ part → length copied ≡ size → size ≤ 8 → from_le_bytes w64 (copied ++ drop size (replicate 8 0)) ≡ number_in part
filled copied part size e l fits =
    wide (copied ++ drop size (replicate 8 0)) (length-append copied (drop size (replicate 8 0)) ∙ rw (l, length-drop) (omega arith))
    ∙ before_zeros copied (drop size (replicate 8 0)) (zeros size 8) ∙ ap number_in e

pub returns : goal.returns
returns c =
    let part : List ℕ = drop c.args.at c.args.sheet.now in
    let s : c.args.at + c.args.size - c.args.at ≡ c.args.size = omega arith in
    c.from_le_bytes.ensures
    ∙ filled c.copy_from_slice.new.self (take c.args.size part) c.args.size
    (c.copy_from_slice.ensures.after ∙ ap (λ (k : ℕ). take k part) s)
    (c.copy_from_slice.ensures.len ∙ length-take-le c.args.size (replicate 8 0) (omega (arith, c.requires.1)))
    c.requires.1
