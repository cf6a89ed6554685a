-- What one more read puts behind the front of the buffer is what it took from the input.
use Rattle.std.proofs.Common.{◌≡◌, ℕ, ◌+◌, ◌-◌, ◌≤◌, List, ◌++◌, rules, length, take, sym, ap, ◌∙◌, subst, arith, length-take-le}
use Rattle.std.proofs.Math.Seq.{take-append-add}
use Rattle.std.proofs.lemmas.List.{take-append-le}
use Rattle.std.proofs.KnownBytes.{Consumes-trans}
use Rattle.std.specs.Io.KnownBytes.{Consumes}
use borrow.Rule.Slice.PartMut.{put_mid, post_of}
use Rattle.streams.proofs.reading.read_whole.Goals as goal

-- the front of a list whose elements from the d-th on were written anew
front-written : (d k n : ℕ) (xs ys : List ℕ) → d ≤ length xs → n ≤ length ys → take (d + n) (put_mid d k xs ys) ≡ take d xs ++ take n ys
front-written d k n xs ys within fits =
    let after = post_of d k xs in
    let long : d + n ≡ length (take d xs) + n = ap (λ m. m + n) (sym (length-take-le d xs within)) in
    ap (λ m. take m (put_mid d k xs ys)) long ∙ take-append-add (take d xs) (ys ++ after) n ∙ ap (λ l. take d xs ++ l) (take-append-le n ys after fits)

pub loop-done-preserved : goal.loop-done-preserved
loop-done-preserved g c =
    let before = c.loop-done.invariant in
    let read = c.in_ok-more.ensures in
    let front = front-written c.loop-done.done (length c.loop-done.buffer - c.loop-done.done) c.in_ok-more.more c.loop-done.buffer c.read.new.buf (omega arith) read.bound.0 in
    (search rules, search rules, subst (Consumes _ _) (sym front) (Consumes-trans _ _ _ _ _ before.2 read.bytes.0))
