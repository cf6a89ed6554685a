-- `sheet::layout::put_number` meets its contract: the goals that the check leaves. Its loop is told in `Invariants.antt`. Assumes nothing.
use Rattle.std.proofs.Common.{◌≡◌, refl, sym, ap, ◌∙◌, ◌+◌, ◌-◌, ◌/◌, ◌%◌, ◌^◌, ◌≤◌, ◌<◌, List, append_assoc, [], ℕ, length, take, drop, set, take_all, arith, div-one, length-drop}
use Rattle.std.proofs.Math.Seq.{length-take-le, drop-drop}
use Rattle.std.proofs.lemmas.List.{take_more_set, length-set}
use borrow.Rule.Slice.PartMut.{put_mid}
use Rattle.sheet.specs.Record.{bytes_of}
use Rattle.sheet.specs.Bytes.{pasted, bytes_of-length, bytes_of-next, byte_next}
use Rattle.sheet.proofs.layout.put_number.Goals as goal

part_size : (buffer : List ℕ) (at size : ℕ) → at + size ≤ length buffer → length (take (at + size - at) (drop at buffer)) ≡ size
part_size buffer at size fits =
    let e : at + size - at ≡ size = omega arith in
    rw e (length-take-le size (drop at buffer) (rw length-drop (omega arith)))

none : (number : ℕ) → [] ≡ bytes_of 0 number
unfolding bytes_of
none number = refl

turn : (part : List ℕ) (number rest k : ℕ) → k < length part → take k part ≡ bytes_of k number → rest ≡ number / 256 ^ k
    → take (k + 1) (set part k (rest % 256)) ≡ bytes_of (k + 1) number
turn part number rest k h put left = take_more_set part k (rest % 256) h ∙ rw (put, left, bytes_of-next) refl

done : (buffer part : List ℕ) (at size number k : ℕ) → at + size ≤ length buffer → length part ≡ size → size ≤ k → k ≤ size → take k part ≡ bytes_of k number
    → put_mid at (at + size - at) buffer part ≡ pasted buffer at (bytes_of size number)
unfolding pasted
done buffer part at size number k fits e h most put =
    let s : at + size - at ≡ size = omega arith in
    let n : k ≡ size = omega arith in
    let p : part ≡ bytes_of size number = sym (take_all k part (omega arith)) ∙ put ∙ ap (λ (j : ℕ). bytes_of j number) n in
    rw (s, p, bytes_of-length, drop-drop) (sym (append_assoc (take at buffer) (bytes_of size number) (drop (at + size) buffer)))

pub loop-byte-init : goal.loop-byte-init
loop-byte-init c = record {
  size = part_size c.args.buffer.now c.args.at c.args.size c.requires;
  put = none c.args.number;
  left = sym (div-one c.args.number);
}

pub loop-byte-preserved : goal.loop-byte-preserved
loop-byte-preserved c =
    let fits : c.loop-byte.byte-index < length c.loop-byte.byte-items = omega (arith, c.loop-byte.auto.byte-items, c.loop-byte-test.true) in
    record {
      size = length-set c.loop-byte.byte-items c.loop-byte.byte-index _ ∙ c.loop-byte.invariant.size;
      put = turn c.loop-byte.byte-items c.args.number c.loop-byte.rest c.loop-byte.byte-index fits c.loop-byte.invariant.put c.loop-byte.invariant.left;
      left = rw c.loop-byte.invariant.left (byte_next c.args.number c.loop-byte.byte-index);
    }

pub returns : goal.returns
returns c =
    let e = part_size c.args.buffer.now c.args.at c.args.size c.requires in
    done c.args.buffer.now c.loop-byte.byte-items c.args.at c.args.size c.args.number c.loop-byte.byte-index c.requires c.loop-byte.invariant.size
    (omega (arith, e, c.loop-byte-test.false)) (omega (arith, e, c.loop-byte.auto.byte-index-end)) c.loop-byte.invariant.put
