-- `sheet::record::put_sheet` meets its contract: the goals that the check leaves. Its loop is told in `Invariants.antt`. Assumes nothing.
use mathlib.Core.Path.{◌≡◌, ap, ◌∙◌}
use mathlib.Core.List.{List}
use Prim.Native.Nat.{ℕ, ◌*◌, ◌≤◌}
use native.Mathlib.Omega.{arith}
use lib.ListN.{length}
use Rattle.sheet.specs.Record.{record_size, records_to}
use Rattle.sheet.specs.Bytes.{pasted, pasted_length}
use Rattle.sheet.specs.Writing.{records_to-length, sheet_start, sheet_turn}
use Rattle.sheet.proofs.record.put_sheet.Goals as goal

put-length : (start buffer : List ℕ) (i n tail : ℕ) (C I T : List ℕ) → record_size * n ≤ length start → i ≤ n
    → buffer ≡ pasted start 0 (records_to i n tail C I T) → length buffer ≡ length start
put-length start buffer i n tail C I T fits h e =
    rw e (pasted_length start 0 (records_to i n tail C I T) (rw records_to-length (omega arith)))

done : (start buffer : List ℕ) (i n tail : ℕ) (C I T : List ℕ) → n ≤ i → (i ≤ n) × (buffer ≡ pasted start 0 (records_to i n tail C I T))
    → buffer ≡ pasted start 0 (records_to n n tail C I T)
done start buffer i n tail C I T h inv = let e : i ≡ n = omega (arith, inv.0) in inv.1 ∙ ap (λ (k : ℕ). pasted start 0 (records_to k n tail C I T)) e

pub loop-i-init : goal.loop-i-init
loop-i-init c =
    (omega arith, sheet_start c.args.buffer.now c.args.n c.args.tail c.args.basis.conjugates c.args.basis.inverse c.args.basis.table)

pub offset_bounds-basis-i : goal.offset_bounds-basis-i
offset_bounds-basis-i c = omega (arith, c.requires.0)

pub bounds-basis-i : goal.bounds-basis-i
bounds-basis-i c = omega (arith, c.requires.0)

pub offset_bounds-basis-i-in-loop-i : goal.offset_bounds-basis-i-in-loop-i
offset_bounds-basis-i-in-loop-i c = omega (arith, c.requires.0)

pub bounds-basis-i-in-loop-i : goal.bounds-basis-i-in-loop-i
bounds-basis-i-in-loop-i c = omega (arith, c.requires.0)

pub offset_bounds-basis-i-in-loop-i-2 : goal.offset_bounds-basis-i-in-loop-i-2
offset_bounds-basis-i-in-loop-i-2 c = omega (arith, c.requires.0)

pub bounds-basis-i-in-loop-i-2 : goal.bounds-basis-i-in-loop-i-2
bounds-basis-i-in-loop-i-2 c = omega (arith, c.requires.0)

pub put_record-requires : goal.put_record-requires
put_record-requires c =
    omega (arith, c.requires.1, put-length c.args.buffer.now c.loop-i.buffer c.loop-i.i c.args.n c.args.tail c.args.basis.conjugates c.args.basis.inverse c.args.basis.table c.requires.1 c.loop-i.invariant.0 c.loop-i.invariant.1)

pub loop-i-preserved : goal.loop-i-preserved
loop-i-preserved c = (
  omega arith,
  sheet_turn c.args.buffer.now c.loop-i.buffer c.put_record.new.buffer c.loop-i.i c.args.n c.args.tail c.args.basis.conjugates c.args.basis.inverse c.args.basis.table
      (omega (arith, c.requires.1, c.loop-i-test.true)) c.loop-i.invariant.1 c.put_record.ensures,
)

pub shape_of-buffer : goal.shape_of-buffer
shape_of-buffer c =
    put-length c.args.buffer.now c.loop-i.buffer c.loop-i.i c.args.n c.args.tail c.args.basis.conjugates c.args.basis.inverse c.args.basis.table c.requires.1 c.loop-i.invariant.0 c.loop-i.invariant.1

pub returns : goal.returns
returns c =
    done c.args.buffer.now c.loop-i.buffer c.loop-i.i c.args.n c.args.tail c.args.basis.conjugates c.args.basis.inverse c.args.basis.table c.loop-i-test.false c.loop-i.invariant
