-- `sheet::reading::compared` meets its contract: the first record that differs decides.
-- Assumes nothing.
use mathlib.Core.Path.{◌≡◌, sym, ap, ◌∙◌}
use native.Mathlib.Omega.{arith}
use Rattle.refusals.specs.Answered.{answer-refused, answer-clear}
use Rattle.refusals.specs.Verdicts.{refuse, first_of}
use Rattle.sheet.specs.Orders.{differ_rules, rebuilt_from}
use Rattle.sheet.specs.Basis.{sheet_written, summary_table}
use Rattle.sheet.specs.Reading.{differ_verdict, same_verdict}
use Rattle.sheet.specs.Rebuilding.{rebuilt_element, rebuilt_summary, rebuilt_differing, rebuilt_room}
use Rattle.sheet.proofs.reading.compared.Goals as goal
use Rattle.std.specs.Prelude.{Ok, Err}
use Rattle.refusals.specs.declared.fault.Fault.TheVariants as faults

pub put_basis-summary-requires : goal.put_basis-summary-requires
put_basis-summary-requires c =
    let r = rebuilt_element c.args.sheet.now c.args.ring.f c.args.ring.n c.args.element c.requires.0 in
    (r.small, omega (arith, r.in_range.most))

pub first_differing-requires : goal.first_differing-requires
first_differing-requires c =
    let z = c.requires.0.shaped.size in
    let e = c.put_basis-summary.ensures.written ∙ sheet_written c.args.ring.f c.args.ring.n c.args.element c.args.basis _ c.requires.1 in
    (rw c.requires.0.count z.most, rw c.requires.0.count (omega (arith, z.whole)), rebuilt_room c.args.sheet.now c.args.ring.f c.args.ring.n c.args.element c.requires.0 _ c.put_basis-summary.new.buffer e)

pub returns-in-Some : goal.returns-in-Some
returns-in-Some c =
    let e = c.put_basis-summary.ensures.written ∙ sheet_written c.args.ring.f c.args.ring.n c.args.element c.args.basis _ c.requires.1 in
    let same = rebuilt_differing c.args.sheet.now c.args.ring.f c.args.ring.n c.args.element c.requires.0 _ c.put_basis-summary.new.buffer e in
    let place = sym same ∙ c.in-Some.ensures.1 in
    let v : first_of (differ_rules c.args.sheet.now (rebuilt_from c.args.sheet.now) 0 c.args.ring.n) ≡ refuse faults.Differs c.in-Some.place =
    differ_verdict c.args.sheet.now (rebuilt_from c.args.sheet.now) 0 c.args.ring.n (omega (arith, place, c.in-Some.ensures.0)) ∙ ap (refuse faults.Differs) place in
    answer-refused Err _ v

pub returns-in-None : goal.returns-in-None
returns-in-None c =
    let e = c.put_basis-summary.ensures.written ∙ sheet_written c.args.ring.f c.args.ring.n c.args.element c.args.basis _ c.requires.1 in
    let same = rebuilt_differing c.args.sheet.now c.args.ring.f c.args.ring.n c.args.element c.requires.0 _ c.put_basis-summary.new.buffer e in
    let place = sym same ∙ c.in-None.ensures in
    ap Ok
    (c.put_basis-summary.ensures.summary ∙ summary_table c.args.ring.f c.args.ring.n c.args.element c.args.basis c.requires.1
    ∙ rebuilt_summary c.args.sheet.now c.args.ring.f c.args.ring.n c.args.element c.requires.0)
    ∙ answer-clear Err _ (same_verdict c.args.sheet.now (rebuilt_from c.args.sheet.now) 0 c.args.ring.n (omega (arith, place)))
