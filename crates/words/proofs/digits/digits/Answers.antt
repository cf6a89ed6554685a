-- `words::digits::digits` meets its contract: the goals that the check leaves. Its loop is told in `Invariants.antt`. Assumes nothing.
use Rattle.std.proofs.Common.{◌∙◌, ◌^◌, sym, arith, eqb-true, length}
use Rattle.words.specs.Digits.{digits_more, digits_stop, digits-read, word_empty, word_some}
use Rattle.words.proofs.digits.digits.Goals as goal

pub returns-then-is_empty : goal.returns-then-is_empty
returns-then-is_empty c =
    word_empty c.args.base (2 ^ 64) c.args.word.now (eqb-true (length c.args.word.now) 0 (sym c.if-is_empty.ensures))

pub loop-byte-init : goal.loop-byte-init
loop-byte-init c = (omega arith, word_some c.args.base (2 ^ 64) c.args.word.now (grind arith))

pub returns-in_err-value : goal.returns-in_err-value
returns-in_err-value c =
    c.from_residual.ensures ∙
    sym (digits_stop c.args.base c.loop-byte.value c.args.word.now c.loop-byte.byte-index (omega (arith, c.requires.0)) c.loop-byte-test.true
    (sym c.in_err-value.ensures)) ∙ c.loop-byte.invariant.1

pub loop-byte-preserved : goal.loop-byte-preserved
loop-byte-preserved c =
    let t = digits_more c.args.base c.loop-byte.value c.args.word.now c.loop-byte.byte-index c.in_ok-value.value c.loop-byte-test.true
    (sym c.in_ok-value.ensures) in
    (t.0, t.1 ∙ c.loop-byte.invariant.1)

pub returns : goal.returns
returns c =
    sym (digits-read c.args.base c.loop-byte.value c.args.word.now c.loop-byte.byte-index c.loop-byte-test.false c.loop-byte.invariant.0) ∙ c.loop-byte.invariant.1
