-- `search::joining::join_decided` meets its contract, by the cases of what is decided.
-- Assumes nothing.
use native.Mathlib.Omega.{arith}
use borrow.Author.Rules.{rules}
use mir.Val.{Fits}
use mir.Syntax.{w32}
use Rattle.search.specs.Joining.{as_answer, join_not_normal, join_normal}
use Rattle.search.specs.declared.answer.Search.TheVariants.{Found}
use Rattle.search.proofs.joining.join_decided.Goals as goal

pub returns-in-None : goal.returns-in-None
returns-in-None c =
    join_not_normal c.args.f c.args.n (as_answer c.args.held) c.args.a c.args.decided c.requires c.in-None.is

pub returns-in-Some : goal.returns-in-Some
returns-in-Some c =
    let h : Fits w32 c.in-Some.ones = search rules in
    join_normal c.args.f c.args.n (as_answer c.args.held) c.args.a c.args.decided c.requires
    c.in-Some.ones c.in-Some.is (omega (arith, h.fits)) (Found c.join_leader.result) c.join_leader.ensures
