use Rattle.supports.proofs.LayerLaws.{opening-start, opening-turn, opening-end}
use Rattle.supports.proofs.open_to.Goals as goal

pub loop-left-init : goal.loop-left-init
loop-left-init c = opening-start c.args.needs.now c.args.may c.args.members

pub loop-left-preserved : goal.loop-left-preserved
loop-left-preserved c =
    let l = c.loop-left in
    let a = c.args in
    let low = c.lowest-v.ensures in
    opening-turn a.needs.now a.may 64 a.members l.open l.left l.invariant low.value low.upper_bound c.allows-up.ensures c.more_if-open.ensures c.rest-left.ensures.value

pub returns : goal.returns
returns c =
    let a = c.args in
    let l = c.loop-left in
    opening-end a.needs.now a.may a.members l.open l.left l.invariant c.loop-left-test.false
