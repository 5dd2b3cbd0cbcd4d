use mathlib.Core.Path.{◌∙◌}
use native.Mathlib.Omega.{arith}
use lib.ListN.{length-set}
use Rattle.sets.proofs.Tables.{mark-turn, mark-end}
use Rattle.sets.proofs.table.mark.Goals as goal

pub loop-left-preserved : goal.loop-left-preserved
loop-left-preserved c =
    let l = c.loop-left in
    let d = c.loop-left-test.true in
    let low = c.lowest-i in
    let turn = mark-turn 64 l.turned l.left c.args.j low.result c.more.result c.rest-left.result l.invariant.0 l.invariant.1 d low.ensures.value c.more.ensures c.rest-left.ensures.value in
    (length-set l.turned low.result c.more.result ∙ l.invariant.0, omega (arith, c.rest-left.ensures.upper_bound, l.invariant.1), turn ∙ l.invariant.2)

pub returns : goal.returns
returns c =
    let l = c.loop-left in
    mark-end 64 l.turned l.left c.args.j l.invariant.0 c.loop-left-test.false ∙ l.invariant.2
