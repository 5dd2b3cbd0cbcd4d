use mathlib.Core.Path.{sym, ◌∙◌}
use native.Mathlib.Omega.{arith}
use lib.ListN.{get_or}
use Rattle.sets.proofs.Lowest.{gathered-visit}
use Rattle.sets.proofs.Made.{gathered-end}
use Rattle.sets.proofs.word.gather.Goals as goal

pub loop-left-preserved : goal.loop-left-preserved
loop-left-preserved c =
    let l = c.loop-left in
    let visit = gathered-visit 64 (λ i. get_or c.args.table.now i 0) l.all l.left c.lowest-i.result c.rest-left.result l.invariant.0 c.loop-left-test.true c.lowest-i.ensures.value c.rest-left.ensures.value in
    (omega (arith, c.rest-left.ensures.upper_bound, l.invariant.0), visit ∙ l.invariant.1)

pub returns : goal.returns
returns c =
    let l = c.loop-left in
    sym (gathered-end 64 (λ i. get_or c.args.table.now i 0) l.all l.left c.loop-left-test.false) ∙ l.invariant.1
