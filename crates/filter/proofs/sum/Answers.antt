use mathlib.Core.Path.{refl}
use native.Mathlib.Omega.{arith}
use lib.ListN.{get_or}
use Rattle.sets.specs.Ranges.{sum_to}
use Rattle.sets.proofs.Ranges.{sum-turn}
use Rattle.filter.proofs.sum.Goals as goal

pub loop-j-init : goal.loop-j-init
unfolding sum_to
loop-j-init c = (refl, omega arith)

pub loop-j-preserved : goal.loop-j-preserved
loop-j-preserved c =
    let l = c.loop-j in
    let h = c.requires l.j (omega (arith, c.loop-j-test.true)) in
    (omega (arith, l.invariant.0, h, sum-turn l.j (λ i. get_or c.args.best.now i 0)), omega (arith, l.invariant.1, h))
