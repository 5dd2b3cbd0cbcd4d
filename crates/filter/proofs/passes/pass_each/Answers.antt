use mathlib.Core.List.{[]}
use native.Mathlib.Omega.{arith}
use lib.ListN.{get_or}
use Rattle.sets.specs.Sets.{full}
use Rattle.network.specs.Network.{listed}
use Rattle.filter.proofs.PassLaws.{onward-start, onward-short, onward-turn, onward-end}
use Rattle.filter.proofs.passes.pass_each.Goals as goal

pub loop-i-init : goal.loop-i-init
loop-i-init c =
    let a = c.args in
    onward-start (listed a.n a.wishes.now []) (λ u. get_or a.groups.now u 0) (full a.n) a.goals.now c.full-all.ensures

pub returns-then-passed-count-clause-short_value : goal.returns-then-passed-count-clause-short_value
returns-then-passed-count-clause-short_value c =
    let a = c.args in
    let l = c.loop-i in
    let short = onward-short (listed a.n a.wishes.now []) (λ u. get_or a.groups.now u 0) (full a.n) a.goals.now l.invariant c.loop-i-test.true (omega arith)
    (omega arith) c.pass-passed.ensures.sum_value c.count.ensures.value (omega (arith, c.if-passed-count.true)) in
    omega (arith, short)

pub loop-i-preserved : goal.loop-i-preserved
loop-i-preserved c =
    let a = c.args in
    let l = c.loop-i in
    let t = c.loop-i-test.true in
    let p = c.pass-passed in
    onward-turn (listed a.n a.wishes.now []) (λ u. get_or a.groups.now u 0) (full a.n) a.goals.now l.invariant t (omega arith)
    (omega arith) p.ensures.sum_value c.count.ensures.value (omega (arith, c.if-passed-count.false)) p.ensures.live_value

pub returns-clause-short_value : goal.returns-clause-short_value
returns-clause-short_value c =
    let a = c.args in
    omega (arith, onward-end (listed a.n a.wishes.now []) (λ u. get_or a.groups.now u 0) (full a.n) a.goals.now c.loop-i.invariant (omega arith))
