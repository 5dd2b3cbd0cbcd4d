use mathlib.Core.List.{[]}
use mathlib.Core.Path.{◌≡◌}
use Prim.Native.Nat.{◌<◌, max}
use native.Mathlib.Omega.{arith}
use lib.ListN.{get_or}
use Rattle.network.specs.Network.{listed}
use Rattle.filter.proofs.PassLaws.{best-start, best-turn, best-end}
use Rattle.filter.proofs.contributions.Goals as goal

pub loop-u-init : goal.loop-u-init
loop-u-init c = best-start (listed c.args.n c.args.wishes.now []) (λ i. get_or c.args.groups.now i 0) c.args.live c.args.goal

pub loop-u-preserved : goal.loop-u-preserved
loop-u-preserved c =
    let a = c.args in
    let l = c.loop-u in
    let h = c.requires.2 l.u c.loop-u-test.true in
    let inside : get_or a.groups.now l.u 0 < 64 = omega (arith, h, c.requires.0) in
    best-turn (listed a.n a.wishes.now []) (λ i. get_or a.groups.now i 0) a.live a.goal l.best l.u c.carried-x.result _ l.invariant inside c.carried-x.ensures
    (let most : _ ≡ max (get_or l.best (get_or a.groups.now l.u 0) 0) c.carried-x.result = omega arith in most)

pub returns : goal.returns
returns c =
    let a = c.args in
    let l = c.loop-u in
    best-end (listed a.n a.wishes.now []) (λ i. get_or a.groups.now i 0) a.live a.goal l.best l.u l.invariant (omega arith)
