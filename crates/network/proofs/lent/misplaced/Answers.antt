-- `network::lent::misplaced` meets its contract.
use native.Mathlib.Omega.{arith}
use Rattle.network.proofs.LentLaws.{out_of_range, by_mask}
use Rattle.network.proofs.lent.misplaced.Goals as goal

pub returns-then-n-g : goal.returns-then-n-g
returns-then-n-g c =
    let a = c.args in
    out_of_range a.n a.clashes.now a.groups.now a.u (omega (arith, c.if-n-g.true, c.from-g.ensures))

pub returns : goal.returns
returns c =
    let a = c.args in
    let g = c.from-g in
    by_mask a.n a.clashes.now a.groups.now a.u 64 a.masks.now g.result c.clashes_all.result c.requires.0 c.requires.1 c.requires.3 g.ensures c.if-n-g.false c.clashes_all.ensures
