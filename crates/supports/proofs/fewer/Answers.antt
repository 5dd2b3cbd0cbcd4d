-- `supports::fewer` meets its contract.
use mathlib.Core.Path.{sym, ◌∙◌}
use Rattle.network.specs.Network.{listed}
use Rattle.supports.proofs.LayerLaws.{coverable-none, fewer-uncovered}
use Rattle.supports.proofs.fewer.Goals as goal

pub returns : goal.returns
returns c =
    let a = c.args in
    let less = c.less-less in
    fewer-uncovered a.gives.now a.mutex.now a.allowed a.facts a.why a.e a.b c.requires.b_bound.1 c.requires.b_bound.2 less.ensures
    (coverable-none (listed 64 a.gives.now a.mutex.now) a.allowed less.result c.ranges.allowed.fits (sym c.if-coverable.false ∙ c.coverable.ensures))
