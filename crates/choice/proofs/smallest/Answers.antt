-- `choice::smallest` meets its contract.
use Rattle.network.specs.Network.{listed}
use Rattle.choice.proofs.ChoiceLaws.{least-found}
use Rattle.choice.proofs.smallest.Goals as goal

pub returns : goal.returns
returns c =
    let a = c.args in
    least-found (listed 64 a.wishes.now a.clashes.now) a.allowed a.need a.floor c.seek.result c.ranges.allowed.fits c.seek.ensures
