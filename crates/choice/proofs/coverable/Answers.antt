-- `choice::coverable` meets its contract.
use mathlib.Core.Path.{◌∙◌}
use Rattle.network.specs.Network.{listed}
use Rattle.choice.proofs.ChoiceLaws.{coverable-found}
use Rattle.choice.proofs.coverable.Goals as goal

pub returns : goal.returns
returns c =
    let a = c.args in
    c.is_some.ensures ∙ coverable-found (listed 64 a.wishes.now a.clashes.now) a.allowed a.need c.find.result c.ranges.allowed.fits c.find.ensures
