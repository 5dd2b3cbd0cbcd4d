-- `layers::facts_over` meets its contract.
use mathlib.Core.List.{[]}
use Rattle.planning.specs.Rounds.{listed_steps}
use Rattle.layers.proofs.FactCode.{facts-made}
use Rattle.layers.proofs.facts_over.Goals as goal

pub returns : goal.returns
returns c =
    let a = c.args in
    facts-made (listed_steps [] a.gives.now []) a.below.members c.gather-members.result a.below.words c.words-words.result c.gather-members.ensures c.words-words.ensures
