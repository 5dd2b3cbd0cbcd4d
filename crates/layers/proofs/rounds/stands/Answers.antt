-- `layers::rounds::stands` meets its contract.
use mathlib.Core.List.{[]}
use native.Mathlib.Omega.{arith}
use lib.ListN.{get_or}
use Rattle.planning.specs.Rounds.{listed_steps}
use Rattle.layers.specs.Meaning.{layer}
use Rattle.layers.proofs.RoundCode.{opposed-made, stands-lacks, stands-there}
use Rattle.layers.proofs.rounds.stands.Goals as goal

pub returns-then-without-ne0 : goal.returns-then-without-ne0
returns-then-without-ne0 c =
    let a = c.args in
    stands-lacks 32 (listed_steps a.needs.now [] []) (layer a.facts a.words.now) a.x c.without.result c.without.ensures c.if-without-ne0.true

pub returns : goal.returns
returns c =
    let a = c.args in
    stands-there 32 (listed_steps a.needs.now [] []) (layer a.facts a.words.now) a.x c.without.result c.gather.result c.without.ensures c.if-without-ne0.false
    (opposed-made 32 64 a.facts (get_or a.needs.now a.x 0) c.gather.result a.words.now (omega arith) (c.requires.by_index a.x c.requires.x_bound) c.gather.ensures)
