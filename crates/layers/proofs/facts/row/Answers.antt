-- `layers::facts::row` meets its contract.
use borrow.Author.Rules.{rules}
use mathlib.Core.List.{[]}
use Prim.Native.Nat.{◌^◌, ◌<◌}
use Rattle.planning.specs.Rounds.{listed_steps}
use Rattle.planning.specs.Layers.{excluded}
use Rattle.layers.specs.Meaning.{layer}
use Rattle.layers.proofs.RoundCode.{word-there}
use Rattle.layers.proofs.FactCode.{row_made}
use Rattle.layers.proofs.facts.row.Goals as goal

pub returns : goal.returns
returns c =
    let a = c.args in
    let h : a.members < 2 ^ 64 = search rules in
    let made =
    row_made 32 a.members a.facts a.p a.gives.now a.words.now a.turned.now h c.requires.turned_value c.requires.facts_value
    c.less-others.result c.common-against.result c.gather-near.result c.gather-shared.result c.without-likely.result c.without-free.result c.ungiven.result
    c.requires.p_bound c.less-others.ensures c.common-against.ensures c.gather-near.ensures c.gather-shared.ensures c.without-likely.ensures c.without-free.ensures c.ungiven.ensures in
    word-there 32 a.facts (excluded 32 (listed_steps [] a.gives.now []) (layer a.members a.words.now)) a.p c.bit_at.result c.ungiven.result c.bit_at.ensures c.if-bit_at-eq0.false made
