-- `layers::rounds::row` meets its contract.
use borrow.Author.Rules.{rules}
use mathlib.Core.Path.{ap, ◌∙◌}
use Prim.Native.Nat.{ℕ, ◌^◌, ◌<◌}
use native.Mathlib.Omega.{arith}
use lib.ListN.{get_or}
use Rattle.sets.specs.Sets.{meets}
use Rattle.planning.specs.Rounds.{listed_steps}
use Rattle.planning.specs.Layers.{rivals}
use Rattle.layers.specs.Meaning.{layer}
use Rattle.layers.proofs.RoundCode.{opposed-made, row_made, word-there}
use Rattle.layers.proofs.rounds.row.Goals as goal

pub returns : goal.returns
returns c =
    let a = c.args in
    let T = c.requires.turned in
    let S = listed_steps a.vertices.now.needs a.vertices.now.gives a.vertices.now.takes in
    let L = layer 0 a.words.now in
    let against = opposed-made 32 64 0 (get_or a.vertices.now.needs a.x 0) c.gather-against.result a.words.now (omega arith) (c.requires.by_index a.x c.requires.x_bound) c.gather-against.ensures in
    let h : a.members < 2 ^ 64 = search rules in
    word-there 64 a.members (rivals 32 S L) a.x c.bit_at.result _ c.bit_at.ensures c.if-bit_at-eq0.false
    (row_made 32 64 S L a.members a.x c.less-others.result c.meeting-disturbed.result c.meeting-disturbing.result c.meeting-opposed.result h c.less-others.ensures
    (c.meeting-disturbed.ensures _ T.users)
    (c.meeting-disturbing.ensures _ T.takers)
    (λ y l. c.meeting-opposed.ensures _ T.needers y l ∙ ap (λ (o : ℕ). meets o (get_or a.vertices.now.needs y 0)) against))
