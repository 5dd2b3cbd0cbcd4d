use native.Mathlib.Omega.{arith}
use Rattle.sets.proofs.Filled.{filled-end}
use Rattle.planning.specs.Layers.{mutexes}
use Rattle.layers.proofs.rounds.words.Invariants.{word_in}
use Rattle.layers.proofs.rounds.words.Goals as goal

pub returns : goal.returns
unfolding mutexes
returns c =
    let l = c.loop-x in
    let a = c.args in
    filled-end 64 (word_in a.vertices.now.needs a.vertices.now.gives a.vertices.now.takes a.words.now a.members) l.all l.x l.invariant (omega arith)
