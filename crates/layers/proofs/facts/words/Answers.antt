use native.Mathlib.Omega.{arith}
use Rattle.sets.proofs.Ranges.{zeros}
use Rattle.sets.proofs.Filled.{filled-start, filled-part}
use Rattle.planning.specs.Layers.{mutexes}
use Rattle.layers.proofs.facts.words.Invariants.{word_in}
use Rattle.layers.proofs.facts.words.Goals as goal

pub loop-p-init : goal.loop-p-init
loop-p-init c = let a = c.args in (filled-start 64 (word_in a.gives.now a.words.now a.members a.facts), λ k l. zeros 64 k)

pub returns : goal.returns
unfolding mutexes
returns c =
    let a = c.args in
    let l = c.loop-p in
    filled-part 64 (word_in a.gives.now a.words.now a.members a.facts) l.all l.p 32 l.invariant.0 l.invariant.1 (omega arith)
