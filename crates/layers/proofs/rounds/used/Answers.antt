use mathlib.Core.List.{[]}
use native.Mathlib.Omega.{arith}
use Rattle.sets.proofs.Filled.{filled-end}
use Rattle.planning.specs.Rounds.{listed_steps}
use Rattle.layers.specs.Meaning.{uses}
use Rattle.layers.proofs.rounds.used.Goals as goal

pub returns : goal.returns
returns c =
    let a = c.args in
    let l = c.loop-x in
    filled-end 64 (uses (listed_steps a.vertices.now.needs a.vertices.now.gives [])) l.all l.x l.invariant (omega arith)
