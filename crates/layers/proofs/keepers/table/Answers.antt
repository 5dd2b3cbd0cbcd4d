use native.Mathlib.Omega.{arith}
use Rattle.sets.proofs.Filled.{filled-end}
use Rattle.layers.specs.Meaning.{vertex_words}
use Rattle.layers.proofs.keepers.table.Goals as goal

pub returns : goal.returns
returns c =
    let a = c.args in
    let l = c.loop-x in
    filled-end 64 (vertex_words 32 a.kept a.steps.now) l.words l.x l.invariant (omega arith)
