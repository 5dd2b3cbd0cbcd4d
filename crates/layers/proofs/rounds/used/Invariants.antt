-- `layers::rounds::used` meets its contract. The invariant: the words below x are made.
use mathlib.Core.List.{[]}
use Rattle.sets.proofs.Filled.{Filled}
use Rattle.planning.specs.Rounds.{listed_steps}
use Rattle.layers.specs.Meaning.{uses}
use Rattle.layers.proofs.rounds.used.Given as goal

abbrev pub invariant-loop-x : goal.invariant-loop-x
invariant-loop-x l = Filled 64 (uses (listed_steps l.vertices.needs l.vertices.gives [])) l.all l.x
