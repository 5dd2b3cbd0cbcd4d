-- `layers::rounds::standing` meets its contract. The invariant: the set so far is that of the vertices seen that stand.
use mathlib.Core.Path.{◌≡◌}
use mathlib.Core.List.{[]}
use Rattle.sets.specs.Sets.{set_of}
use Rattle.planning.specs.Rounds.{listed_steps}
use Rattle.planning.specs.Layers.{stands}
use Rattle.layers.specs.Meaning.{layer}
use Rattle.layers.proofs.rounds.standing.Given as goal

abbrev pub invariant-loop-x : goal.invariant-loop-x
invariant-loop-x l = l.set ≡ set_of l.x (stands 32 (listed_steps l.needs [] []) (layer l.facts l.words))
