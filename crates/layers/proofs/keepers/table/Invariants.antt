-- `layers::keepers::table` meets its contract. The invariant: the words of the vertices below x are made.
use Rattle.sets.proofs.Filled.{Filled}
use Rattle.layers.specs.Meaning.{vertex_words}
use Rattle.layers.proofs.keepers.table.Given as goal

abbrev pub invariant-loop-x : goal.invariant-loop-x
invariant-loop-x l = Filled 64 (vertex_words 32 l.kept l.steps) l.words l.x
