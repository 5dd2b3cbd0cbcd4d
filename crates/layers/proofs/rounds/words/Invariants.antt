-- `layers::rounds::words` meets its contract. The invariant: the words of the vertices below x are made.
use mathlib.Core.List.{List}
use Prim.Native.Nat.{ℕ}
use Rattle.sets.proofs.Filled.{Filled}
use Rattle.planning.specs.Rounds.{listed_steps}
use Rattle.planning.specs.Layers.{mutex_word, rivals}
use Rattle.layers.specs.Meaning.{layer}
use Rattle.layers.proofs.rounds.words.Given as goal

abbrev pub word_in : List ℕ → List ℕ → List ℕ → List ℕ → ℕ → ℕ → ℕ
word_in needs gives takes words members = mutex_word 64 members (rivals 32 (listed_steps needs gives takes) (layer 0 words))

abbrev pub invariant-loop-x : goal.invariant-loop-x
invariant-loop-x l = Filled 64 (word_in l.vertices.needs l.vertices.gives l.vertices.takes l.words l.members) l.all l.x
