-- `layers::facts::words` meets its contract. The invariant: the words of the facts below p are made, and those after them are 0.
use mathlib.Core.Path.{◌≡◌}
use mathlib.Core.List.{List, []}
use Prim.Native.Nat.{ℕ, ◌≤◌}
use lib.ListN.{get_or}
use Rattle.sets.proofs.Filled.{Filled}
use Rattle.planning.specs.Rounds.{listed_steps}
use Rattle.planning.specs.Layers.{mutex_word, excluded}
use Rattle.layers.specs.Meaning.{layer}
use Rattle.layers.proofs.facts.words.Given as goal

abbrev pub word_in : List ℕ → List ℕ → ℕ → ℕ → ℕ → ℕ
word_in gives words members facts = mutex_word 32 facts (excluded 32 (listed_steps [] gives []) (layer members words))

abbrev pub invariant-loop-p : goal.invariant-loop-p
invariant-loop-p l = Filled 64 (word_in l.gives l.words l.members l.facts) l.all l.p × ((k : ℕ) → l.p ≤ k → get_or l.all k 0 ≡ 0)
