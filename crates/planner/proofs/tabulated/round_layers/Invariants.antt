-- `planner::tabulated::round_layers` meets its contract. The invariant: the fact layer is that of the turns so far, and the tables hold a round layer a turn.
use mathlib.Core.Path.{◌≡◌}
use Rattle.planning.specs.Layers.{fact_layer}
use Rattle.planning.specs.Meaning.{fitting_in}
use Rattle.layers.specs.Meaning.{layer, roomy}
use Rattle.planner.specs.Tabulated.{Laid}
use Rattle.planner.proofs.tabulated.round_layers.Given as goal

abbrev pub invariant-loop-j : goal.invariant-loop-j
invariant-loop-j l = (layer l.facts.members l.facts.words ≡ roomy 64 (fact_layer 32 (fitting_in l.job) l.j)) × Laid (fitting_in l.job) l.j l.members l.words
