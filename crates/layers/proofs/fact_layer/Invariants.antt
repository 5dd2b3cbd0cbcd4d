-- `layers::fact_layer` meets its contract. The invariant: the layer is that of the turns so far.
use mathlib.Core.Path.{◌≡◌}
use Rattle.planning.specs.Layers.{fact_layer}
use Rattle.planning.specs.Meaning.{fitting_in}
use Rattle.layers.specs.Meaning.{layer, roomy}
use Rattle.layers.proofs.fact_layer.Given as goal

abbrev pub invariant-loop-i : goal.invariant-loop-i
invariant-loop-i l = layer l.facts.members l.facts.words ≡ roomy 64 (fact_layer 32 (fitting_in l.job) l._i)
