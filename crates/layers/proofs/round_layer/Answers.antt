-- `layers::round_layer` meets its contract.
use Prim.Native.Nat.{◌-◌}
use Rattle.planning.specs.Meaning.{fitting_in}
use Rattle.layers.proofs.LayerCode.{vertices-listed, needs-fit, layer-round}
use Rattle.layers.proofs.round_layer.Goals as goal

pub round_over-requires : goal.round_over-requires
round_over-requires c =
    let a = c.args in
    record { count_bound = c.requires.0.few; by_index = needs-fit 32 a.job.steps a.job.facts a.job.start a.job.goal a.job.horizon a.job.needs a.job.gives a.job.takes c.requires.0 c.of.ensures.needs }

pub returns : goal.returns
returns c =
    let a = c.args in
    let v = c.of in
    let steps = vertices-listed 32 a.job.steps a.job.facts a.job.start a.job.goal a.job.horizon a.job.needs a.job.gives a.job.takes c.requires.0 v.ensures.needs v.ensures.gives v.ensures.takes in
    layer-round (fitting_in a.job) _ (a.k - 1) _ _ steps c.fact_layer.ensures c.round_over.ensures
