use Rattle.planning.specs.Meaning.{fitting_in}
use Rattle.layers.proofs.LayerCode.{vertices-listed, needs-fit, layer-start, layer-round, layer-facts}
use Rattle.layers.proofs.fact_layer.Goals as goal

pub loop-i-init : goal.loop-i-init
loop-i-init c = layer-start (fitting_in c.args.job)

pub round_over-requires : goal.round_over-requires
round_over-requires c =
    let a = c.args in
    record { count_bound = c.requires.few; by_index = needs-fit 32 a.job.steps a.job.facts a.job.start a.job.goal a.job.horizon a.job.needs a.job.gives a.job.takes c.requires c.of-vertices.ensures.needs }

pub loop-i-preserved : goal.loop-i-preserved
loop-i-preserved c =
    let a = c.args in
    let l = c.loop-i in
    let v = c.of-vertices in
    let steps = vertices-listed 32 a.job.steps a.job.facts a.job.start a.job.goal a.job.horizon a.job.needs a.job.gives a.job.takes c.requires v.ensures.needs v.ensures.gives v.ensures.takes in
    let round = layer-round (fitting_in a.job) _ l._i _ _ steps l.invariant c.round_over.ensures in
    layer-facts (fitting_in a.job) v.result.needs v.result.gives v.result.takes l._i _ _ steps round c.facts_over-facts.ensures
