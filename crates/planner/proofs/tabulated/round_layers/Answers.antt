use native.Mathlib.Omega.{arith}
use Rattle.planning.specs.Meaning.{fitting_in}
use Rattle.layers.proofs.LayerCode.{vertices-listed, needs-fit, layer-start, layer-round, layer-facts}
use Rattle.planner.proofs.LaidLaws.{laid_none, laid-turn}
use Rattle.planner.proofs.tabulated.round_layers.Goals as goal

pub loop-j-init : goal.loop-j-init
loop-j-init c =
    let F = fitting_in c.args.job in
    (layer-start F, laid_none F)

pub round_over-round-requires : goal.round_over-round-requires
round_over-round-requires c =
    let job = c.args.job in
    record {
      count_bound = c.requires.0.few;
      by_index = needs-fit 32 job.steps job.facts job.start job.goal job.horizon job.needs job.gives job.takes c.requires.0 c.of-vertices.ensures.needs;
    }

pub loop-j-preserved : goal.loop-j-preserved
loop-j-preserved c =
    let l = c.loop-j in
    let v = c.of-vertices in
    let job = c.args.job in
    let steps = vertices-listed 32 job.steps job.facts job.start job.goal job.horizon job.needs job.gives job.takes c.requires.0 v.ensures.needs v.ensures.gives v.ensures.takes in
    let round = layer-round (fitting_in job) _ l.j _ _ steps l.invariant.0 c.round_over-round.ensures in
    (layer-facts (fitting_in job) v.result.needs v.result.gives v.result.takes l.j _ _ steps round c.facts_over-facts.ensures, laid-turn (fitting_in job) l.j _ _ l.members l.words c.put.new.words (omega (arith, c.requires.1)) l.invariant.1 round c.put.ensures)
