-- `planner::plan` meets its contract: the round layers that it lends to the search are those of the fitting.
use mathlib.Core.Path.{refl}
use lib.ListN.{take}
use Rattle.planning.specs.Meaning.{fitting_in}
use Rattle.planner.proofs.PlannerLaws.{layered}
use Rattle.planner.proofs.plan.Goals as goal

pub shortest-requires : goal.shortest-requires
shortest-requires c =
    let h = c.args.job.horizon in
    let (sized, few, room) = c.requires in
    let made = c.round_layers-layers in
    let members = made.result.members in
    (sized, few, room, layered (fitting_in c.args.job) h members (take h members) made.result.words few made.ensures refl)
