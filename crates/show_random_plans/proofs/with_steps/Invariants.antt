-- `show_random_plans::with_steps`: each step starts from a fact of the job.
use Rattle.std.proofs.Common.{◌<◌}
use Rattle.show_random_plans.proofs.with_steps.Given as goal

abbrev pub invariant-loop : goal.invariant-loop
invariant-loop l = l.fact < l.facts
