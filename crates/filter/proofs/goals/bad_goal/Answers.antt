-- `filter::goals::bad_goal` meets its contract.
use mathlib.Core.Path.{◌≡◌}
use native.Mathlib.Omega.{arith}
use Rattle.sets.specs.Sets.{without}
use Rattle.filter.proofs.GoalLaws.{bad-empty, bad-part}
use Rattle.filter.proofs.goals.bad_goal.Goals as goal

pub returns-then-goal-eq0 : goal.returns-then-goal-eq0
returns-then-goal-eq0 c = bad-empty c.args.order c.args.goal (omega (arith, c.if-goal-eq0.true))

pub returns : goal.returns
returns c = bad-part c.args.order c.args.goal (λ e. omega (arith, c.if-goal-eq0.false, e)) (let e : c.without.result ≡ without c.args.goal c.args.order = omega (arith, c.without.ensures) in e)
