-- `arguments::goals` meets its contract.
use mathlib.Core.Path.{◌≡◌, ap, ◌∙◌}
use native.Mathlib.Omega.{arith}
use Rattle.reading.specs.declared.Reason.TheVariants.{BadGoal}
use Rattle.std.specs.Prelude.{Err}
use Rattle.arguments.proofs.VerdictLaws.{refusal_by, bad-told}
use Rattle.arguments.proofs.goals.Goals as goal

pub returns-in-Some : goal.returns-in-Some
returns-in-Some c = ap Err (c.at.ensures ∙ ap (refusal_by BadGoal) (let place : _ ≡ c.in-Some.i = omega arith in place)) ∙ simp (bad-told _ _ c.first_bad-tested.ensures c.in-Some.is)

pub returns-in-None : goal.returns-in-None
returns-in-None c = simp (bad-told _ _ c.first_bad-tested.ensures c.in-None.is)
