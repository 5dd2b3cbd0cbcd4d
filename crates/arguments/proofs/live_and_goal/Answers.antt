-- `arguments::live_and_goal` meets its contract.
use mathlib.Core.Path.{◌≡◌, ap, ◌∙◌}
use mathlib.Core.Bool.{true, false}
use native.Mathlib.Omega.{arith}
use Rattle.reading.specs.declared.Reason.TheVariants.{LiveOutsideFile, BadGoal}
use Rattle.std.specs.Prelude.{Err}
use Rattle.filter.specs.Filter.{outside, bad_goal}
use Rattle.arguments.proofs.VerdictLaws.{refusal_by}
use Rattle.arguments.proofs.live_and_goal.Goals as goal

pub returns-then-outside : goal.returns-then-outside
returns-then-outside c =
    let a = c.args in
    let out : outside a.articles a.live ≡ true = cc in
    ap Err (c.at.ensures ∙ ap (refusal_by LiveOutsideFile) (let place : _ ≡ 0 = omega arith in place)) ∙ simp out

pub returns-then-bad_goal : goal.returns-then-bad_goal
returns-then-bad_goal c =
    let a = c.args in
    let within : outside a.articles a.live ≡ false = cc in
    let bad : bad_goal a.order a.goal ≡ true = cc in
    ap Err (c.at-then-bad_goal.ensures ∙ ap (refusal_by BadGoal) (let place : _ ≡ 0 = omega arith in place)) ∙ simp (within, bad)

pub returns : goal.returns
returns c =
    let a = c.args in
    let within : outside a.articles a.live ≡ false = cc in
    let good : bad_goal a.order a.goal ≡ false = cc in
    simp (within, good)
