-- `filter::goals::first_bad` meets its contract.
use borrow.Author.Rules.{rules}
use borrow.Author.Tests.{tests}
use mathlib.Core.Path.{◌≡◌, sym, ap, ◌∙◌}
use native.Mathlib.Omega.{arith}
use Rattle.std.specs.Prelude.{Some}
use Rattle.std.proofs.lemmas.Iterator.{YieldsList-from_slice}
use Rattle.std.proofs.lemmas.Iterator.Search.{position_from_yields_List}
use Rattle.filter.specs.Filter.{bad_goal}
use Rattle.filter.proofs.GoalLaws.{position-bad}
use Rattle.filter.proofs.goals.first_bad.Goals as goal

pub returns-in_err-place : goal.returns-in_err-place
returns-in_err-place c =
    c.from_residual.ensures
    ∙ sym c.in_err-place.was
    ∙ position_from_yields_List (bad_goal c.args.order) _ _ c.position.result c.position.ensures.ran (YieldsList-from_slice c.args.goals.now cc) (λ x b q k. search (rules, tests))
    ∙ position-bad c.args.order c.args.goals.now

pub returns : goal.returns
returns c =
    ap Some (let place : _ ≡ c.in_ok-place.place = omega arith in place)
    ∙ sym c.in_ok-place.was
    ∙ position_from_yields_List (bad_goal c.args.order) _ _ c.position.result c.position.ensures.ran (YieldsList-from_slice c.args.goals.now cc) (λ x b q k. search (rules, tests))
    ∙ position-bad c.args.order c.args.goals.now
