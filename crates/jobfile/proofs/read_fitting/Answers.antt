-- `jobfile::read_fitting` meets its contract, as `read_choice` does.
use native.Mathlib.Omega.{arith}
use Rattle.jobfile.proofs.ReadLaws.{fitting-accepted}
use Rattle.jobfile.proofs.read_fitting.Goals as goal

pub returns : goal.returns
returns c =
    let file = c.args.file.now in
    let at = c.in_ok-at in
    let steps = c.in_ok-steps in
    let facts = c.in_ok-counted in
    let horizon = c.in_ok-horizon in
    let start = c.in_ok-start in
    let aim = c.in_ok-goal in
    let records = c.in_ok-needs in
    let all = fitting-accepted file steps.steps.value facts.counted.value horizon.horizon.value start.start.value aim.goal.value at.at steps.steps.next facts.counted.next horizon.horizon.next start.start.next aim.goal.next records.field-0
    at.ensures steps.ensures.result_value facts.ensures.result_value horizon.ensures.result_value start.ensures aim.ensures records.ensures.result_value c.in_ok-finish.ensures
    (λ k. omega (arith, c.type_inv.file k)) steps.ensures.value_le_limit facts.ensures.value_le_limit horizon.ensures.value_le_limit records.ensures.columns in
    record { value = all.0; fitting_bounds = all.1; few = all.2; bytes = λ k. omega (arith, c.type_inv.file k) }
