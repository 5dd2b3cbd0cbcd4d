-- `calls::pass` meets its contract: each return by what the reader, the tests and the filter told.
use native.Mathlib.Omega.{arith}
use lib.ListN.{get_or}
use Rattle.network.proofs.GroupLaws.{lent-right}
use Rattle.arguments.specs.Meaning.{network_in}
use Rattle.arguments.proofs.TestLaws.{groups-passed}
use Rattle.arguments.proofs.JobLaws.{choice-read}
use Rattle.calls.proofs.ChoiceLaws.{pass-down, pass-groups, pass-goal, pass-made}
use Rattle.std.proofs.lemmas.Result.{err_from_is_err_and}
use Rattle.calls.proofs.pass.Goals as goal

pub returns-in_err-read : goal.returns-in_err-read
returns-in_err-read c =
    let a = c.args in
    let x = err_from_is_err_and c.from_residual.result c.from_residual.ensures.1 in
    rw (x.1, x.2) (pass-down a.file.now a.groups.now a.live.bits a.goal c.read_choice.ensures.value c.in_err-read.was)

pub returns-in_err-groups : goal.returns-in_err-groups
returns-in_err-groups c =
    let a = c.args in
    let r = c.in_ok-read in
    let R = choice-read a.file.now r.read r.ensures.value r.ensures.choice_bounds in
    let x = err_from_is_err_and c.from_residual-in_err-groups.result c.from_residual-in_err-groups.ensures.1 in
    rw (x.1, x.2) (pass-groups a.file.now a.groups.now a.live.bits a.goal r.read R c.groups.ensures c.in_err-groups.was)

pub returns-in_err-live_and_goal : goal.returns-in_err-live_and_goal
returns-in_err-live_and_goal c =
    let a = c.args in
    let r = c.in_ok-read in
    let R = choice-read a.file.now r.read r.ensures.value r.ensures.choice_bounds in
    let x = err_from_is_err_and c.from_residual-in_err-live_and_goal.result c.from_residual-in_err-live_and_goal.ensures.1 in
    rw (x.1, x.2) (pass-goal a.file.now a.groups.now a.live.bits a.goal r.read R c.groups.ensures c.in_ok-groups.was c.live_and_goal.ensures c.in_err-live_and_goal.was)

pub pass-passed-requires : goal.pass-passed-requires
pass-passed-requires c =
    let r = c.in_ok-read in
    let (room, right) = groups-passed (network_in r.read) c.args.groups.now c.groups.ensures c.in_ok-groups.was in
    (r.ensures.choice_bounds.0, room, (lent-right (network_in r.read) (λ u. get_or c.args.groups.now u 0) right).inside)

pub returns : goal.returns
returns c =
    let a = c.args in
    let r = c.in_ok-read in
    let R = choice-read a.file.now r.read r.ensures.value r.ensures.choice_bounds in
    pass-made a.file.now a.groups.now a.live.bits a.goal r.read R c.groups.ensures c.in_ok-groups.was c.live_and_goal.ensures c.in_ok-live_and_goal.was c.pass-passed.ensures.live_value c.pass-passed.ensures.sum_value (omega arith) (omega arith) (omega arith) (omega arith)
