-- `calls::choose` meets its contract: each return by what the reader, the tests and the search told.
use mathlib.Core.Path.{◌∙◌}
use native.Mathlib.Omega.{arith}
use Rattle.arguments.proofs.JobLaws.{choice-read}
use Rattle.calls.proofs.ChoiceLaws.{choose-down, choose-groups, choose-goals, choose-may, choose-made}
use Rattle.std.proofs.lemmas.Result.{err_from_is_err_and}
use Rattle.calls.proofs.choose.Goals as goal

pub returns-in_err-read : goal.returns-in_err-read
returns-in_err-read c =
    let a = c.args in
    let x = err_from_is_err_and c.from_residual.result c.from_residual.ensures.1 in
    rw (x.1, x.2) (choose-down a.file.now a.groups.now a.goals.now a.floor c.read_choice.ensures.value c.in_err-read.was)

pub returns-in_err-groups : goal.returns-in_err-groups
returns-in_err-groups c =
    let a = c.args in
    let r = c.in_ok-read in
    let R = choice-read a.file.now r.read r.ensures.value r.ensures.choice_bounds in
    let x = err_from_is_err_and c.from_residual-in_err-groups.result c.from_residual-in_err-groups.ensures.1 in
    rw (x.1, x.2) (choose-groups a.file.now a.groups.now a.goals.now a.floor r.read R c.groups.ensures c.in_err-groups.was)

pub returns-in_err-goals : goal.returns-in_err-goals
returns-in_err-goals c =
    let a = c.args in
    let r = c.in_ok-read in
    let R = choice-read a.file.now r.read r.ensures.value r.ensures.choice_bounds in
    let x = err_from_is_err_and c.from_residual-in_err-goals.result c.from_residual-in_err-goals.ensures.1 in
    rw (x.1, x.2) (choose-goals a.file.now a.groups.now a.goals.now a.floor r.read R c.groups.ensures c.in_ok-groups.was c.goals.ensures c.in_err-goals.was)

pub choose-chosen-requires : goal.choose-chosen-requires
choose-chosen-requires c =
    let a = c.args in
    let r = c.in_ok-read in
    let R = choice-read a.file.now r.read r.ensures.value r.ensures.choice_bounds in
    let (room, right, within) = choose-may a.file.now a.groups.now a.goals.now a.floor r.read R c.groups.ensures c.in_ok-groups.was c.goals.ensures c.in_ok-goals.was in
    (r.ensures.choice_bounds.0, room, right, within)

pub returns : goal.returns
returns c =
    let a = c.args in
    let r = c.in_ok-read in
    let R = choice-read a.file.now r.read r.ensures.value r.ensures.choice_bounds in
    c.searched.ensures
    ∙ choose-made a.file.now a.groups.now a.goals.now a.floor r.read R c.groups.ensures c.in_ok-groups.was c.goals.ensures c.in_ok-goals.was c.choose-chosen.ensures (omega arith) (omega arith)
