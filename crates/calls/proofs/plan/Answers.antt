-- `calls::plan` meets its contract: each return by what the reader, the test and the planner told.
use mathlib.Core.Path.{refl, sym, subst}
use native.Mathlib.Omega.{arith}
use Rattle.arguments.specs.Answers.{refusal_said}
use Rattle.arguments.proofs.TestLaws.{room-passed}
use Rattle.planning.proofs.ReadLaws.{sized-read}
use Rattle.calls.proofs.CallLaws.{fitting-job}
use Rattle.calls.proofs.ToldLaws.{seen}
use Rattle.calls.proofs.FittingLaws.{Promised, plan-down, plan-short, plan-made, plan-none}
use Rattle.std.specs.Prelude.{Ok}
use Rattle.calls.specs.Plan.{plan_told}
use Rattle.std.proofs.lemmas.Result.{err_from_is_err_and}
use Rattle.calls.proofs.plan.Goals as goal

pub returns-in_err-read : goal.returns-in_err-read
returns-in_err-read c =
    let a = c.args in
    let x = err_from_is_err_and c.from_residual.result c.from_residual.ensures.1 in
    let both = plan-down a.file.now a.words.now _ c.read_fitting.ensures.value c.in_err-read.was refl in
    rw (x.1, x.2) (record { result_value = both.0; buffer = both.1 })

pub returns-in_err-room : goal.returns-in_err-room
returns-in_err-room c =
    let a = c.args in
    let r = c.in_ok-read in
    let R = fitting-job a.file.now r.read r.ensures.value r.ensures.fitting_bounds in
    let x = err_from_is_err_and c.from_residual-in_err-room.result c.from_residual-in_err-room.ensures.1 in
    let both = plan-short a.file.now a.words.now _ r.read R c.room.ensures (omega arith) c.in_err-room.was refl in
    rw (x.1, x.2) (record { result_value = both.0; buffer = both.1 })

pub plan-made-requires : goal.plan-made-requires
plan-made-requires c =
    let r = c.in_ok-read in
    (sized-read c.args.file.now (Ok r.read) r.ensures.value r.ensures.fitting_bounds, r.ensures.fitting_bounds.2, room-passed _ _ c.room.ensures c.in_ok-room.was)

pub returns-in-Some : goal.returns-in-Some
returns-in-Some c =
    let a = c.args in
    let r = c.in_ok-read in
    let R = fitting-job a.file.now r.read r.ensures.value r.ensures.fitting_bounds in
    let p = c.plan-made in
    let both : Promised a.file.now a.words.now p.new.out (plan_told (Ok c.in-Some.k)) = plan-made a.file.now a.words.now p.new.out r.read R c.room.ensures (omega arith) c.in_ok-room.was p.ensures.value p.ensures.words c.in-Some.is (seen (λ values is. omega arith)) (omega arith) in
    record { result_value = both.0; buffer = both.1 }

pub returns-in-None : goal.returns-in-None
returns-in-None c =
    let a = c.args in
    let r = c.in_ok-read in
    let R = fitting-job a.file.now r.read r.ensures.value r.ensures.fitting_bounds in
    let p = c.plan-made in
    let both = subst (λ x. Promised a.file.now a.words.now p.new.out (refusal_said x)) (sym c.at.ensures)
    (plan-none a.file.now a.words.now p.new.out r.read R c.room.ensures (omega arith) c.in_ok-room.was p.ensures.value p.ensures.words c.in-None.is) in
    record { result_value = both.0; buffer = both.1 }
