-- `fair::fair` meets its contract: each return by what the reader and the test told.
use native.Mathlib.Omega.{arith}
use Rattle.std.proofs.lemmas.Result.{err_from_is_err_and}
use Rattle.arguments.proofs.JobLaws.{choice-read}
use Rattle.fair.proofs.FairLaws.{fair-down, fair-short, fair-room, fair-made}
use Rattle.fair.proofs.fair.Goals as goal

pub returns-in_err-read : goal.returns-in_err-read
returns-in_err-read c =
    let a = c.args in
    let x = err_from_is_err_and c.from_residual.result c.from_residual.ensures.1 in
    rw (x.1, x.2) (fair-down a.file.now a.orders.now a.words.now c.read_choice.ensures.value c.in_err-read.was)

pub returns-in_err-room : goal.returns-in_err-room
returns-in_err-room c =
    let a = c.args in
    let r = c.in_ok-read in
    let R = choice-read a.file.now r.read r.ensures.value r.ensures.choice_bounds in
    let x = err_from_is_err_and c.from_residual-in_err-room.result c.from_residual-in_err-room.ensures.1 in
    rw (x.1, x.2) (fair-short a.file.now a.orders.now a.words.now (λ k. omega (arith, c.shared_slice_known-1.given k)) r.read R c.room.ensures c.in_err-room.was)

pub answer_all-requires : goal.answer_all-requires
answer_all-requires c =
    let a = c.args in
    let r = c.in_ok-read in
    let R = choice-read a.file.now r.read r.ensures.value r.ensures.choice_bounds in
    (r.ensures.choice_bounds.0, fair-room a.file.now a.orders.now a.words.now (λ k. omega (arith, c.shared_slice_known-1.given k)) r.read R c.room.ensures c.in_ok-room.was)

pub returns : goal.returns
returns c =
    let a = c.args in
    let r = c.in_ok-read in
    let R = choice-read a.file.now r.read r.ensures.value r.ensures.choice_bounds in
    fair-made a.file.now a.orders.now a.words.now (λ k. omega (arith, c.shared_slice_known-1.given k)) r.read R c.room.ensures c.in_ok-room.was c.answer_all.ensures
