-- `calls::partition` meets its contract: each return by what the reader and the test told.
use Prim.Native.Nat.{◌≤◌}
use native.Mathlib.Omega.{arith}
use lib.ListN.{length}
use Rattle.arguments.proofs.TestLaws.{room-passed}
use Rattle.arguments.proofs.JobLaws.{choice-read}
use Rattle.calls.proofs.ChoiceLaws.{partition-down, partition-short, partition-made}
use Rattle.std.proofs.lemmas.Result.{err_from_is_err_and}
use Rattle.calls.proofs.partition.Goals as goal

pub returns-in_err-read : goal.returns-in_err-read
returns-in_err-read c =
    let a = c.args in
    let x = err_from_is_err_and c.from_residual.result c.from_residual.ensures.1 in
    rw (x.1, x.2) (partition-down a.file.now a.groups.now c.read_choice.ensures.value c.in_err-read.was)

pub returns-in_err-room : goal.returns-in_err-room
returns-in_err-room c =
    let a = c.args in
    let r = c.in_ok-read in
    let R = choice-read a.file.now r.read r.ensures.value r.ensures.choice_bounds in
    let x = err_from_is_err_and c.from_residual-in_err-room.result c.from_residual-in_err-room.ensures.1 in
    rw (x.1, x.2) (partition-short a.file.now a.groups.now r.read R c.room.ensures (omega arith) c.in_err-room.was)

pub partition-requires : goal.partition-requires
partition-requires c =
    let r = c.in_ok-read in
    let few = r.ensures.choice_bounds.0 in
    let room : r.read.articles ≤ length c.args.groups.now = room-passed _ _ c.room.ensures c.in_ok-room.was in
    (omega arith, omega arith)

pub returns : goal.returns
returns c =
    let a = c.args in
    let r = c.in_ok-read in
    let R = choice-read a.file.now r.read r.ensures.value r.ensures.choice_bounds in
    partition-made a.file.now a.groups.now r.read R c.room.ensures (omega arith) c.in_ok-room.was c.partition.ensures (omega arith)
