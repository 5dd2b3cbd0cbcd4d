-- `calls::searched` meets its contract.
use native.Mathlib.Omega.{arith}
use Rattle.calls.proofs.ToldLaws.{seen, chosen-said, none_said}
use Rattle.std.proofs.lemmas.Result.{err_from_is_err_and}
use Rattle.calls.proofs.searched.Goals as goal

pub returns-in_err-found : goal.returns-in_err-found
returns-in_err-found c =
    let x = err_from_is_err_and c.from_residual.result c.from_residual.ensures.1 in
    rw (x.1, x.2) (none_said c.in_err-found.was (omega arith))

pub returns : goal.returns
returns c = chosen-said c.in_ok-found.was (seen (λ values is. omega arith)) (omega arith) (omega arith)
