-- `calls::offer` meets its contract: each return by what the reader and the choice told.
use mathlib.Core.Path.{◌∙◌}
use native.Mathlib.Omega.{arith}
use Rattle.arguments.proofs.JobLaws.{choice-read}
use Rattle.calls.proofs.OfferLaws.{offer-down, offer-made}
use Rattle.std.proofs.lemmas.Result.{err_from_is_err_and}
use Rattle.calls.proofs.offer.Goals as goal

pub returns-in_err-read : goal.returns-in_err-read
returns-in_err-read c =
    let a = c.args in
    let x = err_from_is_err_and c.from_residual.result c.from_residual.ensures.1 in
    rw (x.1, x.2) (offer-down a.file.now c.read_choice.ensures.value c.in_err-read.was)

pub returns : goal.returns
returns c =
    let a = c.args in
    let r = c.in_ok-read in
    let R = choice-read a.file.now r.read r.ensures.value r.ensures.choice_bounds in
    c.searched.ensures ∙ offer-made a.file.now r.read R c.offer-chosen.ensures (omega arith)
