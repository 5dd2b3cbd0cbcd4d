-- `choice::tabled::choose` meets its contract.
use Rattle.std.proofs.lemmas.Result.{err_from_is_err_and}
use native.Mathlib.Omega.{arith}
use lib.ListN.{get_or}
use Rattle.choice.proofs.AmongLaws.{short-chosen, among-chosen}
use Rattle.choice.proofs.tabled.choose.Goals as goal

pub returns-in_err-live : goal.returns-in_err-live
returns-in_err-live c =
    let a = c.args in
    let p = err_from_is_err_and c.from_residual.result c.from_residual.ensures.1 in
    rw (p.1, p.2) (short-chosen a.n a.wishes.now a.clashes.now (λ u. get_or a.groups.now u 0) a.goals.now a.order 0 c.requires.3 c.requires.4 c.in_err-live.ensures)

pub returns : goal.returns
returns c =
    let a = c.args in
    among-chosen 64 a.n a.wishes.now a.clashes.now (λ u. get_or a.groups.now u 0) a.goals.now a.order 0 c.requires.0 c.requires.3 c.requires.4 c.in_ok-live.ensures
    c.requires.2.shared (omega arith) c.among.ensures
