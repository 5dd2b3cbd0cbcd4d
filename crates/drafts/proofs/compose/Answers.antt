-- `drafts::compose` meets its contract: the page has the file in front, and what reading it there says is what the draft says.
use mathlib.Core.Path.{sym, ap, ◌∙◌}
use lib.ListN.{take}
use native.Mathlib.Omega.{arith}
use Rattle.std.proofs.lemmas.Result.{err_from_is_err_and}
use Rattle.drafts.proofs.DraftLaws.{by_reading, page-drafted}
use Rattle.drafts.proofs.compose.Goals as goal

pub returns-in_err-read_choice : goal.returns-in_err-read_choice
returns-in_err-read_choice c =
    let p = c.put_choice-len.ensures in
    let x = err_from_is_err_and c.from_residual.result c.from_residual.ensures.1 in
    rw (x.1, x.2) (ap (λ v. by_reading v (take c.put_choice-len.result c.put_choice-len.new.page)) (sym c.in_err-read_choice.was) ∙ page-drafted p.put (omega (arith, p.upper_bound, c.requires.0)) c.read_choice.ensures.value)

pub returns : goal.returns
returns c =
    let p = c.put_choice-len.ensures in
    ap (λ v. by_reading v (take c.put_choice-len.result c.put_choice-len.new.page)) (sym c.in_ok-read_choice.was) ∙ page-drafted p.put (omega (arith, p.upper_bound, c.requires.0)) c.read_choice.ensures.value

pub invariant_of-result : goal.invariant_of-result
invariant_of-result c = record { fits = omega (arith, c.put_choice-len.ensures.upper_bound, c.requires.0) }
