-- `report::chosen` meets its contract: it hands on what the choice told.
use mathlib.Core.Path.{sym, ap, ◌∙◌}
use Rattle.calls.specs.Choose.{choice_told}
use Rattle.report.specs.Outcome.{selected, mapped}
use Rattle.std.proofs.lemmas.Result.{err_from_is_err_and}
use Rattle.report.proofs.chosen.Goals as goal

pub returns-in_err-chosen : goal.returns-in_err-chosen
returns-in_err-chosen c =
    let x = err_from_is_err_and c.from_residual.result c.from_residual.ensures.1 in
    rw (x.1, x.2) (ap (λ a. mapped selected (choice_told a)) (sym c.in_err-chosen.was) ∙ ap (mapped selected) c.offer.ensures)

pub returns : goal.returns
returns c = ap (λ a. mapped selected (choice_told a)) (sym c.in_ok-chosen.was) ∙ ap (mapped selected) c.offer.ensures
