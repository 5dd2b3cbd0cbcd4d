-- `report::text` meets its contract: each text by what its function told.
use mathlib.Core.Path.{sym, ap, subst, ◌∙◌}
use Rattle.text.specs.Text.{refused_text}
use Rattle.report.specs.Outcome.{RoundsFit, text_of, outcome_told}
use Rattle.report.proofs.text.Goals as goal

pub answer_text-requires : goal.answer_text-requires
answer_text-requires c = subst (λ o. RoundsFit (outcome_told o) 16) c.in-Ok.is c.requires

pub returns-in-Ok : goal.returns-in-Ok
returns-in-Ok c = c.answer_text.ensures ∙ sym (ap (λ o. text_of (outcome_told o) c.args.words.now) c.in-Ok.is)

pub returns-in-Err : goal.returns-in-Err
returns-in-Err c =
    c.refused.ensures ∙ ap (λ n. refused_text n c.in-Err.refusal.place) c.from-number.ensures
    ∙ sym (ap (λ o. text_of (outcome_told o) c.args.words.now) c.in-Err.is)
