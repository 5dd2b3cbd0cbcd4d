-- `report::answer_text` meets its contract: each text by what its function told.
use mathlib.Core.Path.{sym, ap, subst, ◌∙◌}
use Rattle.arguments.specs.Answers.{answered}
use Rattle.report.specs.Outcome.{RoundsFit, text_of, result_of}
use Rattle.report.proofs.answer_text.Goals as goal

pub rounds-requires : goal.rounds-requires
rounds-requires c = subst (λ a. RoundsFit (answered (result_of a)) 16) c.in-Rounds.is c.requires

pub returns-in-Chosen : goal.returns-in-Chosen
returns-in-Chosen c = c.chosen.ensures ∙ sym (ap (λ a. text_of (answered (result_of a)) c.args.words.now) c.in-Chosen.is)

pub returns-in-Rounds : goal.returns-in-Rounds
returns-in-Rounds c = c.rounds.ensures ∙ sym (ap (λ a. text_of (answered (result_of a)) c.args.words.now) c.in-Rounds.is)
