-- `report::report` meets its contract: the text of what came of the file and of the words that it left.
use mathlib.Core.Path.{sym, ap, subst, ◌∙◌}
use lib.ListN.{replicate}
use Rattle.report.specs.Outcome.{RoundWords, outcome_of, RoundsFit, text_of}
use Rattle.report.proofs.OutcomeLaws.{no-rounds, outcome-within}
use Rattle.report.proofs.report.Goals as goal

pub text-requires : goal.text-requires
text-requires c = subst (λ s. RoundsFit s 16) (sym c.outcome-done.ensures.result_value) (outcome-within c.args.file.now (replicate 16 0))

pub returns : goal.returns
returns c =
    let f = c.args.file.now in
    let o = c.outcome-done in
    (o.new.words, subst (λ old. RoundWords f old o.new.words) no-rounds o.ensures.round_words, c.text.ensures ∙ ap (λ s. text_of s o.new.words) (o.ensures.result_value ∙ ap (outcome_of f) no-rounds))
