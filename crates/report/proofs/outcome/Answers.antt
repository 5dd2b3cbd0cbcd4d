-- `report::outcome` meets its contract: by the kind of the file, what the choice or the planner told.
use mathlib.Core.Path.{refl}
use Rattle.std.proofs.lemmas.Result.{err_from_is_err_and}
use Rattle.report.proofs.OutcomeLaws.{outcome-offered, outcome-planned}
use Rattle.std.proofs.lemmas.Bool.{not_from_false, not_from_true}
use Rattle.report.proofs.outcome.Goals as goal

pub returns-then-not-is_fitting : goal.returns-then-not-is_fitting
returns-then-not-is_fitting c =
    let both = outcome-offered c.args.file.now c.args.words.now c.args.words.now c.is_fitting.ensures (not_from_false _ c.if-not-is_fitting.true) refl c.chosen.ensures in
    record { result_value = both.0; round_words = both.1 }

pub returns-in_err-rounds : goal.returns-in_err-rounds
returns-in_err-rounds c =
    let p = c.plan in
    let both = outcome-planned c.args.file.now c.args.words.now p.new.words c.is_fitting.ensures (not_from_true _ c.if-not-is_fitting.false) p.ensures.result_value p.ensures.buffer c.in_err-rounds.was in
    let x = err_from_is_err_and c.from_residual.result c.from_residual.ensures.1 in
    rw (x.1, x.2) (record { result_value = both.0; round_words = both.1 })

pub returns : goal.returns
returns c =
    let p = c.plan in
    let both = outcome-planned c.args.file.now c.args.words.now p.new.words c.is_fitting.ensures (not_from_true _ c.if-not-is_fitting.false) p.ensures.result_value p.ensures.buffer c.in_ok-rounds.was in
    record { result_value = both.0; round_words = both.1 }
