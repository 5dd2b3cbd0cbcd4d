-- `capi::kitchen_partition` meets its contract: each return by what the call answered and left.
use mathlib.Core.Path.{refl, sym, ap, ◌∙◌}
use native.Mathlib.Omega.{arith}
use Rattle.calls.specs.Partition.{partition_told}
use Rattle.capi.specs.Returned.{nothing}
use Rattle.capi.proofs.ReturnedLaws.{first_word, second_word, value-handed, refusal-handed}
use Rattle.capi.proofs.kitchen_partition.Goals as goal

pub returns-in-Ok : goal.returns-in-Ok
returns-in-Ok c =
    let e = c.partition-answer.ensures in
    record { out_after = value-handed nothing (sym (ap (λ l. l.answer) e) ∙ ap partition_told c.in-Ok.is) refl c.answered.ensures.1 (omega (arith, c.answered.ensures.0)) (omega (arith, first_word c.answered.ensures.1)) (omega (arith, second_word c.answered.ensures.1)); groups_after = ap (λ l. l.buffer) e }

pub returns-in-Err : goal.returns-in-Err
returns-in-Err c =
    let e = c.partition-answer.ensures in
    record { out_after = refusal-handed nothing (sym (ap (λ l. l.answer) e) ∙ ap partition_told c.in-Err.is) c.refused.ensures.1 (omega (arith, c.refused.ensures.0)) (omega (arith, first_word c.refused.ensures.1)) (omega (arith, second_word c.refused.ensures.1)); groups_after = ap (λ l. l.buffer) e }
