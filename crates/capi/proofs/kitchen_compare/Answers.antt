-- `capi::kitchen_compare` meets its contract: each return by what the call answered.
use mathlib.Core.Path.{sym, ap, ◌∙◌}
use native.Mathlib.Omega.{arith}
use Rattle.calls.specs.Compare.{compare_told}
use Rattle.capi.specs.Returned.{test}
use Rattle.capi.proofs.ReturnedLaws.{first_word, second_word, value-handed, refusal-handed}
use Rattle.capi.proofs.kitchen_compare.Goals as goal

pub returns-in-Ok-true : goal.returns-in-Ok-true
returns-in-Ok-true c = value-handed test (sym c.compare-answer.ensures ∙ ap compare_told c.in-Ok-true.is) (ap test c.in-Ok-true.field-0-test) c.answered.ensures.1 (omega (arith, c.answered.ensures.0)) (omega (arith, first_word c.answered.ensures.1)) (omega (arith, second_word c.answered.ensures.1))

pub returns-in-Ok-false : goal.returns-in-Ok-false
returns-in-Ok-false c = value-handed test (sym c.compare-answer.ensures ∙ ap compare_told c.in-Ok-false.is) (ap test c.in-Ok-false.field-0-test) c.answered-in-Ok-false.ensures.1 (omega (arith, c.answered-in-Ok-false.ensures.0)) (omega (arith, first_word c.answered-in-Ok-false.ensures.1)) (omega (arith, second_word c.answered-in-Ok-false.ensures.1))

pub returns-in-Err : goal.returns-in-Err
returns-in-Err c = refusal-handed test (sym c.compare-answer.ensures ∙ ap compare_told c.in-Err.is) c.refused.ensures.1 (omega (arith, c.refused.ensures.0)) (omega (arith, first_word c.refused.ensures.1)) (omega (arith, second_word c.refused.ensures.1))
