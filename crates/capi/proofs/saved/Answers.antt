-- `capi::saved` meets its contract: each return by what the call answered.
use mathlib.Core.Path.{refl, ap}
use native.Mathlib.Omega.{arith}
use Rattle.calls.specs.Save.{save_told}
use Rattle.capi.specs.Returned.{alone}
use Rattle.capi.proofs.ReturnedLaws.{first_word, second_word, value-handed, refusal-handed}
use Rattle.capi.proofs.saved.Goals as goal

pub returns-in-Ok : goal.returns-in-Ok
returns-in-Ok c =
    value-handed alone (ap save_told c.in-Ok.is) refl c.answered.ensures.1 (omega (arith, c.answered.ensures.0)) (omega (arith, first_word c.answered.ensures.1)) (omega (arith, second_word c.answered.ensures.1))

pub returns-in-Err : goal.returns-in-Err
returns-in-Err c =
    refusal-handed alone (ap save_told c.in-Err.is) c.refused.ensures.1 (omega (arith, c.refused.ensures.0)) (omega (arith, first_word c.refused.ensures.1)) (omega (arith, second_word c.refused.ensures.1))
