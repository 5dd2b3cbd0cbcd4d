-- `capi::kitchen_price` meets its contract: each return by what the call answered.
use mathlib.Core.Path.{refl, sym, ap, ◌∙◌}
use native.Mathlib.Omega.{arith}
use Rattle.bill.specs.Price.{price_told}
use Rattle.capi.specs.Returned.{bill_words}
use Rattle.capi.proofs.ReturnedLaws.{first-of-three, second-of-three, third-of-three, three-handed, three-refused}
use Rattle.capi.proofs.kitchen_price.Goals as goal

pub returns-in-Ok : goal.returns-in-Ok
returns-in-Ok c = three-handed bill_words (sym c.price-answer.ensures ∙ ap price_told c.in-Ok.is) refl c.answered.ensures.1 (omega (arith, c.answered.ensures.0)) (omega (arith, first-of-three c.answered.ensures.1)) (omega (arith, second-of-three c.answered.ensures.1)) (omega (arith, third-of-three c.answered.ensures.1))

pub returns-in-Err : goal.returns-in-Err
returns-in-Err c = three-refused bill_words (sym c.price-answer.ensures ∙ ap price_told c.in-Err.is) c.refused.ensures.1 (omega (arith, c.refused.ensures.0)) (omega (arith, first-of-three c.refused.ensures.1)) (omega (arith, second-of-three c.refused.ensures.1)) (omega (arith, third-of-three c.refused.ensures.1))
