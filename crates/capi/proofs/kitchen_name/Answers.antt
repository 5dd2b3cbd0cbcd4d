-- `capi::kitchen_name` meets its contract: the words are the spot.
use native.Mathlib.Omega.{arith}
use Rattle.capi.proofs.ReturnedLaws.{first_word, second_word, spot-handed}
use Rattle.capi.proofs.kitchen_name.Goals as goal

pub returns : goal.returns
returns c = spot-handed c.spot-spot.ensures.value c.answered.ensures.1 (omega (arith, c.answered.ensures.0)) (omega (arith, first_word c.answered.ensures.1)) (omega (arith, second_word c.answered.ensures.1))
