-- `capi::kitchen_save_wishes` meets its contract: what the call answered and left.
use mathlib.Core.Path.{ap, ◌∙◌}
use Rattle.capi.specs.Returned.{returned, alone}
use Rattle.capi.proofs.kitchen_save_wishes.Goals as goal

pub returns : goal.returns
returns c =
    let e = c.save_wishes-answer.ensures in
    record { out_after = c.saved.ensures ∙ ap (λ l. returned alone l.answer) e; to_after = ap (λ l. l.buffer) e }
