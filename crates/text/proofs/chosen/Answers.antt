-- `text::chosen` meets its contract: its five parts come one after the other, and there is room for them.
use Rattle.text.proofs.TextLaws.{five-parts, chosen-fits}
use Rattle.text.proofs.chosen.Goals as goal

pub returns : goal.returns
returns c =
    let v = c.args in
    five-parts 2048 _ _ _ _ _ _ _ _ _ c.empty.ensures c.say.ensures c.set.ensures c.say-2.ensures c.set-2.ensures _ _ c.put.ensures (chosen-fits v.selection v.aside)
