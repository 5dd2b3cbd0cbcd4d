-- `text::refused` meets its contract: its five parts come one after the other, and there is room for them.
use borrow.Author.Rules.{rules}
use Rattle.text.proofs.TextLaws.{five-parts, refused-fits}
use Rattle.text.proofs.refused.Goals as goal

pub returns : goal.returns
returns c =
    let v = c.args in
    five-parts 2048 _ _ _ _ _ _ _ _ _ c.empty.ensures c.say.ensures c.number.ensures c.say-2.ensures c.number-2.ensures _ _ c.put.ensures (refused-fits v.reason v.place (search rules) (search rules))
