-- `text::Page::round` meets its contract: its four parts come one after the other.
use Rattle.text.specs.Meaning.{shown}
use Rattle.text.proofs.TextLaws.{round-made}
use Rattle.text.proofs.Page.round.Goals as goal

pub returns : goal.returns
returns c =
    let w = c.args in
    round-made 2048 (shown w.self) (shown c.number.result) (shown c.put.result) (shown c.set.result) (shown c.put-2.result) 32 w.i w.steps c.number.ensures c.put.ensures (rw c.from.ensures at c.set.ensures) c.put-2.ensures
