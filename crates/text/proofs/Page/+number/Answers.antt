-- `text::Page::number` meets its contract.
use Rattle.text.specs.Meaning.{shown}
use Rattle.text.proofs.TextLaws.{number-one, number_more}
use Rattle.text.proofs.Page.+number.Goals as goal

pub returns-then-n-lt-TEN : goal.returns-then-n-lt-TEN
returns-then-n-lt-TEN t c =
    let a = c.args in
    number-one 2048 (shown a.self) (shown c.put.result) a.n c.digit.result c.if-n-lt-TEN.true c.digit.ensures c.put.ensures

pub returns : goal.returns
returns t c =
    let q = c.number in
    let a = c.args in
    number_more 2048 (shown a.self) (shown q.result) (shown c.put-2.result) a.n c.digit-2.result c.if-n-lt-TEN.false c.digit-2.ensures q.ensures c.put-2.ensures
