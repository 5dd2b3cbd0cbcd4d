-- `text::Page::one` meets its contract: the member comes after the text of the page, or the page stays as it is.
use borrow.Author.Rules.{rules}
use Rattle.text.specs.Meaning.{shown}
use Rattle.text.proofs.TextLaws.{stays, one-member, no_member}
use Rattle.text.proofs.Page.one.Goals as goal

pub returns-then-bit_at-eq1 : goal.returns-then-bit_at-eq1
returns-then-bit_at-eq1 c =
    let q = c.put in
    let b = c.bit_at in
    let a = c.args in
    one-member 2048 (shown a.self) (shown q.result) (shown c.number.result) a.s a.i b.result b.ensures c.if-bit_at-eq1.true q.ensures c.number.ensures

pub returns : goal.returns
returns c =
    let b = c.bit_at in
    let a = c.args in
    no_member 2048 (shown a.self) a.s a.i b.result b.ensures c.if-bit_at-eq1.false (stays 2048 a.self.bytes a.self.len (search rules))
