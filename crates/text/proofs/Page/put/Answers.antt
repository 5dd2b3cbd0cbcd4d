-- `text::Page::put` meets its contract: the byte comes after the text on a page with room, and a full page stays as it is.
use borrow.Author.Rules.{rules}
use Rattle.text.proofs.TextLaws.{put-room, put_full}
use Rattle.text.proofs.Page.put.Goals as goal

pub returns-then-at-lt-ROOM : goal.returns-then-at-lt-ROOM
returns-then-at-lt-ROOM c =
    let a = c.args in
    put-room 2048 a.self.bytes a.self.len (search rules) a.byte c.if-at-lt-ROOM.true

pub returns : goal.returns
returns c =
    let a = c.args in
    put_full 2048 a.self.bytes a.self.len (search rules) a.byte c.if-at-lt-ROOM.false
