-- `drafts::store` meets its contract: each return by the draft, by the test of the room, and by what was put.
use borrow.Author.Rules.{rules}
use mathlib.Core.Path.{◌≡◌}
use Prim.Native.Nat.{◌≤◌}
use native.Mathlib.Omega.{arith}
use lib.ListN.{length}
use lib.Seq.{length-take-le}
use Rattle.arguments.proofs.TestLaws.{room-passed}
use Rattle.drafts.proofs.DraftLaws.{page-stored, store-made}
use Rattle.drafts.proofs.store.Goals as goal

pub returns : goal.returns
returns c =
    let a = c.args in
    let d = c.in_ok-made.made in
    let page : length d.page ≡ 4096 = search rules in
    let fits : d.len ≤ 4096 = search rules in
    let len = length-take-le d.len d.page (omega arith) in
    let room = room-passed (length a.to.now) d.len c.room.ensures c.in_ok-room.was in
    store-made a.to.now c.in_ok-made.was (omega arith) c.room.ensures c.in_ok-room.was (page-stored d.page d.len c.put_bytes.ensures (omega arith) (omega arith))
