-- `unicode_forms::form::Form::put` meets its contract.
use borrow.Author.Rules.{rules}
use mathlib.Core.Path.{◌≡◌}
use Prim.Native.Nat.{◌≤◌}
use native.Mathlib.Omega.{arith}
use lib.ListN.{length}
use Rattle.unicode_forms.proofs.FormLaws.{put-more, put_full}
use Rattle.unicode_forms.proofs.form.Form.put.Goals as goal

pub returns-then-count-ge-ROOM : goal.returns-then-count-ge-ROOM
returns-then-count-ge-ROOM c =
    let f = c.args.self in
    let len : length f.chars ≡ 32 = search rules in
    let full : 32 ≤ f.count = omega (arith, c.if-count-ge-ROOM.true) in
    put_full 32 f.count c.args.c f.chars len full f.sound

pub settled-next-requires : goal.settled-next-requires
settled-next-requires c =
    let (few, covered, tidy) = c.args.self.sound in
    (c.if-count-ge-ROOM.false, c.requires, covered, tidy)

pub invariant_of-result : goal.invariant_of-result
invariant_of-result c =
    let f = c.args.self in
    let len : length f.chars ≡ 32 = search rules in
    record { sound = (put-more 32 f.count c.args.c f.chars c.settled-next.result len c.if-count-ge-ROOM.false c.requires f.sound c.settled-next.ensures).0 }

pub returns : goal.returns
returns c =
    let f = c.args.self in
    let len : length f.chars ≡ 32 = search rules in
    (put-more 32 f.count c.args.c f.chars c.settled-next.result len c.if-count-ge-ROOM.false c.requires f.sound c.settled-next.ensures).1
