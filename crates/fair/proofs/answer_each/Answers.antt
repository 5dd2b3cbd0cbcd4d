use mathlib.Core.Path.{◌≡◌, refl, ap, ◌∙◌}
use mathlib.Core.List.{List, ◌++◌}
use Prim.Native.Nat.{ℕ, ◌+◌, ◌-◌, ◌*◌, ◌≤◌}
use native.Mathlib.Omega.{arith}
use lib.ListN.{length, take, drop, get_or, length-drop}
use borrow.Rule.Slice.PartMut.{same_len_mid}
use Rattle.network.specs.Network.{listed}
use Rattle.fair.specs.Fair.{entry_words, entry_of}
use Rattle.fair.specs.Meaning.{order_over}
use Rattle.fair.proofs.EntryLaws.{entries-start, entries-turn, entries-end, part-open, put-open}
use Rattle.fair.proofs.answer_each.Goals as goal

pub loop-i-init : goal.loop-i-init
loop-i-init c =
    let a = c.args in
    (refl, entries-start (order_over (listed a.n a.wishes.now a.clashes.now) a.wish_count) a.orders.now a.words.now)

pub answer-requires : goal.answer-requires
answer-requires c =
    let l = c.loop-i in
    let room : entry_words * l.i + entry_words ≤ length l.words = omega (arith, c.requires.4, l.invariant.0, c.loop-i-test.true) in
    (c.requires.0, c.requires.1, c.requires.2, c.requires.3, rw part-open (omega (arith, length-drop (entry_words * l.i) l.words)))

pub loop-i-preserved : goal.loop-i-preserved
loop-i-preserved c =
    let a = c.args in
    let l = c.loop-i in
    let answer = order_over (listed a.n a.wishes.now a.clashes.now) a.wish_count in
    let entry = entry_of (answer (get_or a.orders.now l.i 0)) in
    let lent = c.answer in
    let at : entry_words * l.i ≤ length l.words = omega (arith, c.requires.4, l.invariant.0) in
    let put : lent.new.words ≡ entry ++ drop entry_words (drop (entry_words * l.i) l.words) =
    lent.ensures ∙ ap (λ (q : List ℕ). entry ++ drop entry_words q) (part-open l.words (entry_words * l.i)) in (
      same_len_mid (entry_words * l.i) (length l.words - entry_words * l.i) l.words lent.new.words lent.auto.words ∙ l.invariant.0,
      put-open l.words lent.new.words (entry_words * l.i) at ∙ ap (λ (q : List ℕ). take (entry_words * l.i) l.words ++ q) put
          ∙ entries-turn answer a.orders.now a.words.now l.words l.i (omega (arith, c.loop-i-test.true)) l.invariant.1,
    )

pub returns : goal.returns
returns c =
    let a = c.args in
    let l = c.loop-i in
    entries-end (order_over (listed a.n a.wishes.now a.clashes.now) a.wish_count) a.orders.now a.words.now l.words l.i (omega arith) l.invariant.1
