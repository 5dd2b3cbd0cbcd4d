use borrow.Author.Rules.{rules}
use mathlib.Core.Path.{◌≡◌, ap, ◌∙◌}
use Prim.Native.Nat.{ℕ, ◌<◌}
use native.Mathlib.Omega.{arith}
use lib.ListN.{length, length-take}
use lib.Seq.{length-take-le}
use Rattle.std.proofs.lemmas.List.{get_or-take}
use Rattle.text.specs.Text.{round_texts}
use Rattle.text.specs.Meaning.{shown, extended}
use Rattle.text.proofs.TextLaws.{stays, rounds-turn, four-parts, rounds-fits}
use Rattle.text.proofs.rounds.Goals as goal

pub loop-i-init : goal.loop-i-init
unfolding round_texts
loop-i-init c = stays 2048 c.put-done.result.bytes c.put-done.result.len (search rules)

pub loop-i-preserved : goal.loop-i-preserved
loop-i-preserved c =
    let l = c.loop-i in
    let v = c.args in
    let below : l.i < v.k = omega (arith, c.loop-i-test.true, length-take v.k v.words.now) in
    rounds-turn 2048 (shown c.put-done.result) _ _ v.words.now 32 l.i l.invariant (rw (get_or-take v.k v.words.now l.i 0 below) at c.round-done.ensures)

pub returns : goal.returns
returns c =
    let l = c.loop-i in
    let v = c.args in
    let long : length v.words.now ≡ 16 = search rules in
    let e : l.i ≡ v.k = omega (arith, length-take-le v.k v.words.now (omega arith)) in
    four-parts 2048 _ _ _ _ _ _ _ _ _ c.empty.ensures c.say.ensures c.number.ensures c.put-done.ensures (l.invariant ∙ ap (λ (i : ℕ). extended c.put-done.result (round_texts 32 i v.words.now)) e) (rounds-fits v.k v.words.now c.requires)
