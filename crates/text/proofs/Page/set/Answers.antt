use borrow.Author.Rules.{rules}
use mathlib.Core.Path.{◌≡◌, ap, ◌∙◌}
use Prim.Native.Nat.{ℕ}
use native.Mathlib.Omega.{arith}
use Rattle.text.specs.Text.{members}
use Rattle.text.specs.Meaning.{shown, extended}
use Rattle.text.proofs.TextLaws.{stays, set-turn}
use Rattle.text.proofs.Page.set.Goals as goal

pub loop-i-init : goal.loop-i-init
unfolding members
loop-i-init c =
    let a = c.args in
    stays 2048 a.self.bytes a.self.len (search rules)

pub loop-i-preserved : goal.loop-i-preserved
loop-i-preserved c =
    let l = c.loop-i in
    let a = c.args in
    set-turn 2048 (shown a.self) (shown l.done) (shown c.one-done.result) a.s l.i l.invariant c.one-done.ensures

pub returns : goal.returns
returns c =
    let l = c.loop-i in
    let a = c.args in
    let e : l.i ≡ a.w = omega arith in
    l.invariant ∙ ap (λ (i : ℕ). extended a.self (members i a.s)) e
