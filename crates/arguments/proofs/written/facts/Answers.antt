-- `arguments::written::facts` meets its contract.
use borrow.Author.Rules.{rules}
use mathlib.Core.Path.{◌≡◌, refl}
use Prim.Native.Nat.{◌+◌, ◌<◌}
use native.Mathlib.Omega.{arith}
use lib.ListN.{length}
use Rattle.sets.proofs.Filled.{pasted-start, pasted-turn, pasted-end}
use Rattle.arguments.proofs.written.facts.Goals as goal

pub loop-i-init : goal.loop-i-init
loop-i-init c = pasted-start c.args.words.now 0 c.args.mutex.now

pub overflow_cast-words : goal.overflow_cast-words
overflow_cast-words c = let h = c.requires.1 c.loop-i.i c.loop-i-test.true in search rules

pub loop-i-preserved : goal.loop-i-preserved
loop-i-preserved c =
    let l = c.loop-i in
    let i : l.i < 32 = c.loop-i-test.true in
    let place : l.i ≡ 0 + l.i = omega arith in
    let size : length c.args.mutex.now ≡ 64 = search rules in
    pasted-turn c.args.words.now 0 c.args.mutex.now l.words l.i l.invariant (omega (arith, c.requires.0)) (omega arith) place refl

pub returns : goal.returns
returns c =
    let l = c.loop-i in
    pasted-end c.args.words.now 0 c.args.mutex.now l.words l.i 32 l.invariant (omega arith) (omega arith)
