use borrow.Author.Rules.{rules}
use native.Mathlib.Omega.{arith}
use Rattle.text.specs.Meaning.{shown}
use Rattle.text.proofs.TextLaws.{stays, say-turn, say-end}
use Rattle.text.proofs.Page.say.Goals as goal

pub loop-byte-init : goal.loop-byte-init
loop-byte-init c =
    let a = c.args in
    stays 2048 a.self.bytes a.self.len (search rules)

pub loop-byte-preserved : goal.loop-byte-preserved
loop-byte-preserved c =
    let l = c.loop-byte in
    let a = c.args in
    say-turn 2048 (shown a.self) (shown l.done) (shown c.put-done.result) a.text.now l.byte-index (omega arith) l.invariant c.put-done.ensures

pub returns : goal.returns
returns c =
    let l = c.loop-byte in
    let a = c.args in
    say-end 2048 (shown a.self) (shown l.done) a.text.now l.byte-index (omega arith) l.invariant
