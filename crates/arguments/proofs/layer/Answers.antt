-- `arguments::layer` meets its contract.
use mathlib.Core.Path.{◌≡◌, ap, ◌∙◌}
use native.Mathlib.Omega.{arith}
use borrow.Author.Tests.{lt-ltb, le-ltb}
use Rattle.reading.specs.declared.Reason.TheVariants.{OutOfRange, ShortBuffer}
use Rattle.std.specs.Prelude.{Err}
use Rattle.arguments.proofs.VerdictLaws.{refusal_by, out_of_range, within}
use Rattle.std.proofs.lemmas.Bool.{not_from_false, not_from_true}
use Rattle.arguments.proofs.layer.Goals as goal

pub returns-then-not-in_range : goal.returns-then-not-in_range
returns-then-not-in_range c =
    let a = c.args in
    ap Err (c.at.ensures ∙ ap (refusal_by OutOfRange) (let place : _ ≡ 0 = omega arith in place)) ∙ simp (out_of_range a.k a.lowest a.highest c.in_range.ensures (not_from_false _ c.if-not-in_range.true))

pub returns-then-len-size : goal.returns-then-len-size
returns-then-len-size c =
    let a = c.args in
    ap Err (c.at-then-len-size.ensures ∙ ap (refusal_by ShortBuffer) (let place : _ ≡ 0 = omega arith in place)) ∙ simp (within a.k a.lowest a.highest c.in_range.ensures (not_from_true _ c.if-not-in_range.false), lt-ltb _ _ c.if-len-size.true)

pub returns : goal.returns
returns c =
    let a = c.args in
    simp (within a.k a.lowest a.highest c.in_range.ensures (not_from_true _ c.if-not-in_range.false), le-ltb _ _ c.if-len-size.false)
