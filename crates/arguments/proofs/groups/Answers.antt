-- `arguments::groups` meets its contract.
use mathlib.Core.Path.{◌≡◌, ap, ◌∙◌}
use native.Mathlib.Omega.{arith}
use borrow.Author.Tests.{lt-ltb, le-ltb}
use Rattle.reading.specs.declared.Reason.TheVariants.{ShortBuffer, FalsePartition}
use Rattle.std.specs.Prelude.{Err}
use Rattle.arguments.proofs.VerdictLaws.{refusal_by, misplaced-told}
use Rattle.arguments.proofs.groups.Goals as goal

pub returns-then-groups-n : goal.returns-then-groups-n
returns-then-groups-n c = ap Err (c.at.ensures ∙ ap (refusal_by ShortBuffer) (let place : _ ≡ 0 = omega arith in place)) ∙ simp (lt-ltb _ _ c.if-groups-n.true)

pub returns-in-Some : goal.returns-in-Some
returns-in-Some c =
    ap Err (c.at-in-Some.ensures ∙ ap (refusal_by FalsePartition) (let place : _ ≡ c.in-Some.u = omega arith in place))
    ∙ simp (le-ltb _ _ c.if-groups-n.false, misplaced-told c.args.job c.args.groups.now c.first_misplaced-partition.ensures c.in-Some.is)

pub returns-in-None : goal.returns-in-None
returns-in-None c =
    simp (le-ltb _ _ c.if-groups-n.false, misplaced-told c.args.job c.args.groups.now c.first_misplaced-partition.ensures c.in-None.is)
