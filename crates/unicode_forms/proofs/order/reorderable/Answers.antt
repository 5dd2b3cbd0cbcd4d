-- `unicode_forms::order::reorderable` meets its contract.
use mathlib.Core.Path.{◌∙◌, sym}
use Prim.Native.Nat.{◌<◌}
use native.Mathlib.Omega.{arith}
use borrow.Author.Tests.{lt-ltb, le-ltb}
use Rattle.unicode_forms.specs.Canonical.{reorderable}
use Rattle.unicode_forms.proofs.OrderLaws.{reorder-none}
use Rattle.unicode_forms.proofs.order.reorderable.Goals as goal

pub returns-then-second-gt0 : goal.returns-then-second-gt0
unfolding reorderable
returns-then-second-gt0 c =
    let second = c.class-second.result in
    let some : 0 < second = omega (arith, c.if-second-gt0.true) in
    rw (← c.class-second.ensures, ← c.class.ensures, lt-ltb 0 second some) (search (arith, c.class.ensures))

pub returns-else-second-gt0 : goal.returns-else-second-gt0
returns-else-second-gt0 c = le-ltb 0 c.class-second.result c.if-second-gt0.false ∙ sym (reorder-none c.args.a c.args.b (omega (arith, c.class-second.ensures, c.if-second-gt0.false)))
