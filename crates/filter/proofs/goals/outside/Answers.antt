-- `filter::goals::outside` meets its contract.
use mathlib.Core.Path.{◌∙◌}
use Prim.Native.Nat.{◌<◌, ◌^◌}
use native.Mathlib.Omega.{arith}
use lib.Pow.{pow_pos}
use borrow.Author.Tests.{le-leb, lt-leb}
use Rattle.filter.proofs.PassLaws.{same_test}
use Rattle.filter.proofs.GoalLaws.{outside-is}
use Rattle.filter.proofs.goals.outside.Goals as goal

pub returns : goal.returns
returns c =
    let a = c.args in
    let some : 0 < 2 ^ a.n = pow_pos a.n in
    c.exceeds.ensures ∙ same_test _ (2 ^ a.n) a.live (λ h. omega (arith, le-leb, some)) (λ h. omega (arith, lt-leb)) ∙ outside-is a.n a.live
