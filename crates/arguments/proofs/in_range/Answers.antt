-- `arguments::in_range` meets its contract.
use borrow.Author.Tests.{lt-ltb}
use Rattle.arguments.proofs.VerdictLaws.{in-range}
use Rattle.arguments.proofs.in_range.Goals as goal

pub returns-then-k-lowest : goal.returns-then-k-lowest
returns-then-k-lowest c = simp (lt-ltb _ _ c.if-k-lowest.true)

pub returns : goal.returns
returns c = in-range _ _ _ c.if-k-lowest.false
