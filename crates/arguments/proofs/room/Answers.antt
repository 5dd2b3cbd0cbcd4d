-- `arguments::room` meets its contract.
use mathlib.Core.Path.{ap, ◌∙◌}
use borrow.Author.Tests.{lt-ltb, le-ltb}
use Rattle.std.specs.Prelude.{Err}
use Rattle.arguments.proofs.room.Goals as goal

pub returns-then-len-size : goal.returns-then-len-size
returns-then-len-size c = ap Err c.at.ensures ∙ simp (lt-ltb _ _ c.if-len-size.true)

pub returns : goal.returns
returns c = simp (le-ltb _ _ c.if-len-size.false)
