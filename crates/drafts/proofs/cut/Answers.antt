-- `drafts::cut` meets its contract.
use mathlib.Core.Path.{sym}
use native.Mathlib.Omega.{arith}
use lib.Seq.{take_all}
use Rattle.drafts.proofs.cut.Goals as goal

pub returns-then-name-le-LOOKED_AT : goal.returns-then-name-le-LOOKED_AT
returns-then-name-le-LOOKED_AT c = sym (take_all 33 c.args.name.now (omega arith))
