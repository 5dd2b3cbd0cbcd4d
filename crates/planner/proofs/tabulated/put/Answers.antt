-- `planner::tabulated::put` meets its contract.
use native.Mathlib.Omega.{arith}
use Rattle.std.proofs.lemmas.Slice.{put_mid-paste}
use Rattle.planner.proofs.tabulated.put.Goals as goal

pub returns : goal.returns
returns c = put_mid-paste _ _ _ _ _ 64 c.copy_from_slice.ensures.after (omega arith) (omega arith)
