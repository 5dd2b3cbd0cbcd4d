-- `fair::put` meets its contract.
use native.Mathlib.Omega.{arith}
use lib.ListN.{length-set}
use Rattle.fair.proofs.EntryLaws.{put-words}
use Rattle.fair.proofs.put.Goals as goal

pub bounds-words-1 : goal.bounds-words-1
bounds-words-1 c = simp length-set (omega arith)

pub returns : goal.returns
returns c = put-words c.args.words.now c.args.status c.args.selection c.args.aside c.requires
