-- `supports::open_to` meets its contract. The invariant, `Opening`: the vertices left are members, and of the others `open` has those
-- whose needs lie in the facts. The measure is the number of the set of vertices left.
use Rattle.supports.proofs.LayerLaws.{Opening}
use Rattle.supports.proofs.open_to.Given as goal

abbrev pub invariant-loop-left : goal.invariant-loop-left
invariant-loop-left l = Opening l.needs l.may l.members l.open l.left

abbrev pub decreases-loop-left : goal.decreases-loop-left
decreases-loop-left l = l.left
