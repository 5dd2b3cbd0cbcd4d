-- `supports::explain` meets its contract. The invariant, over a copy of the mutex words: no selection covers the facts kept, and those left to try are outside why.
-- The measure is the number of the set of facts left.
use Rattle.supports.specs.Supports.{Uncovered}
use Rattle.supports.proofs.LayerLaws.{Outside}
use Rattle.supports.proofs.explain.Given as goal

abbrev pub invariant-loop-left : goal.invariant-loop-left
invariant-loop-left l = Uncovered l.gives l.mutex l.allowed l.facts l.why l.e × Outside l.why l.left

abbrev pub decreases-loop-left : goal.decreases-loop-left
decreases-loop-left l = l.left
