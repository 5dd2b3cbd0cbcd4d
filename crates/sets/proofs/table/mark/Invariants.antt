-- `sets::table::mark` meets its contract. The invariant: the rows, with j put into those at the members left, are what is wanted.
-- The measure is the number of the set of members left.
use mathlib.Core.Path.{◌≡◌}
use Prim.Native.Nat.{◌^◌, ◌<◌}
use lib.ListN.{length}
use Rattle.sets.specs.Tables.{marked}
use Rattle.sets.proofs.table.mark.Given as goal

abbrev pub invariant-loop-left : goal.invariant-loop-left
invariant-loop-left l = (length l.turned ≡ 64) × (l.left < 2 ^ 64) × (marked 64 l.turned l.left l.j ≡ marked 64 l.initial.turned l.set l.j)

abbrev pub decreases-loop-left : goal.decreases-loop-left
decreases-loop-left l = l.left
