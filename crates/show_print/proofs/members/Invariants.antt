-- `show_print::members` ends, and asks for the lowest member only of a set that has one. The measure is the number of the set of members left.
use Prim.Native.Nat.{◌<◌, ◌^◌}
use Rattle.show_print.proofs.members.Given as goal

abbrev pub invariant-loop-left : goal.invariant-loop-left
invariant-loop-left g l = l.left < 2 ^ 64

abbrev pub decreases-loop-left : goal.decreases-loop-left
decreases-loop-left g l = l.left
