-- `show_trials::rounds::undisturbed` ends. The measure is the number of the set of steps left.
use Prim.Native.Nat.{◌<◌, ◌^◌}
use Rattle.show_trials.proofs.rounds.undisturbed.Given as goal

abbrev pub invariant-loop-left : goal.invariant-loop-left
invariant-loop-left l = l.left < 2 ^ 64

abbrev pub decreases-loop-left : goal.decreases-loop-left
decreases-loop-left l = l.left
