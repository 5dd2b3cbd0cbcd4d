-- `reachability::hopeless` meets its contract. The invariant: the arrays keep their lengths, the start is listed, and the first i states are settled.
-- The measure is how many states could still come.
use mathlib.Core.Path.{◌≡◌}
use Prim.Native.Nat.{ℕ, ◌-◌, ◌≤◌, ◌<◌}
use lib.ListN.{length}
use Rattle.planning.specs.Meaning.{fitting_in}
use Rattle.reachability.specs.States.{Among}
use Rattle.reachability.proofs.StateLaws.{Settled}
use Rattle.reachability.proofs.hopeless.Given as goal

abbrev pub invariant-loop-i : goal.invariant-loop-i
invariant-loop-i l =
    (l.i ≤ l.count) × (l.count ≤ 8192) × (length l.states ≡ 8192) × (length l.slots ≡ 32768) × Among l.states l.count l.job.start
    × ((m : ℕ) → m < l.i → Settled (fitting_in l.job) l.states l.count m)

abbrev pub decreases-loop-i : goal.decreases-loop-i
decreases-loop-i l = 8192 - l.i
