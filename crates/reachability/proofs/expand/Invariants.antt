-- `reachability::expand` meets its contract. The invariant: the arrays keep their lengths, the list has grown, and what the first a steps lead to is
-- listed.
use mathlib.Core.Path.{◌≡◌}
use Prim.Native.Nat.{ℕ, ◌<◌}
use lib.ListN.{length}
use Rattle.planning.specs.Rounds.{listed_steps}
use Rattle.reachability.specs.States.{Leads, Grown}
use Rattle.reachability.proofs.expand.Given as goal

abbrev pub invariant-loop-a : goal.invariant-loop-a
invariant-loop-a l =
    (length l.states ≡ 8192) × (length l.slots ≡ 32768) × Grown l.initial.states l.states l.count l.n × ((b : ℕ) → b < l.a → Leads (listed_steps l.job.needs l.job.gives l.job.takes) l.states l.n l.facts b)
