-- `reachability::look_up` meets its contract. The invariant: the slot looked at is one of the table.
use Prim.Native.Nat.{◌<◌}
use Rattle.reachability.proofs.look_up.Given as goal

abbrev pub invariant-loop : goal.invariant-loop
invariant-loop l = l.at < 32768
