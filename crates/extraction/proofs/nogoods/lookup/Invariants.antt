-- `extraction::nogoods::lookup` meets its contract. The invariant: the search is past entry 0.
use Prim.Native.Nat.{◌<◌}
use Rattle.extraction.proofs.nogoods.lookup.Given as goal

abbrev pub invariant-loop-i : goal.invariant-loop-i
invariant-loop-i l = 0 < l.i
