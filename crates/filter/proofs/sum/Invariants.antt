-- `filter::sum` meets its contract. The invariant: the sum so far, which has room in a word.
use mathlib.Core.Path.{◌≡◌}
use Prim.Native.Nat.{◌*◌, ◌≤◌}
use lib.ListN.{get_or}
use Rattle.sets.specs.Ranges.{sum_to}
use Rattle.filter.proofs.sum.Given as goal

abbrev pub invariant-loop-j : goal.invariant-loop-j
invariant-loop-j l = (l.all ≡ sum_to l.j (λ i. get_or l.best i 0)) × (l.all ≤ l.j * 64)
