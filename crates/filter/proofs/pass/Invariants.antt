-- `filter::pass` meets its contract. The invariant: the set so far is that of the articles seen that the pass keeps.
use mathlib.Core.Path.{◌≡◌}
use mathlib.Core.List.{[]}
use lib.ListN.{get_or}
use Rattle.sets.specs.Sets.{set_of}
use Rattle.network.specs.Network.{listed}
use Rattle.filter.proofs.PassLaws.{keeps}
use Rattle.filter.proofs.pass.Given as goal

abbrev pub invariant-loop-v : goal.invariant-loop-v
invariant-loop-v l = (l.kept ≡ set_of l.v (keeps (listed l.n l.wishes []) (λ i. get_or l.groups i 0) l.live l.goal))
