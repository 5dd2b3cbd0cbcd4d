-- `filter::contributions` meets its contract. The invariant, `Best`: the words hold the contributions of the articles seen so far.
use mathlib.Core.List.{[]}
use lib.ListN.{get_or}
use Rattle.network.specs.Network.{listed}
use Rattle.filter.proofs.PassLaws.{Best}
use Rattle.filter.proofs.contributions.Given as goal

abbrev pub invariant-loop-u : goal.invariant-loop-u
invariant-loop-u l = Best (listed l.n l.wishes []) (λ i. get_or l.groups i 0) l.live l.goal l.best l.u
