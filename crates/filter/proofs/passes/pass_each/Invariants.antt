-- `filter::passes::pass_each` meets its contract. The invariant, `Onward`: what is live is what the passes so far left, and no goal of theirs fell short.
use mathlib.Core.List.{[]}
use lib.ListN.{get_or}
use Rattle.sets.specs.Sets.{full}
use Rattle.network.specs.Network.{listed}
use Rattle.filter.proofs.PassLaws.{Onward}
use Rattle.filter.proofs.passes.pass_each.Given as goal

abbrev pub invariant-loop-i : goal.invariant-loop-i
invariant-loop-i l = Onward (listed l.n l.wishes []) (λ u. get_or l.groups u 0) (full l.n) l.goals l.live l.i
