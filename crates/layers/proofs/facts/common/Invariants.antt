-- `layers::facts::common` meets its contract. The invariant: what is found, as far as the rows of the members left share it too, is what the rows
-- of all members share. The measure is the number of the set of members left.
use mathlib.Core.Path.{◌≡◌}
use Prim.Native.Nat.{◌^◌, ◌<◌}
use lib.Bits.{bit_and}
use lib.ListN.{get_or}
use Rattle.layers.proofs.FactCode.{in_all}
use Rattle.layers.proofs.facts.common.Given as goal

abbrev pub invariant-loop-left : goal.invariant-loop-left
invariant-loop-left l = (l.left < 2 ^ 64) × (l.all < 2 ^ 64) × (bit_and l.all (in_all 64 l.left (λ x. get_or l.words x 0)) ≡ in_all 64 l.set (λ x. get_or l.words x 0))

abbrev pub decreases-loop-left : goal.decreases-loop-left
decreases-loop-left l = l.left
