-- `sets::word::gather` meets its contract. The invariant: what is gathered, with what the members left have, is what all members have.
-- The measure is the number of the set of members left.
use mathlib.Core.Path.{◌≡◌}
use Prim.Native.Nat.{◌^◌, ◌<◌}
use lib.Bits.{bit_or}
use lib.ListN.{get_or}
use Rattle.sets.specs.Sets.{gathered}
use Rattle.sets.proofs.word.gather.Given as goal

abbrev pub invariant-loop-left : goal.invariant-loop-left
invariant-loop-left l = (l.left < 2 ^ 64) × (bit_or l.all (gathered 64 l.left (λ i. get_or l.table i 0)) ≡ gathered 64 l.s (λ i. get_or l.table i 0))

abbrev pub decreases-loop-left : goal.decreases-loop-left
decreases-loop-left l = l.left
