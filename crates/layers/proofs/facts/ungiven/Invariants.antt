-- `layers::facts::ungiven` meets its contract. The invariant: what is kept, with those members left that pass, is what passes of all. The
-- measure is the number of the set of members left.
use mathlib.Core.Path.{◌≡◌}
use mathlib.Core.Bool.{Bool, not}
use mathlib.Core.List.{List}
use Prim.Native.Nat.{ℕ, ◌^◌, ◌<◌}
use lib.Bits.{bit_or}
use lib.ListN.{get_or}
use Rattle.sets.specs.Ranges.{given}
use Rattle.sets.specs.Sets.{meets, gathered}
use Rattle.layers.proofs.facts.ungiven.Given as goal

abbrev pub apart : List ℕ → ℕ → ℕ → Bool
apart turned free q = not (meets free (get_or turned q 0))

abbrev pub one : List ℕ → ℕ → ℕ → ℕ
one turned free q = given (apart turned free q) (2 ^ q)

abbrev pub invariant-loop-left : goal.invariant-loop-left
invariant-loop-left l = (l.left < 2 ^ 64) × (bit_or l.kept (gathered 64 l.left (one l.turned l.free)) ≡ gathered 64 l.set (one l.turned l.free))

abbrev pub decreases-loop-left : goal.decreases-loop-left
decreases-loop-left l = l.left
