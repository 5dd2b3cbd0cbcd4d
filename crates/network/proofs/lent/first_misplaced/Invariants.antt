-- `network::lent::first_misplaced` meets its contract. The invariant: the articles below u are not misplaced, and the masks are their groups.
use mathlib.Core.Path.{◌≡◌}
use mathlib.Core.Bool.{Bool, false}
use mathlib.Core.List.{List, []}
use Prim.Native.Nat.{ℕ, ◌<◌}
use lib.ListN.{get_or}
use Rattle.sets.specs.Ranges.{list_to}
use Rattle.network.specs.Network.{listed}
use Rattle.network.specs.Groups.{misplaced, grouped}
use Rattle.network.proofs.lent.first_misplaced.Given as goal

abbrev pub wrong : ℕ → List ℕ → List ℕ → ℕ → Bool
wrong n clashes groups u = misplaced (listed n [] clashes) (λ v. get_or groups v 0) u

abbrev pub invariant-loop-u : goal.invariant-loop-u
invariant-loop-u l = ((v : ℕ) → v < l.u → wrong l.n l.clashes l.groups v ≡ false) × (l.masks ≡ list_to 64 (grouped (λ v. get_or l.groups v 0) l.u))
