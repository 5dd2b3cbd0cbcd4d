-- `supports::allows` meets its contract.
use mathlib.Core.Path.{ap}
use Prim.Native.Nat.{ℕ}
use lib.Dec.{eqb}
use Rattle.sets.specs.Sets.{part}
use Rattle.supports.proofs.allows.Goals as goal

pub returns : goal.returns
unfolding part
returns c = ap (λ (x : ℕ). eqb x 0) c.without.ensures
