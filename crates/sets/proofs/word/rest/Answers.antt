-- `sets::word::rest` meets its contract.
use borrow.Author.Rules.{rules}
use Prim.Native.Nat.{◌-◌}
use native.Mathlib.Omega.{arith}
use lib.Bits.{and_le_r}
use Rattle.sets.proofs.Lowest.{lowest-off}
use Rattle.sets.proofs.word.rest.Goals as goal

pub returns : goal.returns
returns c = record { value = lowest-off 64 c.args.s (search rules) c.requires; upper_bound = omega (arith, and_le_r c.args.s (c.args.s - 1), c.requires) }
