-- `writing::mark` meets its contract.
use mathlib.Core.Path.{ap}
use mathlib.Core.Bool.{Bool, not}
use Prim.Native.Nat.{◌*◌}
use native.Mathlib.Nat.{mul-zero, mul-one}
use native.Mathlib.Omega.{arith}
use Rattle.sets.specs.Ranges.{num}
use Rattle.writing.proofs.mark.Goals as goal

pub returns-then-empty : goal.returns-then-empty
returns-then-empty c =
    let bit = c.args.bit in
    (omega (arith, ap (λ (t : Bool). bit * num (not t)) c.if-empty.true, mul-zero bit), omega arith)

pub returns : goal.returns
returns c =
    let bit = c.args.bit in
    (omega (arith, ap (λ (t : Bool). bit * num (not t)) c.if-empty.false, mul-one bit), omega arith)
