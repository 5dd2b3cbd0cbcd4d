-- `extraction::droppable` meets its contract.
use native.Mathlib.Omega.{arith}
use Rattle.sets.proofs.Bits.{bit-empty, bit-and}
use Rattle.extraction.proofs.droppable.Goals as goal

pub returns-then-count-le-FEW : goal.returns-then-count-le-FEW
returns-then-count-le-FEW c = (λ i. omega (arith, bit-empty i), λ i. omega (arith, bit-empty i))

pub returns : goal.returns
returns c =
    let a = c.args in
    (λ i. omega (arith, bit-and a.left a.refuted i), λ i. omega (arith, bit-and a.left a.refuted i))
