-- `writing::put_field` meets its contract: nothing is put of 0, and all bytes of another number.
use native.Mathlib.Omega.{arith}
use Rattle.writing.proofs.PutLaws.{put-none, put_as, number-as, field-none, field-some}
use Rattle.writing.proofs.put_field.Goals as goal

pub returns-then-value-eq0 : goal.returns-then-value-eq0
returns-then-value-eq0 c =
    let a = c.args in
    put_as (put-none a.page.now a.at (omega arith)) (field-none a.bytes a.value (omega (arith, c.if-value-eq0.true)))

pub returns : goal.returns
returns c =
    let a = c.args in
    put_as (number-as a.bytes a.value c.put_number.ensures (omega arith) (omega arith)) (field-some a.bytes a.value (λ e. let z : ⊥ = omega (arith, c.if-value-eq0.false) in z))
