use mathlib.Core.Path.{ap, ◌∙◌}
use Prim.Native.Nat.{ℕ, ◌+◌, ◌-◌, ◌*◌}
use native.Mathlib.Nat.{one-le-pow}
use native.Mathlib.Omega.{arith}
use Rattle.reading.proofs.StepLaws.{value-turn, value_room, value_grows, value_none}
use Rattle.reading.proofs.item.value.Goals as goal

pub loop-i-init : goal.loop-i-init
loop-i-init c =
    let a = c.args in
    (value_none a.file.now a.at a.bytes, one-le-pow (a.bytes - a.bytes) 256 (omega arith))

pub overflow_mul-v : goal.overflow_mul-v
overflow_mul-v c =
    let w = c.args in
    let l = c.loop-i in
    omega (arith, value_room w.file.now w.at w.bytes l.i l.v l.invariant.1 c.loop-i-test.true l.auto.i c.requires.1)

pub overflow_add-v : goal.overflow_add-v
overflow_add-v c =
    let w = c.args in
    let l = c.loop-i in
    omega (arith, value_room w.file.now w.at w.bytes l.i l.v l.invariant.1 c.loop-i-test.true l.auto.i c.requires.1, c.type_inv.file (w.at + (l.i - 1)))

pub loop-i-preserved : goal.loop-i-preserved
loop-i-preserved c =
    let a = c.args in
    let l = c.loop-i in
    let t = c.loop-i-test.true in (
      ap (λ (x : ℕ). l.v * 256 + x) c.from.ensures ∙ value-turn a.file.now a.at a.bytes l.i l.v t l.auto.i l.invariant.0,
      value_grows a.file.now a.at a.bytes l.i l.v c.from.result l.invariant.1 (omega (arith, c.type_inv.file (a.at + (l.i - 1)))) t l.auto.i,
    )
