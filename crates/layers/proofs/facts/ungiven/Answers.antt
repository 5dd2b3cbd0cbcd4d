use mathlib.Core.Path.{sym, ap, ◌∙◌}
use mathlib.Core.Bool.{Bool, not-not}
use Prim.Native.Nat.{ℕ, ◌^◌}
use native.Mathlib.Omega.{arith}
use lib.Bits.{bit_and, bit_or}
use lib.Dec.{eqb}
use lib.ListN.{get_or}
use Rattle.sets.specs.Ranges.{given}
use Rattle.sets.specs.Sets.{meets, gathered}
use Rattle.sets.proofs.Made.{gathered-end}
use Rattle.sets.proofs.Lowest.{gathered-visit}
use Rattle.layers.proofs.SetCode.{gathered-test}
use Rattle.layers.proofs.facts.ungiven.Invariants.{apart, one}
use Rattle.layers.proofs.facts.ungiven.Goals as goal

pub loop-left-preserved : goal.loop-left-preserved
unfolding meets
loop-left-preserved c =
    let l = c.loop-left in
    let a = c.args in
    let low = c.lowest-q in
    let q = low.result in
    let f = one a.turned.now a.free in
    let kept = c.more_if-kept.ensures ∙ ap (λ (b : Bool). bit_or l.kept (given b (2 ^ q))) (sym (not-not (eqb (bit_and a.free (get_or a.turned.now q 0)) 0))) in
    let visit = gathered-visit 64 f l.kept l.left q c.rest-left.result l.invariant.0 c.loop-left-test.true low.ensures.value c.rest-left.ensures.value in
    (omega (arith, c.rest-left.ensures.upper_bound, l.invariant.0), ap (λ (s : ℕ). bit_or s (gathered 64 c.rest-left.result f)) kept ∙ visit ∙ l.invariant.1)

pub returns : goal.returns
returns c =
    let a = c.args in
    let l = c.loop-left in
    sym (gathered-end 64 (one a.turned.now a.free) l.kept l.left c.loop-left-test.false) ∙ l.invariant.1 ∙ gathered-test 64 a.set (apart a.turned.now a.free)
