use borrow.Author.Rules.{rules}
use mathlib.Core.Path.{◌≡◌, refl}
use mathlib.Core.List.{[]}
use Prim.Native.Nat.{ℕ, ◌^◌, ◌<◌}
use native.Mathlib.Omega.{arith}
use lib.ListN.{get_or}
use Rattle.sets.specs.Ranges.{sum_to}
use Rattle.sets.specs.Sets.{set_of}
use Rattle.network.specs.Network.{listed}
use Rattle.filter.specs.Filter.{others}
use Rattle.filter.proofs.PassLaws.{best-small, sum-total, others-left, pass-turn, pass-end}
use Rattle.filter.proofs.pass.Goals as goal

pub sum-all-requires : goal.sum-all-requires
sum-all-requires c =
    let a = c.args in
    let small : a.goal < 2 ^ 64 = search rules in
    best-small (listed a.n a.wishes.now []) (λ i. get_or a.groups.now i 0) a.live a.goal c.contributions-best.result c.contributions-best.ensures small

pub loop-v-init : goal.loop-v-init
unfolding set_of sum_to
loop-v-init c = refl

pub overflow_sub-rest : goal.overflow_sub-rest
overflow_sub-rest c =
    let a = c.args in
    let h = c.requires.2 c.loop-v.v c.loop-v-test.true in
    let e = others-left (listed a.n a.wishes.now []) (λ i. get_or a.groups.now i 0) a.live a.goal c.contributions-best.result c.sum-all.result (get_or a.groups.now c.loop-v.v 0) c.requires.2 c.requires.0 c.contributions-best.ensures c.sum-all.ensures.value h in
    search rules

pub loop-v-preserved : goal.loop-v-preserved
loop-v-preserved c =
    let a = c.args in
    let l = c.loop-v in
    let N = listed a.n a.wishes.now [] in
    let k = get_or a.groups.now l.v 0 in
    let e = others-left N (λ i. get_or a.groups.now i 0) a.live a.goal c.contributions-best.result c.sum-all.result k c.requires.2 c.requires.0 c.contributions-best.ensures c.sum-all.ensures.value (c.requires.2 l.v c.loop-v-test.true) in
    pass-turn N (λ i. get_or a.groups.now i 0) a.live a.goal l.kept l.v _ c.more_if-kept.result c.stays-staying.result l.invariant (let left : _ ≡ others N (λ i. get_or a.groups.now i 0) a.live a.goal k = omega (arith, e) in left) c.stays-staying.ensures c.more_if-kept.ensures

pub returns : goal.returns
returns c =
    let a = c.args in
    let l = c.loop-v in
    let m = c.contributions-best in
    let all = c.sum-all in
    let N = listed a.n a.wishes.now [] in
    let group : ℕ → ℕ = λ i. get_or a.groups.now i 0 in record { live_value = pass-end N group a.live a.goal l.kept l.v l.invariant (omega arith); sum_value = omega (arith, sum-total N group a.live a.goal m.result all.result c.requires.2 c.requires.0 m.ensures all.ensures.value) }
