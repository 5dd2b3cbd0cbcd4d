use mathlib.Core.Path.{◌≡◌, refl, ap, ◌∙◌}
use mathlib.Core.List.{[]}
use Prim.Native.Nat.{ℕ, ◌+◌}
use native.Mathlib.Omega.{arith}
use Rattle.sets.proofs.Made.{set-made}
use Rattle.sets.specs.Ranges.{sum_to}
use Rattle.sets.specs.Sets.{set_of}
use Rattle.planning.specs.Rounds.{listed_steps}
use Rattle.planning.specs.Layers.{stands, standing}
use Rattle.layers.specs.Meaning.{layer}
use Rattle.layers.proofs.rounds.standing.Goals as goal

pub loop-x-init : goal.loop-x-init
unfolding set_of sum_to
loop-x-init c = refl

pub loop-x-preserved : goal.loop-x-preserved
loop-x-preserved c =
    let a = c.args in
    let l = c.loop-x in
    set-made (stands 32 (listed_steps a.needs.now [] []) (layer a.facts a.words.now)) l.set l.x c.more_if-set.result c.stands-up.result l.invariant c.stands-up.ensures c.more_if-set.ensures

pub returns : goal.returns
unfolding standing
returns c =
    let a = c.args in
    let l = c.loop-x in
    let e : l.x ≡ 32 + a.count = omega arith in
    l.invariant ∙ ap (λ (n : ℕ). set_of n (stands 32 (listed_steps a.needs.now [] []) (layer a.facts a.words.now))) e
