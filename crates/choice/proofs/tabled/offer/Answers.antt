-- `choice::tabled::offer` meets its contract.
use mathlib.Core.Path.{sym, ap₂, subst, ◌∙◌}
use mathlib.Core.List.{List}
use Prim.Native.Nat.{ℕ}
use Rattle.sets.proofs.Bits.{part-refl}
use Rattle.network.specs.Network.{listed}
use Rattle.network.specs.Groups.{Partition}
use Rattle.network.proofs.GroupLaws.{groups-right}
use Rattle.choice.specs.Choice.{chosen}
use Rattle.choice.proofs.OfferLaws.{goal-none, goal-whole}
use Rattle.choice.proofs.tabled.offer.Goals as goal

pub choose-requires : goal.choose-requires
choose-requires c =
    let N = listed c.args.n c.args.wishes.now c.args.clashes.now in
    (c.requires.0, c.requires.1, c.requires.2, subst (λ (group : ℕ → ℕ). Partition N group) (sym c.requires.3) (groups-right N), tt)

pub returns-then-order-eq0 : goal.returns-then-order-eq0
returns-then-order-eq0 c =
    let a = c.args in
    let N = listed a.n a.wishes.now a.clashes.now in
    c.choose.ensures ∙ ap₂ (λ (group : ℕ → ℕ) (goals : List ℕ). chosen N group goals a.order 0) c.requires.3 (goal-none a.order c.if-order-eq0.true)

pub choose-requires-2 : goal.choose-requires-2
choose-requires-2 c =
    let N = listed c.args.n c.args.wishes.now c.args.clashes.now in
    (c.requires.0, c.requires.1, c.requires.2, subst (λ (group : ℕ → ℕ). Partition N group) (sym c.requires.3) (groups-right N), (part-refl c.args.order, tt))

pub returns : goal.returns
returns c =
    let a = c.args in
    let N = listed a.n a.wishes.now a.clashes.now in
    c.choose-2.ensures ∙ ap₂ (λ (group : ℕ → ℕ) (goals : List ℕ). chosen N group goals a.order 0) c.requires.3 (goal-whole a.order c.if-order-eq0.false)
