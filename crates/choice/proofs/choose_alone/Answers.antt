-- `choice::choose_alone` meets its contract.
use borrow.Author.Rules.{rules}
use mathlib.Core.Path.{sym, ap₂, subst, ◌∙◌}
use mathlib.Core.List.{List}
use Prim.Native.Nat.{ℕ, ◌≤◌}
use lib.ListN.{length, replicate}
use Rattle.sets.proofs.Ranges.{zeros}
use Rattle.sets.proofs.Bits.{part-refl}
use Rattle.network.specs.Network.{listed}
use Rattle.network.specs.Groups.{Partition}
use Rattle.network.proofs.GroupLaws.{groups-right}
use Rattle.choice.specs.Choice.{chosen}
use Rattle.choice.proofs.OfferLaws.{own-groups, goal-none, goal-whole}
use Rattle.choice.proofs.choose_alone.Goals as goal

pub choose-requires : goal.choose-requires
choose-requires c =
    let a = c.args in
    let p = c.partition in
    let N = listed a.n a.wishes.now a.clashes.now in
    let groups = p.new.groups in
    let room : a.n ≤ length groups = search rules in
    let own = own-groups 64 a.n a.wishes.now a.clashes.now (replicate {A = ℕ} 64 0) groups (zeros 64) p.ensures in
    (c.requires, room, subst (λ (group : ℕ → ℕ). Partition N group) (sym own) (groups-right N), tt)

pub returns-then-order-eq0 : goal.returns-then-order-eq0
returns-then-order-eq0 c =
    let a = c.args in
    let p = c.partition in
    let N = listed a.n a.wishes.now a.clashes.now in
    let own = own-groups 64 a.n a.wishes.now a.clashes.now (replicate {A = ℕ} 64 0) p.new.groups (zeros 64) p.ensures in
    c.choose.ensures ∙ ap₂ (λ (group : ℕ → ℕ) (goals : List ℕ). chosen N group goals a.order a.floor) own (goal-none a.order c.if-order-eq0.true)

pub choose-requires-2 : goal.choose-requires-2
choose-requires-2 c =
    let a = c.args in
    let p = c.partition in
    let N = listed a.n a.wishes.now a.clashes.now in
    let groups = p.new.groups in
    let room : a.n ≤ length groups = search rules in
    let own = own-groups 64 a.n a.wishes.now a.clashes.now (replicate {A = ℕ} 64 0) groups (zeros 64) p.ensures in
    (c.requires, room, subst (λ (group : ℕ → ℕ). Partition N group) (sym own) (groups-right N), (part-refl a.order, tt))

pub returns : goal.returns
returns c =
    let a = c.args in
    let p = c.partition in
    let N = listed a.n a.wishes.now a.clashes.now in
    let own = own-groups 64 a.n a.wishes.now a.clashes.now (replicate {A = ℕ} 64 0) p.new.groups (zeros 64) p.ensures in
    c.choose-2.ensures ∙ ap₂ (λ (group : ℕ → ℕ) (goals : List ℕ). chosen N group goals a.order a.floor) own (goal-whole a.order c.if-order-eq0.false)
