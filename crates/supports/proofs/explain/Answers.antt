use mathlib.Core.Path.{sym, subst}
use mathlib.Core.List.{List}
use Prim.Native.Nat.{ℕ, ◌^◌}
use Rattle.sets.specs.Sets.{lowest}
use Rattle.sets.proofs.Bits.{part-refl}
use Rattle.network.specs.Network.{listed, Cover}
use Rattle.network.specs.Tables.{Tabled}
use Rattle.supports.specs.Supports.{Uncovered}
use Rattle.supports.proofs.LayerLaws.{outside-start, outside-turn, outside-lowest}
use Rattle.supports.proofs.explain.Goals as goal

pub loop-left-init : goal.loop-left-init
loop-left-init c =
    let a = c.args in
    let none = subst (λ (row : List ℕ). (x : ℕ) → Cover (listed 64 a.gives.now row) a.allowed a.facts x → ⊥) (sym c.row-mutex.ensures) c.requires.why.1 in
    (record { keeps = c.requires.why.0; part = part-refl a.facts; uncovered = none }, outside-start a.facts a.why c.without-left.ensures)

pub fewer-e-requires : goal.fewer-e-requires
fewer-e-requires c =
    let a = c.args in
    let l = c.loop-left in
    let low = c.lowest-b.ensures in
    let tabled = subst (λ (row : List ℕ). Tabled 64 a.gives.now row a.carriers.now) (sym c.row-mutex.ensures) c.requires.j_bound.2 in
    record { tabled = tabled; b_bound = (low.upper_bound, outside-lowest 64 a.why l.left l.invariant.1 low.value low.upper_bound, l.invariant.0) }

pub loop-left-preserved : goal.loop-left-preserved
loop-left-preserved c =
    let l = c.loop-left in
    (c.fewer-e.ensures, outside-turn c.args.why l.left (2 ^ lowest 64 l.left) l.invariant.1 c.rest-left.ensures.value)

pub returns : goal.returns
returns c =
    let a = c.args in
    subst (λ (row : List ℕ). Uncovered a.gives.now row a.allowed a.facts a.why c.loop-left.e) c.row-mutex.ensures c.loop-left.invariant.0
