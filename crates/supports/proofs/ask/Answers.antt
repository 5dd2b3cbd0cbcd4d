-- `supports::ask` meets its contract.
use mathlib.Core.Path.{sym, subst}
use mathlib.Core.List.{List}
use Prim.Native.Nat.{ℕ}
use Rattle.network.specs.Tables.{Tabled}
use Rattle.supports.proofs.LayerLaws.{asked-row}
use Rattle.supports.proofs.ask.Goals as goal

pub smallest-requires : goal.smallest-requires
smallest-requires c =
    subst (λ (row : List ℕ). Tabled 64 c.args.gives.now row c.args.carriers.now) (sym c.row-mutex.ensures) c.requires.2

pub returns : goal.returns
returns c =
    let a = c.args in
    asked-row 64 a.gives.now a.allowed a.facts c.row-mutex.ensures c.smallest.ensures
