use borrow.Author.Rules.{rules}
use mathlib.Core.Path.{◌≡◌, ap, ◌∙◌}
use Prim.Native.Nat.{ℕ}
use native.Mathlib.Omega.{arith}
use lib.ListN.{length}
use Rattle.sets.specs.Ranges.{list_to}
use Rattle.sets.proofs.Ranges.{list_length}
use Rattle.sets.specs.Tables.{transposed}
use Rattle.sets.proofs.Tables.{turned_row, turned-start, turned_turn}
use Rattle.sets.proofs.table.transposed.Goals as goal

pub loop-j-init : goal.loop-j-init
loop-j-init c = turned-start 64 c.args.table.now

pub mark-requires : goal.mark-requires
mark-requires c =
    let l = c.loop-j in
    (search rules, ap length l.invariant ∙ list_length 64 (turned_row l.j c.args.table.now))

pub loop-j-preserved : goal.loop-j-preserved
loop-j-preserved c =
    let l = c.loop-j in
    turned_turn 64 c.args.table.now l.turned c.mark.new.turned l.j l.invariant c.mark.ensures

pub returns : goal.returns
unfolding transposed
returns c =
    let l = c.loop-j in
    let e : l.j ≡ 64 = omega arith in
    l.invariant ∙ ap (λ (m : ℕ). list_to 64 (turned_row m c.args.table.now)) e
