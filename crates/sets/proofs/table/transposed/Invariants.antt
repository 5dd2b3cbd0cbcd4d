-- `sets::table::transposed` meets its contract. The invariant: each row has those numbers below j whose row has it.
use mathlib.Core.Path.{◌≡◌}
use Rattle.sets.specs.Ranges.{list_to}
use Rattle.sets.proofs.Tables.{turned_row}
use Rattle.sets.proofs.table.transposed.Given as goal

abbrev pub invariant-loop-j : goal.invariant-loop-j
invariant-loop-j l = l.turned ≡ list_to 64 (turned_row l.j l.table)
