-- `jobfile::records::records_from` meets its contract. The invariant, `ColumnsFilled`: the records read are in the columns, and what is left is read from
-- the position after them.
use Rattle.jobfile.proofs.ColumnLaws.{ColumnsFilled}
use Rattle.jobfile.proofs.records.records_from.Given as goal

abbrev pub invariant-loop-i : goal.invariant-loop-i
invariant-loop-i l = ColumnsFilled l.file l.kind l.count l.n l.at l.records l.i
