-- `network::tables::both_ways` meets its contract. The invariant: the rows below u are made.
use Rattle.sets.proofs.Filled.{Filled}
use Rattle.network.proofs.TableLaws.{both_row}
use Rattle.network.proofs.tables.both_ways.Given as goal

abbrev pub invariant-loop-u : goal.invariant-loop-u
invariant-loop-u l = Filled 64 (both_row 64 l.clashes) l.both l.u
