-- `writing::put_records` meets its contract. The invariant: the records of the first articles are put, each in at most 55 bytes.
use Prim.Native.Nat.{◌+◌, ◌*◌, ◌≤◌}
use Rattle.sets.specs.Ranges.{list_to}
use Rattle.jobfile.specs.Layout.{choice}
use Rattle.jobfile.specs.Write.{write_record, write_all}
use Rattle.writing.specs.Put.{Put}
use Rattle.writing.specs.Meaning.{article_in}
use Rattle.writing.proofs.put_records.Given as goal

abbrev pub invariant-loop-i : goal.invariant-loop-i
invariant-loop-i l =
    (l.k ≤ l.at + 55 * l.i) × Put l.initial.page l.at (write_all (write_record choice) (list_to l.i (article_in l.file l.read l.number l.name))) l.page l.k
