-- Where the parts of a choice are in its file, and how many bytes they take (docs/RULES.md, "Job files", kind 67): the order after the kind and two
-- counts; the records after the order; in a record the wishes after the bit map, then the clashes, then the name, then the price. In a record a set takes
-- 8 bytes, and none if it is empty.
use Rattle.std.specs.Prelude.{not, List, [], ℕ, ◌+◌, ◌*◌, eqb, length, get_or, take}
use Rattle.sets.specs.Ranges.{num}
use Rattle.jobfile.specs.Layout.{choice}
use Rattle.jobfile.specs.Job.{Job, names_of, wishes, clashes}
use Rattle.jobfile.specs.Write.{name_bytes, write_record, write_all}
use Rattle.changes.specs.Change.{Change, new_order, new_wishes, new_clashes, new_name}

abbrev pub order_place : ℕ
order_place = 3

-- the bit map of article i
abbrev pub record_place : Job (List ℕ) → ℕ → ℕ
record_place job i = order_place + 8 + length (write_all (write_record choice) (take i job.records))

-- how many bytes a set takes in a record
abbrev pub set_length : ℕ → ℕ
set_length v = 8 * num (not (eqb v 0))

abbrev pub wishes_place : Job (List ℕ) → ℕ → ℕ
wishes_place job i = record_place job i + 1

abbrev pub clashes_place : Job (List ℕ) → ℕ → ℕ
clashes_place job i = wishes_place job i + set_length (get_or (wishes job) i 0)

-- the length of the name of article i, before its bytes
abbrev pub name_place : Job (List ℕ) → ℕ → ℕ
name_place job i = clashes_place job i + set_length (get_or (clashes job) i 0)

-- how many bytes of the file the part takes that a change is of: before the change, and after it. An order takes 8, whatever it is
abbrev pub part_before : Change → Job (List ℕ) → ℕ
part_before (new_order v) job = 8
part_before (new_wishes i v) job = set_length (get_or (wishes job) i 0)
part_before (new_clashes i v) job = set_length (get_or (clashes job) i 0)
part_before (new_name i name) job = length (name_bytes (get_or (names_of job.records) i []))

abbrev pub part_after : Change → ℕ
part_after (new_order v) = 8
part_after (new_wishes i v) = set_length v
part_after (new_clashes i v) = set_length v
part_after (new_name i name) = length (name_bytes name)
