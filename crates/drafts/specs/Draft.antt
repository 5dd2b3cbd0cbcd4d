-- The file with a change, before it is written out (docs/RULES.md, "Saving"). Tested are, in this order: the old file; 9; the new file; 10.
use Rattle.std.specs.Prelude.{List, ℕ, length}
use Rattle.reading.specs.declared.Reason.TheVariants.{OutOfRange}
use Rattle.jobfile.specs.Job.{Job}
use Rattle.jobfile.specs.Read.{read_job, choices}
use Rattle.arguments.specs.Answers.{Answer, value, on_job, on_value, unless, after_tests, Left, leaving}
use Rattle.arguments.specs.Tests.{room_test}
use Rattle.changes.specs.Change.{Change, is_absent, new_file}

-- a file, if reading it accepts it; otherwise why and where it does not
abbrev pub drafted : List ℕ → Answer (List ℕ)
drafted new = on_job (read_job choices new) (λ job. value new)

-- the new file of a job, unless there is no such article (9) or reading it says why not
abbrev pub draft_in : Change → Job (List ℕ) → Answer (List ℕ)
draft_in change job = unless (is_absent change job) OutOfRange (drafted (new_file change job))

-- on a file
abbrev pub draft_of : List ℕ → Change → Answer (List ℕ)
draft_of file change = on_job (read_job choices file) (λ job. draft_in change job)

-- the last test, 10: the buffer is as long as the new file, or longer
abbrev pub room_for : List ℕ → Answer (List ℕ) → Answer (List ℕ)
room_for buffer draft = on_value draft (λ new. after_tests (room_test (length buffer) (length new)) (value new))

-- the new file at the front of the buffer, with the later bytes as they were, and its length
abbrev pub stored : List ℕ → Answer (List ℕ) → Left ℕ
stored buffer draft = leaving (λ new. new) (λ new. length new) buffer (room_for buffer draft)
