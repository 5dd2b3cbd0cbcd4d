-- Our own partition of a choice file (docs/RULES.md, "Sets, groups and filter"): a buffer for the groups is lent.
use Rattle.std.specs.Prelude.{List, ℕ, length, Result}
use Rattle.reading.specs.declared.Refusal.{Refusal}
use Rattle.jobfile.specs.Job.{Job, size}
use Rattle.jobfile.specs.Read.{read_job, choices}
use Rattle.network.specs.Network.{network_of}
use Rattle.network.specs.Groups.{groups_to}
use Rattle.arguments.specs.Answers.{Answer, value, on_job, after_tests, Said, Left, leaving, result_said}
use Rattle.arguments.specs.Tests.{room_test}

-- on a job: 10 is tested; then the group of each article
abbrev pub partition_in : {N : Type 0} → Job N → List ℕ → Answer (List ℕ)
partition_in job buffer = after_tests (room_test (length buffer) (size job)) (value (groups_to (network_of job) (size job)))

-- on a file: the groups are written, a byte for each article
abbrev pub partition_of : List ℕ → List ℕ → Left (Unit {0})
partition_of file buffer = leaving (λ groups. groups) (λ groups. tt) buffer (on_job (read_job choices file) (λ job. partition_in job buffer))

-- what the code's answer says
abbrev pub partition_told : Result (Unit {0}) Refusal → Said (Unit {0})
partition_told = result_said (λ done. done)
