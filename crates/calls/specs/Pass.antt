-- A pass of the filter on a choice file (docs/RULES.md, "Sets, groups and filter"): groups, a live set and one projection goal are lent.
use Rattle.std.specs.Prelude.{List, ℕ, get_or, Result}
use Rattle.reading.specs.declared.Refusal.{Refusal}
use Rattle.jobfile.specs.Job.{Job, size, order}
use Rattle.jobfile.specs.Read.{read_job, choices}
use Rattle.network.specs.Network.{Network, network_of}
use Rattle.filter.specs.Filter.{total, pass}
use Rattle.arguments.specs.Answers.{Answer, value, on_job, after_tests, Said, result_said}
use Rattle.calls.specs.declared.Passed as code
use Rattle.arguments.specs.Tests.{groups_test, pass_test}

-- what a pass leaves live, and the sum of the contributions by which it was made
pub record Passed : Type 0 where
  pub live : ℕ
  pub sum : ℕ

-- a pass over a network
abbrev pub passed_for : Network → (ℕ → ℕ) → ℕ → ℕ → Passed
passed_for N group live goal = record { live = pass N group live goal; sum = total N group live goal }

-- on a job: 10 and 11, then 12 and 13 are tested; then the pass is made
abbrev pub pass_in : {N : Type 0} → Job N → List ℕ → ℕ → ℕ → Answer Passed
pass_in job groups live goal =
    after_tests (groups_test (network_of job) groups)
    (after_tests (pass_test (size job) (order job) live goal)
    (value (passed_for (network_of job) (λ u. get_or groups u 0) live goal)))

-- on a file
abbrev pub pass_of : List ℕ → List ℕ → ℕ → ℕ → Answer Passed
pass_of file groups live goal = on_job (read_job choices file) (λ job. pass_in job groups live goal)

-- what the code's answer says
abbrev pub pass_told : Result code.Passed Refusal → Said Passed
pass_told = result_said (λ p. record { live = p.live.bits; sum = p.sum })
