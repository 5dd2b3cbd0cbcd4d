-- Finding by name, in a file of either kind (docs/RULES.md, "Names and comparison").
use Rattle.std.specs.Prelude.{List, [], ℕ, get_or, Result}
use Rattle.reading.specs.declared.Refusal.{Refusal}
use Rattle.reading.specs.declared.Reason.TheVariants.{NameNotFound}
use Rattle.jobfile.specs.Job.{Job, names_of, size}
use Rattle.jobfile.specs.Read.{read_job, either}
use Rattle.names.specs.Names.{lowest_named}
use Rattle.arguments.specs.Answers.{Answer, on_job, found_or, Said, result_said}

-- on a job: the lowest number with this name; none is 16
abbrev pub find_in : Job (List ℕ) → List ℕ → Answer ℕ
find_in job name = found_or (lowest_named name (size job) (λ i. get_or (names_of job.records) i [])) NameNotFound

-- on a file
abbrev pub find_of : List ℕ → List ℕ → Answer ℕ
find_of file name = on_job (read_job either file) (λ job. find_in job name)

-- what the code's answer says
abbrev pub find_told : Result ℕ Refusal → Said ℕ
find_told = result_said (λ i. i)
