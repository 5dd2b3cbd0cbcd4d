-- Comparing two choice files (docs/RULES.md, "Names and comparison").
use Rattle.std.specs.Prelude.{Bool, List, ℕ, Result}
use Rattle.reading.specs.declared.Refusal.{Refusal}
use Rattle.jobfile.specs.Read.{read_job, choices}
use Rattle.names.specs.Likeness.{alike}
use Rattle.arguments.specs.Answers.{Answer, value, on_job, Said, result_said}

-- whether two files are alike; the first is tested before the second
abbrev pub compare_of : List ℕ → List ℕ → Answer Bool
compare_of first second = on_job (read_job choices first) (λ a. on_job (read_job choices second) (λ b. value (alike a b)))

-- what the code's answer says
abbrev pub compare_told : Result Bool Refusal → Said Bool
compare_told = result_said (λ alike. alike)
