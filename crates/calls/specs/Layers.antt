-- The layers of a fitting file (docs/RULES.md, "Layers"): a buffer for the mutex words is lent.
use Rattle.std.specs.Prelude.{List, ℕ, length, Result}
use Rattle.reading.specs.declared.Refusal.{Refusal}
use Rattle.jobfile.specs.Job.{Job, horizon}
use Rattle.jobfile.specs.Read.{read_job, fittings}
use Rattle.planning.specs.Rounds.{fitting_of}
use Rattle.planning.specs.Layers.{Layer, fact_layer, round_layer}
use Rattle.arguments.specs.Answers.{Answer, value, on_job, after_tests, Said, Left, leaving, result_said}
use Rattle.arguments.specs.Tests.{layer_test}

-- fact layer k on a job, for k from 0 to the horizon, with the words of 32 facts: 9 and 10 are tested
abbrev pub fact_layer_in : {N : Type 0} → Job N → ℕ → List ℕ → Answer Layer
fact_layer_in job k buffer = after_tests (layer_test k 0 (horizon job) (length buffer) 32) (value (fact_layer 32 (fitting_of job) k))

-- round layer k on a job, for k from 1 to the horizon, with the words of 64 vertices, likewise
abbrev pub round_layer_in : {N : Type 0} → Job N → ℕ → List ℕ → Answer Layer
round_layer_in job k buffer = after_tests (layer_test k 1 (horizon job) (length buffer) 64) (value (round_layer 32 (fitting_of job) k))

-- on a file: the members are answered, and the mutex words written, 0 for absent members
abbrev pub fact_layer_of : List ℕ → ℕ → List ℕ → Left ℕ
fact_layer_of file k buffer = leaving (λ layer. layer.words) (λ layer. layer.members) buffer (on_job (read_job fittings file) (λ job. fact_layer_in job k buffer))

abbrev pub round_layer_of : List ℕ → ℕ → List ℕ → Left ℕ
round_layer_of file k buffer = leaving (λ layer. layer.words) (λ layer. layer.members) buffer (on_job (read_job fittings file) (λ job. round_layer_in job k buffer))

-- what the code's answers say
abbrev pub facts_told : Result ℕ Refusal → Said ℕ
facts_told = result_said (λ s. s)

abbrev pub vertices_told : Result ℕ Refusal → Said ℕ
vertices_told = result_said (λ s. s)
