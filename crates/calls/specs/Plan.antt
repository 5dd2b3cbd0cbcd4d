-- The plan of a file (docs/RULES.md, "Planner"): a buffer for its rounds is lent.
use Rattle.std.specs.Prelude.{◌≡◌, List, ℕ, length, take, drop, Result}
use Rattle.reading.specs.declared.Refusal.{Refusal}
use Rattle.reading.specs.declared.Reason.TheVariants.{NoPlan}
use Rattle.reading.specs.Got.{Got, got, refused}
use Rattle.jobfile.specs.Job.{Job, horizon}
use Rattle.jobfile.specs.Read.{read_job, fittings}
use Rattle.planning.specs.Rounds.{Fitting, fitting_of, Plan, fewest}
use Rattle.arguments.specs.Answers.{Answer, refusal, value, on_job, after_tests, found_or, Said, result_said}
use Rattle.arguments.specs.Tests.{room_test}

-- on a job: 10 is tested, by the horizon; then the fewest rounds of a plan within it; none is 15
abbrev pub plan_in : {N : Type 0} → Job N → List ℕ → Answer ℕ
plan_in job buffer = after_tests (room_test (length buffer) (horizon job)) (found_or (fewest (fitting_of job) (horizon job)) NoPlan)

-- on a file
abbrev pub plan_of : List ℕ → List ℕ → Answer ℕ
plan_of file buffer = on_job (read_job fittings file) (λ job. plan_in job buffer)

-- what the code's answer says
abbrev pub plan_told : Result ℕ Refusal → Said ℕ
plan_told = result_said (λ k. k)

-- The buffer afterwards. If k rounds are answered, its first k words are the rounds of a plan, in their order, and the others stay as they were;
-- which plan it is, is left free. Otherwise all words stay as they were
abbrev pub WordsIn : Fitting → List ℕ → List ℕ → Answer ℕ → Type 0
WordsIn F old new (refusal reason place) = new ≡ old
WordsIn F old new (value k) = Plan F (take k new) × (drop k new ≡ drop k old)

abbrev pub Buffer : Got (Job (List ℕ)) → List ℕ → List ℕ → Answer ℕ → Type 0
Buffer (refused reason place) old new a = new ≡ old
Buffer (got job end) old new a = WordsIn (fitting_of job) old new a
