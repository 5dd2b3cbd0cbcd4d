-- A fair's orders against one choice file (docs/RULES.md, "A fair's orders"): a buffer of three words an order is lent.
use Rattle.std.specs.Prelude.{List, [], ◌∷◌, ◌++◌, ℕ, ◌*◌, ◌^◌, leb, length, Result}
use Rattle.reading.specs.declared.Refusal.{Refusal}
use Rattle.reading.specs.declared.Reason.TheVariants.{OrderOutsideFile}
use Rattle.reading.specs.Reasons.{number_of}
use Rattle.jobfile.specs.Job.{Job, wish_count}
use Rattle.jobfile.specs.Read.{read_job, choices}
use Rattle.arguments.specs.Answers.{Answer, refusal, value, on_job, unless, after_tests, Said, result_said, Left, leaving}
use Rattle.arguments.specs.Tests.{room_test}
use Rattle.changes.specs.Change.{new_order, changed}
use Rattle.calls.specs.Choose.{Chosen}
use Rattle.calls.specs.Offer.{offer_in}

-- the answer to an order in place of the file's own: what the program chooses on the job with that order; 18 if it names a wish that the file lacks
abbrev pub order_in : Job (List ℕ) → ℕ → Answer Chosen
order_in job wanted = unless (leb (2 ^ wish_count job) wanted) OrderOutsideFile (offer_in (changed (new_order wanted) job))

-- the words of an entry: a status, the selection and the set aside
abbrev pub entry_words : ℕ
entry_words = 3

-- the status is 0 if there is a selection; otherwise it is the number, and the other two words are 0
abbrev pub entry_of : Answer Chosen → List ℕ
entry_of (refusal reason place) = number_of reason ∷ 0 ∷ 0 ∷ []
entry_of (value c) = 0 ∷ c.selection ∷ c.aside ∷ []

-- an entry for each order of a list, in its order
unfoldable pub entries : (ℕ → Answer Chosen) → List ℕ → List ℕ
entries answer [] = []
entries answer (wanted ∷ orders) = entry_of (answer wanted) ++ entries answer orders

-- on a job: 10 is tested; then every order is answered
abbrev pub fair_in : Job (List ℕ) → List ℕ → List ℕ → Answer (List ℕ)
fair_in job orders buffer = after_tests (room_test (length buffer) (entry_words * length orders)) (value (entries (order_in job) orders))

-- on a file: the entries are written
abbrev pub fair_of : List ℕ → List ℕ → List ℕ → Left (Unit {0})
fair_of file orders buffer = leaving (λ words. words) (λ words. tt) buffer (on_job (read_job choices file) (λ job. fair_in job orders buffer))

-- what the code's answer says
abbrev pub fair_told : Result (Unit {0}) Refusal → Said (Unit {0})
fair_told = result_said (λ done. done)
