-- The choice on a file (docs/RULES.md, "Selection"): groups, projection goals and a floor are lent.
use Rattle.std.specs.Prelude.{List, ℕ, get_or, Result, Ok, Err}
use Rattle.std.proofs.Math.Option.{Option, none, some}
use Rattle.reading.specs.declared.Refusal.{Refusal}
use Rattle.reading.specs.declared.Reason.TheVariants.{NoSelection}
use Rattle.jobfile.specs.Job.{Job, order}
use Rattle.jobfile.specs.Read.{read_job, choices}
use Rattle.network.specs.Network.{Network, network_of}
use Rattle.sets.specs.Sets.{full}
use Rattle.filter.specs.Filter.{set_aside, first_short}
use Rattle.choice.specs.Meaning.{Choice}
use Rattle.calls.specs.declared.Chosen as code
use Rattle.choice.specs.Choice.{selection}
use Rattle.arguments.specs.Answers.{Answer, refusal, value, on_job, after_tests, Said, result_said}
use Rattle.arguments.specs.Tests.{groups_test, goals_test}

-- a selection, with what was set aside
pub record Chosen : Type 0 where
  pub selection : ℕ
  pub aside : ℕ

-- a selection that was found, with what was set aside; or 14, with its place
abbrev pub chosen_or : Option ℕ → ℕ → ℕ → Answer Chosen
chosen_or (some x) aside place = value (record { selection = x; aside = aside })
chosen_or none aside place = refusal NoSelection place

-- over a network: the smallest selection at or above the floor. The place of 14 is the first goal that falls short, or the list's length; all articles
-- are live before the first pass
abbrev pub chosen_for : Network → (ℕ → ℕ) → List ℕ → ℕ → ℕ → Answer Chosen
chosen_for N group goals order floor = chosen_or (selection N order floor) (set_aside N group goals) (first_short N group (full N.articles) goals)

-- on a job: 10 and 11, then 13 are tested; then the choice is made
abbrev pub choose_in : {N : Type 0} → Job N → List ℕ → List ℕ → ℕ → Answer Chosen
choose_in job groups goals floor =
    after_tests (groups_test (network_of job) groups)
    (after_tests (goals_test (order job) goals)
    (chosen_for (network_of job) (λ u. get_or groups u 0) goals (order job) floor))

-- on a file
abbrev pub choose_of : List ℕ → List ℕ → List ℕ → ℕ → Answer Chosen
choose_of file groups goals floor = on_job (read_job choices file) (λ job. choose_in job groups goals floor)

-- what the search answers, in the words of the rules
abbrev pub searched : Choice → Answer Chosen
searched (Ok c) = value (record { selection = c.selection; aside = c.aside })
searched (Err n) = refusal NoSelection n.place

-- what the code's answer says
abbrev pub choice_told : Result code.Chosen Refusal → Said Chosen
choice_told = result_said (λ c. record { selection = c.selection.bits; aside = c.aside.bits })
