-- The choice that the program makes on a choice file (docs/RULES.md, "The program").
use Rattle.std.specs.Prelude.{List, ℕ}
use Rattle.jobfile.specs.Job.{Job, size, order}
use Rattle.jobfile.specs.Read.{read_job, choices}
use Rattle.network.specs.Network.{network_of}
use Rattle.network.specs.Groups.{groups_to}
use Rattle.choice.specs.Choice.{sole_goal}
use Rattle.arguments.specs.Answers.{Answer, on_job}
use Rattle.calls.specs.Choose.{Chosen, choose_in}

-- on a job: the choice by our own partition, with the whole order as the only goal, none if it is empty, and no floor
abbrev pub offer_in : {N : Type 0} → Job N → Answer Chosen
offer_in job = choose_in job (groups_to (network_of job) (size job)) (sole_goal (order job)) 0

-- on a file
abbrev pub offer_of : List ℕ → Answer Chosen
offer_of file = on_job (read_job choices file) (λ job. offer_in job)
