-- What the code's types mean.
use Rattle.std.specs.Prelude.{[], Result, Ok, Err}
use Rattle.reading.specs.declared.Refusal.{Refusal}
use Rattle.jobfile.specs.declared.ReadFitting.{ReadFitting}
use Rattle.planning.specs.Rounds.{Fitting, listed_steps}

-- the fitting of a file as read
abbrev pub fitting_in : ReadFitting → Fitting
fitting_in job =
    record { count = job.steps; facts = job.facts; steps = listed_steps job.needs job.gives job.takes; start = job.start; goal = job.goal; horizon = job.horizon }

-- the fitting of a file as read, accepted or not: one without facts and steps if the file is refused
abbrev pub fitting_by : Result ReadFitting Refusal → Fitting
fitting_by (Ok job) = fitting_in job
fitting_by (Err e) = record { count = 0; facts = 0; steps = listed_steps [] [] []; start = 0; goal = 0; horizon = 0 }
