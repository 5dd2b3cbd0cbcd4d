-- From what an accepted fitting file was read as to the job that it states: what every call on one begins with. Assumes nothing.
use mathlib.Core.Path.{◌≡◌, ap, sym, ◌∙◌}
use Prim.Native.Nat.{ℕ}
use mathlib.Core.List.{List}
use Rattle.reading.specs.Got.{got}
use Rattle.reading.specs.Items.{spots}
use Rattle.std.specs.Prelude.{Ok}
use Rattle.jobfile.specs.declared.ReadFitting.{ReadFitting}
use Rattle.jobfile.specs.Job.{Job}
use Rattle.jobfile.specs.Meaning.{as_fitting, fitting_read, FittingBounds}
use Rattle.jobfile.specs.Read.{read, read_job, fittings}
use Rattle.jobfile.proofs.NamingLaws.{map_got, job_by, read_same}
use Rattle.planning.specs.Rounds.{fitting_of}
use Rattle.planning.specs.Meaning.{fitting_in}
use Rattle.planning.proofs.ReadLaws.{fitting-read}
use Rattle.arguments.proofs.FileLaws.{as-taken}

-- what was read of a fitting file states a job: its fitting
pub record FittingRead (f : List ℕ) (r : ReadFitting) : Type 0 where
  pub job : Job (List ℕ)
  pub end : ℕ
  pub is : read_job fittings f ≡ got job end
  pub fitting : fitting_in r ≡ fitting_of job

pub fitting-job : (f : List ℕ) (r : ReadFitting) → Ok r ≡ fitting_read (read spots fittings f) → FittingBounds f r → FittingRead f r
fitting-job f r e bounds =
    let t = as-taken as_fitting (read spots fittings f) (sym e) in
    let q : read_job fittings f ≡ got (job_by f t.job) t.end = read_same f fittings ∙ ap (map_got (job_by f)) t.is in
    record { job = job_by f t.job; end = t.end; is = q; fitting = fitting-read f r e bounds (job_by f t.job) t.end q }
