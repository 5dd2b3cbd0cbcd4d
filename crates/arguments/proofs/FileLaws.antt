-- What the result of reading a file tells a call: an error turns the call down; otherwise the call is the one on the job that the file states. Assumes
-- nothing.
use mathlib.Core.Path.{◌≡◌, refl, ap, ap₂, sym, ◌∙◌}
use Prim.Native.Nat.{ℕ}
use mathlib.Core.Bool.{Bool}
use mathlib.Core.List.{List}
use native.Mathlib.Omega.{arith}
use Rattle.reading.specs.declared.Reason.{Reason}
use Rattle.reading.specs.declared.Refusal.{Refusal}
use Rattle.reading.specs.declared.Spot.{Spot}
use Rattle.reading.specs.Got.{Got, got, refused}
use Rattle.reading.specs.Items.{spots}
use Rattle.reading.specs.Reasons.{number_of}
use Rattle.reading.proofs.Reasons.{number-tells}
use Rattle.std.specs.Prelude.{Result, Ok, Err}
use Rattle.jobfile.specs.declared.ReadChoice.{ReadChoice}
use Rattle.jobfile.specs.Job.{Job}
use Rattle.jobfile.specs.Meaning.{read_as, as_choice, choice_read}
use Rattle.jobfile.specs.Read.{read, read_job, choices}
use Rattle.jobfile.proofs.NamingLaws.{map_got, job_by, read_same}
use Rattle.arguments.specs.Answers.{Answer, refusal, on_job}

-- what was read with the names as spots, with the names as bytes
refused-same : (f : List ℕ) (takes : ℕ → Bool) {r : Refusal} → read spots takes f ≡ refused r.reason r.place → read_job takes f ≡ refused r.reason r.place
refused-same f takes e = read_same f takes ∙ ap (map_got (job_by f)) e

-- ---- what the result of a reading tells

-- a reading that was accepted, and what was made of its job
pub record Taken {R : Type 0} (made : Job Spot → R) (g : Got (Job Spot)) (r : R) : Type 0 where
  pub job : Job Spot
  pub end : ℕ
  pub is : g ≡ got job end
  pub told : r ≡ made job

module _ {R : Type 0} (made : Job Spot → R) where
  pub as-taken : (g : Got (Job Spot)) {r : R} → read_as made g ≡ Ok r → Taken made g r
  as-taken (refused reason place) e = let z : ◌≡◌ {A = ℕ} 0 1 = cc in absurd (omega arith)
  as-taken (got job end) e = record { job = job; end = end; is = refl; told = cc }

  down : (g : Got (Job Spot)) {x : Refusal} → read_as made g ≡ Err x → g ≡ refused x.reason x.place
  down (refused reason place) {x} e = let told : Refusal = record { reason = reason; place = place } in let p : told ≡ x = cc in ap (λ (y : Refusal). refused y.reason y.place) p
  down (got job end) e = let z : ◌≡◌ {A = ℕ} 0 1 = cc in absurd (omega arith)

  -- ---- files that are refused

  pub file-down : (f : List ℕ) (takes : ℕ → Bool) {v : Result R Refusal} {x : Refusal} → v ≡ read_as made (read spots takes f) → v ≡ Err x → read_job takes f ≡ refused x.reason x.place
  file-down f takes p q = refused-same f takes (down (read spots takes f) (sym p ∙ q))

-- a reading as numbers: the number of the fault and its place, 0 if there is none; and 1 if the file is accepted
unfoldable pub fault_in : Got (Job Spot) → ℕ
fault_in (refused reason place) = number_of reason
fault_in (got job end) = 0

unfoldable pub place_in : Got (Job Spot) → ℕ
place_in (refused reason place) = place
place_in (got job end) = 0

unfoldable pub taken_in : Got (Job Spot) → ℕ
taken_in (refused reason place) = 0
taken_in (got job end) = 1

by-numbers : (g : Got (Job Spot)) (reason : Reason) (place : ℕ) → number_of reason ≡ fault_in g → place ≡ place_in g → 0 ≡ taken_in g → g ≡ refused reason place
unfolding fault_in place_in taken_in
by-numbers (refused reason place) reason' place' fault at t = ap₂ refused (sym (number-tells reason' reason fault)) (sym at)
by-numbers (got job end) reason' place' fault at t = absurd (omega arith)

-- the same if file g was read, and its reading has the numbers of f
pub choice-down-as : (f g : List ℕ) {v : Result ReadChoice Refusal} {r : Refusal} → v ≡ choice_read (read spots choices g) → v ≡ Err r
    → fault_in (read spots choices g) ≡ fault_in (read spots choices f) → place_in (read spots choices g) ≡ place_in (read spots choices f) → taken_in (read spots choices g) ≡ taken_in (read spots choices f)
    → read_job choices f ≡ refused r.reason r.place
unfolding fault_in place_in taken_in
choice-down-as f g {r = r} p q fault place t =
    let d = down as_choice (read spots choices g) (sym p ∙ q) in
    refused-same f choices (by-numbers (read spots choices f) r.reason r.place (sym (ap fault_in d) ∙ fault) (sym (ap place_in d) ∙ place) (sym (ap taken_in d) ∙ t))

-- the call is turned down with it
pub job-down : {A : Type 0} {g : Got (Job (List ℕ))} {r : Refusal} (call : Job (List ℕ) → Answer A) → g ≡ refused r.reason r.place → refusal r.reason r.place ≡ on_job g call
job-down call e = sym (ap (λ g. on_job g call) e)

-- ---- files that are accepted

-- the call on the job
pub on-job : {A : Type 0} {g : Got (Job (List ℕ))} {job : Job (List ℕ)} {end : ℕ} (call : Job (List ℕ) → Answer A) → g ≡ got job end → call job ≡ on_job g call
on-job call e = sym (ap (λ g. on_job g call) e)
