-- From what a file was read as to the fitting that it states: there is room for it, and all its sets are of facts that there are. Assumes nothing.
use mathlib.Core.Path.{◌≡◌, refl, sym, ap, subst, ◌∙◌}
use mathlib.Core.List.{List, []}
use Prim.Native.Nat.{ℕ, ◌^◌, ◌≤◌, ◌<◌, zero-le}
use native.Mathlib.Omega.{arith}
use lib.ListN.{get_or, get_or-eq_default}
use lib.Pow.{pow_pos}
use Rattle.std.specs.Prelude.{Result, Ok, Err, IfOk}
use Rattle.reading.specs.declared.Refusal.{Refusal}
use Rattle.reading.specs.declared.Spot.{Spot}
use Rattle.reading.specs.Got.{Got, got, refused}
use Rattle.reading.specs.Items.{spots}
use Rattle.jobfile.specs.declared.ReadFitting.{ReadFitting}
use Rattle.jobfile.specs.Layout.{fitting}
use Rattle.jobfile.specs.Job.{Job, column, size, fact_count, horizon, start, goal}
use Rattle.jobfile.specs.Read.{read, read_job, fittings}
use Rattle.jobfile.specs.Meaning.{padded, Few, FittingBounds, as_fitting, fitting_read}
use Rattle.jobfile.proofs.Lawful.{same-value}
use Rattle.jobfile.proofs.FileLaws.{each_at_lem, count-bound, Body}
use Rattle.jobfile.proofs.StatedLaws.{column-length, column-below, fitting-stated}
use Rattle.jobfile.proofs.ReadLaws.{padded-at}
use Rattle.jobfile.proofs.NamingLaws.{map_got, job_by, read_same, column-by}
use Rattle.planning.specs.Rounds.{fitting_of}
use Rattle.planning.specs.Back.{Sized}
use Rattle.planning.specs.Meaning.{fitting_in, fitting_by}

-- ---- the fitting of a job

sized-stated : (job : Job (List ℕ)) → Body fitting job → Sized 32 (fitting_of job)
unfolding fitting
sized-stated job ok = record {
  few = count-bound fitting job.counts ok.counts 0;
  room = count-bound fitting job.counts ok.counts 1;
  start = head 0;
  goal = head 1;
  needs = λ a l. column-below fitting (fact_count job) 0 4 refl 0 job.records ok.records a;
  gives = λ a l. column-below fitting (fact_count job) 1 4 refl 0 job.records ok.records a;
  takes = λ a l. column-below fitting (fact_count job) 2 4 refl 0 job.records ok.records a;
  past = λ a l. (past 0 a l, past 1 a l, past 2 a l);
}
  where
    head : (k : ℕ) → get_or job.heads k 0 < 2 ^ fact_count job
    head = each_at_lem (λ bytes v. v < 2 ^ fact_count job) 0 0 (pow_pos (fact_count job)) fitting.heads job.heads ok.heads

    past : (k a : ℕ) → size job ≤ a → get_or (column k job.records) a 0 ≡ 0
    past k a l = get_or-eq_default (column k job.records) 0 {n = a} (omega (arith, column-length k job.records, ok.size))

-- ---- the fitting that the code has

-- it is that of the job: zeros after the steps change nothing, nor does what names are taken for
fitting-same : (f : List ℕ) (job : Job Spot) (end : ℕ) → Few 32 (got job end) → fitting_in (as_fitting job) ≡ fitting_of (job_by f job)
fitting-same f job end few = λ i. record {
  count = size job;
  facts = fact_count job;
  steps = record { needs = λ a. word_at 0 a i; gives = λ a. word_at 1 a i; takes = λ a. word_at 2 a i };
  start = start job;
  goal = goal job;
  horizon = horizon job;
}
  where
    word_at : (k a : ℕ) → get_or (padded 64 (column k job.records)) a 0 ≡ get_or (column k (job_by f job).records) a 0
    word_at k a =
        padded-at 64 (column k job.records) (omega (arith, column-length k job.records, few.0, few.1)) a
        ∙ ap (λ (l : List ℕ). get_or l a 0) (sym (column-by f k job.records))

-- if nothing was read, there is no step and no fact
sized-none : (e : Refusal) → Sized 32 (fitting_by (Err e))
sized-none e = record {
  few = zero-le;
  room = zero-le;
  start = pow_pos 0;
  goal = pow_pos 0;
  needs = λ a l. absurd (omega arith);
  gives = λ a l. absurd (omega arith);
  takes = λ a l. absurd (omega arith);
  past = λ a l. (nothing a, nothing a, nothing a);
}
  where
    nothing : (a : ℕ) → ◌≡◌ {A = ℕ} (get_or [] a 0) 0
    nothing a = get_or-eq_default [] 0 {n = a} zero-le

-- ---- what a reading is good for

module _ (f : List ℕ) (r : ReadFitting) (e : Ok r ≡ fitting_read (read spots fittings f)) (bounds : FittingBounds f r) where
  -- the code has the fitting of the job that was read
  pub fitting-read : (job : Job (List ℕ)) (end : ℕ) → read_job fittings f ≡ got job end → fitting_in r ≡ fitting_of job
  fitting-read job end q = go (read spots fittings f) refl (sym (read_same f fittings) ∙ q)
    where
      go : (g : Got (Job Spot)) → read spots fittings f ≡ g → map_got (job_by f) (read spots fittings f) ≡ got job end → fitting_in r ≡ fitting_of job
      go (refused reason place) is same = let other = ap (map_got (job_by f)) (sym is) ∙ same in let z : ◌≡◌ {A = ℕ} 0 1 = cc in absurd (omega arith)
      go (got found at) is same =
          let as_read : Ok r ≡ fitting_read (got found at) = e ∙ ap fitting_read is in
          let q : r ≡ as_fitting found = cc in
          ap fitting_in q ∙ fitting-same f found at (subst (Few 32) is bounds.4) ∙ ap fitting_of (same-value (ap (map_got (job_by f)) (sym is) ∙ same))

  sized-accepted : Sized 32 (fitting_in r)
  sized-accepted = go (read spots fittings f) refl
    where
      go : (g : Got (Job Spot)) → read spots fittings f ≡ g → Sized 32 (fitting_in r)
      go (refused reason place) is =
          let as_read : Ok r ≡ fitting_read (refused reason place) = e ∙ ap fitting_read is in
          let z : ◌≡◌ {A = ℕ} 0 1 = cc in absurd (omega arith)
      go (got found at) is =
          let q : read_job fittings f ≡ got (job_by f found) at = read_same f fittings ∙ ap (map_got (job_by f)) is in
          subst (Sized 32) (sym (fitting-read (job_by f found) at q)) (sized-stated (job_by f found) (fitting-stated f bounds.5 q))

-- whatever was read, accepted or not, there is room for it and its sets are of facts that there are
pub sized-read : (f : List ℕ) (v : Result ReadFitting Refusal) → v ≡ fitting_read (read spots fittings f) → IfOk v (FittingBounds f) → Sized 32 (fitting_by v)
sized-read f (Ok r) e bounds = sized-accepted f r e bounds
sized-read f (Err x) e bounds = sized-none x
