-- To save what was there gives the same job, and after any change of that part the job as it was. Assumes nothing.
use mathlib.Core.Path.{◌≡◌, refl, ap, ◌∙◌}
use mathlib.Core.List.{List, []}
use Prim.Native.Nat.{ℕ}
use lib.ListN.{get_or, get_or-map}
use Rattle.jobfile.specs.Job.{Record, no_record, Job, column, column_after, names_of, order, wishes, clashes}
use Rattle.changes.specs.Change.{new_order, new_wishes, new_clashes, new_name, with_field, with_name, with_record, changed}
use Rattle.changes.proofs.AlterLaws.{alter-twice, alter-kept}

-- ---- records

field-same : (k v : ℕ) (r : Record (List ℕ)) → v ≡ get_or r.before k 0 → with_field k v r ≡ r
field-same k v r e = ap (λ (l : List ℕ). record { before = l; name = r.name; after = r.after }) (alter-kept k (λ old. v) r.before 0 e)

field_back : (k v u : ℕ) (r : Record (List ℕ)) → v ≡ get_or r.before k 0 → with_field k v (with_field k u r) ≡ r
field_back k v u r e = ap (λ (l : List ℕ). record { before = l; name = r.name; after = r.after }) (alter-twice k (λ old. u) (λ old. v) r.before) ∙ field-same k v r e

-- ---- jobs

module _ (job : Job (List ℕ)) where
  -- record i
  abbrev pub here : ℕ → Record (List ℕ)
  here i = get_or job.records i no_record

  abbrev with_records : List (Record (List ℕ)) → Job (List ℕ)
  with_records rs = record { kind = job.kind; counts = job.counts; heads = job.heads; records = rs }

  record_same : (i : ℕ) (to : Record (List ℕ) → Record (List ℕ)) → to (here i) ≡ here i → with_record i to job ≡ job
  record_same i to e = ap with_records (alter-kept i to job.records no_record e)

  record-back : (i : ℕ) (to back : Record (List ℕ) → Record (List ℕ)) → back (to (here i)) ≡ here i → with_record i back (with_record i to job) ≡ job
  record-back i to back e = ap with_records (alter-twice i to back job.records) ∙ record_same i (λ r. back (to r)) e

  -- what the columns hold
  pub field-here : (k i : ℕ) → get_or (column k job.records) i 0 ≡ get_or (here i).before k 0
  field-here k i = get_or-map (λ r. get_or r.before k 0) job.records i no_record

  pub amount-here : (k i : ℕ) → get_or (column_after k job.records) i 0 ≡ get_or (here i).after k 0
  amount-here k i = get_or-map (λ r. get_or r.after k 0) job.records i no_record

  pub name-here : (i : ℕ) → get_or (names_of job.records) i [] ≡ (here i).name
  name-here i = get_or-map (λ r. r.name) job.records i no_record

  -- to save what is there
  pub order_same : changed (new_order (order job)) job ≡ job
  order_same = ap (λ (l : List ℕ). record { kind = job.kind; counts = job.counts; heads = l; records = job.records }) (alter-kept 0 (λ old. order job) job.heads 0 refl)

  pub wishes-same : (i : ℕ) → changed (new_wishes i (get_or (wishes job) i 0)) job ≡ job
  wishes-same i = record_same i (with_field 0 (get_or (wishes job) i 0)) (field-same 0 (get_or (wishes job) i 0) (here i) (field-here 0 i))

  pub clashes-same : (i : ℕ) → changed (new_clashes i (get_or (clashes job) i 0)) job ≡ job
  clashes-same i = record_same i (with_field 1 (get_or (clashes job) i 0)) (field-same 1 (get_or (clashes job) i 0) (here i) (field-here 1 i))

  pub name-same : (i : ℕ) → changed (new_name i (get_or (names_of job.records) i [])) job ≡ job
  name-same i = record_same i (with_name (get_or (names_of job.records) i [])) (ap (λ (s : List ℕ). with_name s (here i)) (name-here i))

  -- to save what was there before a change
  pub order-back : (v : ℕ) → changed (new_order (order job)) (changed (new_order v) job) ≡ job
  order-back v = ap (λ (l : List ℕ). record { kind = job.kind; counts = job.counts; heads = l; records = job.records }) (alter-twice 0 (λ old. v) (λ old. order job) job.heads) ∙ order_same

  pub wishes-back : (i v : ℕ) → changed (new_wishes i (get_or (wishes job) i 0)) (changed (new_wishes i v) job) ≡ job
  wishes-back i v = record-back i (with_field 0 v) (with_field 0 (get_or (wishes job) i 0)) (field_back 0 (get_or (wishes job) i 0) v (here i) (field-here 0 i))

  pub clashes-back : (i v : ℕ) → changed (new_clashes i (get_or (clashes job) i 0)) (changed (new_clashes i v) job) ≡ job
  clashes-back i v = record-back i (with_field 1 v) (with_field 1 (get_or (clashes job) i 0)) (field_back 1 (get_or (clashes job) i 0) v (here i) (field-here 1 i))

  pub name_back : (i : ℕ) (name : List ℕ) → changed (new_name i (get_or (names_of job.records) i [])) (changed (new_name i name) job) ≡ job
  name_back i name = record-back i (with_name name) (with_name (get_or (names_of job.records) i [])) (ap (λ (s : List ℕ). with_name s (here i)) (name-here i))
