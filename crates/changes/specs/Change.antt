-- One change of a choice (docs/RULES.md, "Saving"): another order, or other wishes, other clashes or another name of one article.
use Rattle.std.specs.Prelude.{Bool, false, List, [], ◌∷◌, ℕ, zero, suc, leb}
use Rattle.jobfile.specs.Job.{Record, Job, size}
use Rattle.jobfile.specs.Write.{write}

-- an article by its number; its clashes are its own field, those with lower articles
pub data Change : Type 0 where
  new_order : ℕ → Change
  new_wishes new_clashes : ℕ → ℕ → Change
  new_name : ℕ → List ℕ → Change

-- a list with another element i; a list that has none stays as it is
unfoldable pub alter : {A : Type 0} → ℕ → (A → A) → List A → List A
alter i to [] = []
alter zero to (x ∷ xs) = to x ∷ xs
alter (suc i) to (x ∷ xs) = x ∷ alter i to xs

-- a record with another field k, of those before the name, or with another name
abbrev pub with_field : ℕ → ℕ → Record (List ℕ) → Record (List ℕ)
with_field k v r = record { before = alter k (λ old. v) r.before; name = r.name; after = r.after }

abbrev pub with_name : List ℕ → Record (List ℕ) → Record (List ℕ)
with_name name r = record { before = r.before; name = name; after = r.after }

-- a job with another order, or with another record i
abbrev pub with_order : ℕ → Job (List ℕ) → Job (List ℕ)
with_order v job = record { kind = job.kind; counts = job.counts; heads = alter 0 (λ old. v) job.heads; records = job.records }

abbrev pub with_record : ℕ → (Record (List ℕ) → Record (List ℕ)) → Job (List ℕ) → Job (List ℕ)
with_record i to job = record { kind = job.kind; counts = job.counts; heads = job.heads; records = alter i to job.records }

-- the job after a change; all else in it is as it was. Wishes and clashes are the fields 0 and 1 of an article. An empty set or name is one that a record
-- does not have; an order of zero is written as it is
abbrev pub changed : Change → Job (List ℕ) → Job (List ℕ)
changed (new_order v) job = with_order v job
changed (new_wishes i v) job = with_record i (with_field 0 v) job
changed (new_clashes i v) job = with_record i (with_field 1 v) job
changed (new_name i name) job = with_record i (with_name name) job

-- reason 9: there is no article of that number. An order is of no article
abbrev pub is_absent : Change → Job (List ℕ) → Bool
is_absent (new_order v) job = false
is_absent (new_wishes i v) job = leb (size job) i
is_absent (new_clashes i v) job = leb (size job) i
is_absent (new_name i name) job = leb (size job) i

-- the new file. In it a name of any length has its length as it is, so that one that is too long is refused by 7, however long it is
abbrev pub new_file : Change → Job (List ℕ) → List ℕ
new_file change job = write (changed change job)
