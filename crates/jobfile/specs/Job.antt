-- The job that a file states (docs/RULES.md, "Job files"): its kind, its counts with the horizon, its sets, and its records.
-- N is what a name is taken for; in the job itself it is a list of bytes. What a file leaves out is the empty set, no amount, or no name.
use Rattle.std.specs.Prelude.{List, [], map, ℕ, get_or}

-- what a record states: its fields before the name in the order of their bits, its name, and its fields after the name
pub record Record (N : Type 0) : Type 0 where
  pub before : List ℕ
  pub name : N
  pub after : List ℕ

pub record Job (N : Type 0) : Type 0 where
  pub kind : ℕ
  pub counts : List ℕ
  pub heads : List ℕ
  pub records : List (Record N)

-- a record that states nothing
abbrev pub no_record : Record (List ℕ)
no_record = record { before = []; name = []; after = [] }

-- field k of each record, of those before the name, and of those after it; and the name of each record
abbrev pub column : {N : Type 0} → ℕ → List (Record N) → List ℕ
column k records = map (λ r. get_or r.before k 0) records

abbrev pub column_after : {N : Type 0} → ℕ → List (Record N) → List ℕ
column_after k records = map (λ r. get_or r.after k 0) records

abbrev pub names_of : {N : Type 0} → List (Record N) → List N
names_of records = map (λ r. r.name) records

-- ---- the parts of a job by the names of the rules

-- how many records there are: articles, or steps
abbrev pub size : {N : Type 0} → Job N → ℕ
size job = get_or job.counts 0 0

-- of a choice
abbrev pub wish_count : {N : Type 0} → Job N → ℕ
wish_count job = get_or job.counts 1 0

abbrev pub order : {N : Type 0} → Job N → ℕ
order job = get_or job.heads 0 0

abbrev pub wishes : {N : Type 0} → Job N → List ℕ
wishes job = column 0 job.records

abbrev pub clashes : {N : Type 0} → Job N → List ℕ
clashes job = column 1 job.records

-- a price is the number that its bytes spell
abbrev pub prices : {N : Type 0} → Job N → List ℕ
prices job = column_after 0 job.records

-- of a fitting
abbrev pub fact_count : {N : Type 0} → Job N → ℕ
fact_count job = get_or job.counts 1 0

abbrev pub horizon : {N : Type 0} → Job N → ℕ
horizon job = get_or job.counts 2 0

abbrev pub start : {N : Type 0} → Job N → ℕ
start job = get_or job.heads 0 0

abbrev pub goal : {N : Type 0} → Job N → ℕ
goal job = get_or job.heads 1 0

abbrev pub needs : {N : Type 0} → Job N → List ℕ
needs job = column 0 job.records

abbrev pub gives : {N : Type 0} → Job N → List ℕ
gives job = column 1 job.records

abbrev pub takes : {N : Type 0} → Job N → List ℕ
takes job = column 2 job.records
