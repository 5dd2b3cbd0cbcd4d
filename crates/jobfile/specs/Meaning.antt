-- What the code's types mean.
use Rattle.std.specs.Prelude.{◌≡◌, List, [], ◌∷◌, map, ℕ, ◌+◌, ◌^◌, ◌≤◌, ◌<◌, length, get_or, Result, Ok, Err}
use Rattle.sets.specs.Ranges.{list_to}
use Rattle.reading.specs.declared.Refusal.{Refusal}
use Rattle.reading.specs.declared.Spot.{Spot}
use Rattle.jobfile.specs.declared.records.Kind.{Kind}
use Rattle.jobfile.specs.declared.records.Kind.TheVariants.{Choice, Fitting}
use Rattle.jobfile.specs.declared.records.ReadRecord.{ReadRecord}
use Rattle.jobfile.specs.declared.records.Records.{Records}
use Rattle.reading.specs.Got.{Got, got, refused}
use Rattle.jobfile.specs.Layout.{Layout, choice, fitting}
use Rattle.jobfile.specs.declared.ReadChoice.{ReadChoice}
use Rattle.jobfile.specs.declared.ReadFitting.{ReadFitting}
use Rattle.jobfile.specs.declared.ReadNames.{ReadNames}
use Rattle.reading.specs.Items.{spots}
use Rattle.jobfile.specs.Read.{read, choices, fittings, either}
use Rattle.jobfile.specs.Valid.{Bytes}
use Rattle.jobfile.specs.Job.{Record, Job, names_of, size, wish_count, order, wishes, clashes, prices, fact_count, horizon, start, goal, needs, gives, takes}

-- ---- records, by the kind of their file

abbrev pub layout_by : Kind → Layout
layout_by Choice = choice
layout_by Fitting = fitting

abbrev pub sets_by : Kind → ℕ → ℕ → ℕ → List ℕ
sets_by Choice a b c = a ∷ b ∷ []
sets_by Fitting a b c = a ∷ b ∷ c ∷ []

-- the third number of an article is its price
abbrev pub amounts_by : Kind → ℕ → List ℕ
amounts_by Choice c = c ∷ []
amounts_by Fitting c = []

abbrev pub record_of : Kind → Result ReadRecord Refusal → Got (Record Spot)
record_of kind (Ok r) = got (record { before = sets_by kind r.first r.second r.third; name = r.spot; after = amounts_by kind r.third }) r.next
record_of kind (Err r) = refused r.reason r.place

-- record i of the columns
abbrev pub record_from : Kind → List ℕ → List ℕ → List ℕ → List ℕ → List ℕ → ℕ → Record Spot
record_from kind first second third starts lens i =
    record { before = sets_by kind (get_or first i 0) (get_or second i 0) (get_or third i 0); name = record { start = get_or starts i 0; len = get_or lens i 0 }; after = amounts_by kind (get_or third i 0) }

abbrev pub records_of : Kind → ℕ → Result Records Refusal → Got (List (Record Spot))
records_of kind n (Ok r) = got (list_to n (record_from kind r.first r.second r.third r.starts r.lens)) r.next
records_of kind n (Err r) = refused r.reason r.place

-- every name lies within a file of this length
abbrev pub NamesWithin : ℕ → List ℕ → List ℕ → Type 0
NamesWithin end starts lens = (i : ℕ) → get_or starts i 0 + get_or lens i 0 ≤ end

-- the columns have 64 elements, 0 from n on, and names lie within the file
pub record Column (n : ℕ) (l : List ℕ) : Type 0 where
  pub size : length l ≡ 64
  pub past : (i : ℕ) → n ≤ i → get_or l i 0 ≡ 0

pub record Columns (n size : ℕ) (r : Records) : Type 0 where
  pub first : Column n r.first
  pub second : Column n r.second
  pub third : Column n r.third
  pub starts : Column n r.starts
  pub lens : Column n r.lens
  pub within : NamesWithin size r.starts r.lens

-- ---- files

-- a list in an array of this size, with 0 after its end
abbrev pub padded : ℕ → List ℕ → List ℕ
padded size l = list_to size (λ i. get_or l i 0)

abbrev pub starts_of : List (Record Spot) → List ℕ
starts_of records = map (λ r. r.name.start) records

abbrev pub lens_of : List (Record Spot) → List ℕ
lens_of records = map (λ r. r.name.len) records

-- a file as read: what is made of the job that it states, or the refusal
abbrev pub read_as : {A : Type 0} → (Job Spot → A) → Got (Job Spot) → Result A Refusal
read_as made (refused reason place) = Err (record { reason = reason; place = place })
read_as made (got job end) = Ok (made job)

-- a choice file: its job, with the spots of its names
abbrev pub as_choice : Job Spot → ReadChoice
as_choice job = record {
  articles = size job;
  wish_count = wish_count job;
  order = order job;
  wishes = padded 64 (wishes job);
  clashes = padded 64 (clashes job);
  prices = padded 64 (prices job);
  starts = padded 64 (starts_of job.records);
  lens = padded 64 (lens_of job.records);
}

abbrev pub choice_read : Got (Job Spot) → Result ReadChoice Refusal
choice_read = read_as as_choice

-- a fitting file, likewise
abbrev pub as_fitting : Job Spot → ReadFitting
as_fitting job = record {
  steps = size job;
  facts = fact_count job;
  horizon = horizon job;
  start = start job;
  goal = goal job;
  needs = padded 64 (needs job);
  gives = padded 64 (gives job);
  takes = padded 64 (takes job);
  starts = padded 64 (starts_of job.records);
  lens = padded 64 (lens_of job.records);
}

abbrev pub fitting_read : Got (Job Spot) → Result ReadFitting Refusal
fitting_read = read_as as_fitting

-- the names of a file of either kind, likewise
abbrev pub as_names : Job Spot → ReadNames
as_names job = record { count = size job; starts = padded 64 (starts_of job.records); lens = padded 64 (lens_of job.records) }

abbrev pub names_read : Got (Job Spot) → Result ReadNames Refusal
names_read = read_as as_names

-- as many records as are counted, and no more than a limit
abbrev pub Few : ℕ → Got (Job Spot) → Type 0
Few limit (refused reason place) = Unit {0}
Few limit (got job end) = (length job.records ≡ size job) × (size job ≤ limit)

-- element i of the columns of names: 0 and 0 after their end
abbrev pub spot_of : List ℕ → List ℕ → ℕ → Spot
spot_of starts lens i = record { start = get_or starts i 0; len = get_or lens i 0 }

-- the spot of the name of record i of the names as read: 0 and 0 if the file is refused
abbrev pub spot_by : Result ReadNames Refusal → ℕ → Spot
spot_by (Ok r) i = spot_of r.starts r.lens i
spot_by (Err e) i = record { start = 0; len = 0 }

-- the spot of the name of record i: 0 and 0 if the file is refused, if it has no record i, or if that has no name
abbrev pub spot_in : Got (Job Spot) → ℕ → Spot
spot_in (refused reason place) i = record { start = 0; len = 0 }
spot_in (got job end) i = get_or (names_of job.records) i (record { start = 0; len = 0 })

-- the name of record i, empty in the same cases
abbrev pub name_in : Got (Job (List ℕ)) → ℕ → List ℕ
name_in (refused reason place) i = []
name_in (got job end) i = get_or (names_of job.records) i []

-- what a reader keeps to beside its equation: the limits, and names within the file; of a choice also that a price has 4 bytes, and of a fitting that
-- the file is one of bytes, as the theorems on what a file states ask
abbrev pub ChoiceBounds : List ℕ → ReadChoice → Type 0
ChoiceBounds f r = (r.articles ≤ 64) × (r.wish_count ≤ 64) × NamesWithin (length f) r.starts r.lens × Few 64 (read spots choices f) × ((i : ℕ) → get_or r.prices i 0 < 2 ^ 32)

abbrev pub FittingBounds : List ℕ → ReadFitting → Type 0
FittingBounds f r = (r.steps ≤ 32) × (r.facts ≤ 32) × (r.horizon ≤ 16) × NamesWithin (length f) r.starts r.lens × Few 32 (read spots fittings f) × Bytes f

abbrev pub NamesBounds : List ℕ → ReadNames → Type 0
NamesBounds f r = (r.count ≤ 64) × NamesWithin (length f) r.starts r.lens × Few 64 (read spots either f)
