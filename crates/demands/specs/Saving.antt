-- What the user asks of saving, in words that no code computes with. proofs/Demands.antt and proofs/Saving.antt prove it.
use Rattle.std.specs.Prelude.{◌≡◌, ◌⊎◌, ◌≢◌, List, [], ◌∷◌, ◌++◌, ℕ, ◌^◌, ◌≤◌, ◌<◌, length, get_or}
use Rattle.sets.specs.Sets.{◌∈◌}
use Rattle.reading.specs.Got.{got}
use Rattle.jobfile.specs.Job.{no_record, Job, names_of, size, wish_count, order, wishes, clashes}
use Rattle.jobfile.specs.Read.{read_job, choices}
use Rattle.jobfile.specs.Valid.{Bytes}
use Rattle.changes.specs.Change.{Change, new_order, new_wishes, new_clashes, new_name, new_file}
use Rattle.changes.specs.Places.{order_place, wishes_place, clashes_place, name_place}
use Rattle.demands.specs.Demands.{Fault, Off, short_buffer}

-- what a caller can give: sets of numbers below 64, and a name of bytes
abbrev pub Given : Change → Type 0
Given (new_order v) = v < 2 ^ 64
Given (new_wishes i v) = v < 2 ^ 64
Given (new_clashes i v) = v < 2 ^ 64
Given (new_name i name) = Bytes name

-- ---- what is refused

-- 9: there is no article of that number
abbrev pub no_such_article : ℕ → ℕ → Fault
no_such_article articles i = record { At = λ p. (p ≡ 0) × (articles ≤ i); number = 9 }

-- 6: a set with a member that is not below its bound, at the place of the set in the new file
abbrev pub stray_member : ℕ → ℕ → ℕ → Fault
stray_member bound place v = record { At = λ p. (p ≡ place) × ((m : ℕ) × (bound ≤ m) × (m ∈ v)); number = 6 }

-- 7: a name that is longer than 32 bytes, whatever its length, at the place of its length in the new file
abbrev pub long_name : ℕ → List ℕ → Fault
long_name place name = record { At = λ p. (p ≡ place) × (32 < length name); number = 7 }

-- what can be wrong with a change, in the order of the tests: there is no such article; then a wish that the file lacks, a clash that is not with a lower
-- article, or a name that is too long
abbrev pub wrong_change : Change → Job (List ℕ) → List Fault
wrong_change (new_order v) job = stray_member (wish_count job) order_place v ∷ []
wrong_change (new_wishes i v) job = no_such_article (size job) i ∷ stray_member (wish_count job) (wishes_place job i) v ∷ []
wrong_change (new_clashes i v) job = no_such_article (size job) i ∷ stray_member i (clashes_place job i) v ∷ []
wrong_change (new_name i name) job = no_such_article (size job) i ∷ long_name (name_place job i) name ∷ []

-- and last a buffer that is too short for the new file
abbrev pub wrong_saving : Change → List ℕ → Job (List ℕ) → List Fault
wrong_saving change buffer job = wrong_change change job ++ (short_buffer buffer (length (new_file change job)) ∷ [])

-- the job has no article that the change could be of
abbrev pub Absent : Change → Job (List ℕ) → Type 0
Absent (new_order v) job = ⊥
Absent (new_wishes i v) job = size job ≤ i
Absent (new_clashes i v) job = size job ≤ i
Absent (new_name i name) job = size job ≤ i

-- what turns a change down once the old file is accepted: 9; then what reading the new file says; then 10, if that accepts it
abbrev pub AfterOldFile : Change → List ℕ → Job (List ℕ) → ℕ → ℕ → Type 0
AfterOldFile change buffer job number place =
    (Absent change job × (number ≡ 9) × (place ≡ 0))
    ⊎ ((Absent change job → ⊥)
    × (Off choices (new_file change job) number place
    ⊎ ((new : Job (List ℕ)) × (end : ℕ) × (read_job choices (new_file change job) ≡ got new end) × (length buffer < length (new_file change job)) × (number ≡ 10) × (place ≡ 0))))

-- ---- all else stays

-- what article i has: its wishes, its clashes, its name, and what its record has after the name
abbrev wishes_held : Job (List ℕ) → ℕ → ℕ
wishes_held job i = get_or (wishes job) i 0

abbrev clashes_held : Job (List ℕ) → ℕ → ℕ
clashes_held job i = get_or (clashes job) i 0

abbrev name_held : Job (List ℕ) → ℕ → List ℕ
name_held job i = get_or (names_of job.records) i []

abbrev after_held : Job (List ℕ) → ℕ → List ℕ
after_held job i = (get_or job.records i no_record).after

-- kind, counts and order are as they were
abbrev pub SameHead : Job (List ℕ) → Job (List ℕ) → Type 0
SameHead old new = (new.kind ≡ old.kind) × (new.counts ≡ old.counts) × (new.heads ≡ old.heads)

-- article i has just these two sets and this name; there are as many articles, and all others are as they were
abbrev pub OnlyArticle : ℕ → List ℕ → List ℕ → Job (List ℕ) → Job (List ℕ) → Type 0
OnlyArticle i sets name old new =
    (get_or new.records i no_record ≡ record { before = sets; name = name; after = after_held old i })
    × (length new.records ≡ length old.records)
    × ((j : ℕ) → j ≢ i → get_or new.records j no_record ≡ get_or old.records j no_record)

-- the new job has what the change says, and for the rest what the old one has: there is one such job
abbrev pub OnlyChange : Change → Job (List ℕ) → Job (List ℕ) → Type 0
OnlyChange (new_order v) old new = (new.heads ≡ v ∷ []) × (new.kind ≡ old.kind) × (new.counts ≡ old.counts) × (new.records ≡ old.records)
OnlyChange (new_wishes i v) old new = OnlyArticle i (v ∷ clashes_held old i ∷ []) (name_held old i) old new × SameHead old new
OnlyChange (new_clashes i v) old new = OnlyArticle i (wishes_held old i ∷ v ∷ []) (name_held old i) old new × SameHead old new
OnlyChange (new_name i name) old new = OnlyArticle i (wishes_held old i ∷ clashes_held old i ∷ []) name old new × SameHead old new

-- ---- saving what was there

-- the change that says what a job has, of the part that this change is of
abbrev pub as_it_was : Change → Job (List ℕ) → Change
as_it_was (new_order v) job = new_order (order job)
as_it_was (new_wishes i v) job = new_wishes i (wishes_held job i)
as_it_was (new_clashes i v) job = new_clashes i (clashes_held job i)
as_it_was (new_name i name) job = new_name i (name_held job i)
