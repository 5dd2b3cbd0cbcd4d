-- Reading is the same whatever a name is taken for: the job's names are the bytes at the spots. Assumes nothing.
use mathlib.Core.Path.{◌≡◌, refl, ap, ◌∙◌}
use mathlib.Core.Bool.{Bool, true, false}
use mathlib.Core.List.{List, [], ◌∷◌, map, map-map}
use Prim.Native.Nat.{ℕ, zero, suc, ◌+◌}
use lib.Dec.{ltb}
use lib.ListN.{length, get_or, take, drop}
use Rattle.sets.specs.Sets.{member}
use Rattle.reading.specs.declared.Reason.{Reason}
use Rattle.reading.specs.declared.Reason.TheVariants.{EndsEarly, TrailingBytes}
use Rattle.reading.specs.declared.Spot.{Spot}
use Rattle.reading.specs.Got.{Got, got, refused, refuse, and_then, optional, each_at, up_from}
use Rattle.reading.specs.Items.{bytes_in, spots, count_at, map_at, set_at, length_at, name_at}
use Rattle.jobfile.specs.Layout.{Layout, name_bit, bits}
use Rattle.jobfile.specs.Job.{Record, Job, column, column_after, names_of}
use Rattle.jobfile.specs.Read.{fields_at, record_at, body_at, layout_at, read, read_job}
use Rattle.jobfile.specs.Meaning.{spot_in, name_in}

-- the bytes at a spot
abbrev pub bytes_at : List ℕ → Spot → List ℕ
bytes_at f s = take s.len (drop s.start f)

abbrev pub map_got : {A B : Type 0} → (A → B) → Got A → Got B
map_got g (refused reason place) = refused reason place
map_got g (got a n) = got (g a) n

-- the same first, and then the same but for g
and-map : {A B C : Type 0} (g : B → C) (r : Got A) (k : A → ℕ → Got B) (k' : A → ℕ → Got C) → ((a : A) (n : ℕ) → k' a n ≡ map_got g (k a n)) → and_then r k' ≡ map_got g (and_then r k)
and-map g (refused reason place) k k' h = refl
and-map g (got a n) k k' h = h a n

-- the same first but for p, and then the same but for g
map-then : {A A' B C : Type 0} (p : A → A') (g : B → C) (r : Got A) (k : A → ℕ → Got B) (k' : A' → ℕ → Got C) → ((a : A) (n : ℕ) → k' (p a) n ≡ map_got g (k a n))
    → and_then (map_got p r) k' ≡ map_got g (and_then r k)
map-then p g (refused reason place) k k' h = refl
map-then p g (got a n) k k' h = h a n

refuse-map : {A B : Type 0} (g : A → B) (t : Bool) (reason : Reason) (place : ℕ) (r : Got A) → refuse t reason place (map_got g r) ≡ map_got g (refuse t reason place r)
refuse-map g true reason place r = refl
refuse-map g false reason place r = refl

module _ (f : List ℕ) where
  abbrev pub record_by : Record Spot → Record (List ℕ)
  record_by r = record { before = r.before; name = bytes_at f r.name; after = r.after }

  abbrev pub job_by : Job Spot → Job (List ℕ)
  job_by j = record { kind = j.kind; counts = j.counts; heads = j.heads; records = map record_by j.records }

  name-same : (limit at : ℕ) → name_at (bytes_in f) limit f at ≡ map_got (bytes_at f) (name_at spots limit f at)
  unfolding name_at
  name-same limit at = and-map (bytes_at f) (length_at limit f at) _ _ (λ len start. refuse-map (bytes_at f) (ltb (length f) (start + len)) EndsEarly (length f) (got (record { start = start; len = len }) (start + len)))

  marked-same : (b : Bool) (limit at : ℕ) → optional b [] (name_at (bytes_in f) limit) f at ≡ map_got (bytes_at f) (optional b spots.absent (name_at spots limit) f at)
  marked-same true limit at = name-same limit at
  marked-same false limit at = refl

  record_same : (layout : Layout) (count own at : ℕ) → record_at (bytes_in f) layout count own f at ≡ map_got record_by (record_at spots layout count own f at)
  unfolding record_at
  record_same layout count own at =
      and-map record_by (map_at (bits layout) f at) _ _ (λ m a.
      and-map record_by (fields_at layout.before count own m 0 f a) _ _ (λ vs b.
      ap (λ r. and_then r λ name c. and_then (fields_at layout.after count own m (suc (name_bit layout)) f c) λ ws d. got (record { before = vs; name = name; after = ws }) d) (marked-same (member m (name_bit layout)) layout.longest b)
      ∙ map-then (bytes_at f) record_by (optional (member m (name_bit layout)) spots.absent (name_at spots layout.longest) f b) _ _ (λ s c.
      and-map record_by (fields_at layout.after count own m (suc (name_bit layout)) f c) _ _ (λ ws d. refl))))

  records-same : (layout : Layout) (count : ℕ) (xs : List ℕ) (at : ℕ) → each_at (record_at (bytes_in f) layout count) xs f at ≡ map_got (map record_by) (each_at (record_at spots layout count) xs f at)
  unfolding each_at
  records-same layout count [] at = refl
  records-same layout count (x ∷ xs) at =
      ap (λ r. and_then r λ y a. and_then (each_at (record_at (bytes_in f) layout count) xs f a) λ ys b. got (y ∷ ys) b) (record_same layout count x at)
      ∙ map-then record_by (map record_by) (record_at spots layout count x f at) _ _ (λ y a. rest y a (records-same layout count xs a))
    where
      rest : (y : Record Spot) (a : ℕ) → each_at (record_at (bytes_in f) layout count) xs f a ≡ map_got (map record_by) (each_at (record_at spots layout count) xs f a)
          → and_then (each_at (record_at (bytes_in f) layout count) xs f a) (λ ys b. got (record_by y ∷ ys) b) ≡ map_got (map record_by) (and_then (each_at (record_at spots layout count) xs f a) λ ys b. got (y ∷ ys) b)
      rest y a e = ap (λ r. and_then r λ ys b. got (record_by y ∷ ys) b) e ∙ map-then (map record_by) (map record_by) (each_at (record_at spots layout count) xs f a) _ _ (λ ys b. refl)

  body_same : (layout : Layout) (at : ℕ) → body_at (bytes_in f) layout f at ≡ map_got job_by (body_at spots layout f at)
  unfolding body_at
  body_same layout at =
      and-map job_by (each_at (λ c. count_at c.bytes c.limit) layout.counts f at) _ _ (λ counts a.
      and-map job_by (each_at (λ bytes. set_at bytes (get_or counts 1 0)) layout.heads f a) _ _ (λ heads b.
      ap (λ r. and_then r λ records c. got (record { kind = layout.kind; counts = counts; heads = heads; records = records }) c) (records-same layout (get_or counts 1 0) (up_from (get_or counts 0 0) 0) b)
      ∙ map-then (map record_by) job_by (each_at (record_at spots layout (get_or counts 1 0)) (up_from (get_or counts 0 0) 0) f b) _ _ (λ rs c. refl)))

  pub read_same : (takes : ℕ → Bool) → read_job takes f ≡ map_got job_by (read spots takes f)
  unfolding read_job read
  read_same takes =
      and-map job_by (layout_at takes f 0) _ _ (λ layout a.
      ap (λ r. and_then r λ job end. refuse (ltb end (length f)) TrailingBytes end (got job (length f))) (body_same layout a)
      ∙ map-then job_by job_by (body_at spots layout f a) _ _ (λ job end. refuse-map job_by (ltb end (length f)) TrailingBytes end (got job (length f))))

  -- the fields are not touched
  pub column-by : (k : ℕ) (records : List (Record Spot)) → column k (map record_by records) ≡ column k records
  column-by k records = map-map (λ r. get_or r.before k 0) record_by records

  pub after-by : (k : ℕ) (records : List (Record Spot)) → column_after k (map record_by records) ≡ column_after k records
  after-by k records = map-map (λ r. get_or r.after k 0) record_by records

  pub names_same : (records : List (Record Spot)) (i : ℕ) → get_or (names_of (map record_by records)) i [] ≡ bytes_at f (get_or (names_of records) i spots.absent)
  names_same [] i = refl
  names_same (r ∷ rs) zero = refl
  names_same (r ∷ rs) (suc i) = names_same rs i

  -- the name of a record is the bytes at its spot
  pub name-at-spot : (takes : ℕ → Bool) (i : ℕ) → name_in (read_job takes f) i ≡ bytes_at f (spot_in (read spots takes f) i)
  name-at-spot takes i = ap (λ g. name_in g i) (read_same takes) ∙ go (read spots takes f)
    where
      go : (g : Got (Job Spot)) → name_in (map_got job_by g) i ≡ bytes_at f (spot_in g i)
      go (refused reason place) = refl
      go (got job end) = names_same job.records i
