-- Whole files as the code reads them: its items, one after the other, are those of the definition, and its columns are the job's. Assumes nothing.
use mathlib.Core.Path.{◌≡◌, refl, ap, sym, ◌∙◌, subst}
use mathlib.Core.Bool.{Bool, true, false, ◌||◌}
use mathlib.Core.List.{List, [], ◌∷◌, map}
use Rattle.std.specs.Prelude.{Result, Ok, Err, IfOk}
use Prim.Native.Nat.{ℕ, ◌^◌, ◌≤◌, ◌<◌, zero-le}
use native.Mathlib.Decide.{dec_lt}
use native.Mathlib.Omega.{arith}
use lib.Dec.{eqb, lit<}
use lib.ListN.{length, get_or, length-map, get_or-eq_default, get_or-map}
use Rattle.sets.specs.Ranges.{list_to}
use Rattle.sets.proofs.Ranges.{list_length, list_at, list-past, list-map}
use Rattle.sets.proofs.Filled.{filled-part}
use Rattle.reading.specs.declared.Refusal.{Refusal}
use Rattle.reading.specs.declared.Spot.{Spot}
use Rattle.jobfile.specs.declared.ReadChoice.{ReadChoice}
use Rattle.jobfile.specs.declared.ReadFitting.{ReadFitting}
use Rattle.jobfile.specs.declared.ReadNames.{ReadNames}
use Rattle.jobfile.specs.declared.records.Kind.{Kind}
use Rattle.jobfile.specs.declared.records.Kind.TheVariants.{Choice, Fitting}
use Rattle.jobfile.specs.declared.records.Records.{Records}
use Rattle.reading.specs.Got.{Got, got, refused, each_at, up_from}
use Rattle.reading.specs.Items.{Naming, spots, kind_at, count_at, set_at}
use Rattle.jobfile.specs.Layout.{choice, fitting, kinds, layout_in}
use Rattle.jobfile.specs.Job.{Record, Job, names_of, wish_count, prices, takes}
use Rattle.jobfile.specs.Read.{record_at, body_at, layout_at, read, choices, fittings, either}
use Rattle.jobfile.specs.Valid.{Bytes}
use Rattle.reading.specs.Meaning.{got_by, read_from, finished}
use Rattle.jobfile.specs.Meaning.{lens_of, spot_of, spot_by, spot_in, record_from, records_of, Column, Columns, padded, starts_of, choice_read, fitting_read, names_read, Few, ChoiceBounds, FittingBounds, NamesBounds}
use Rattle.reading.proofs.StepLaws.{each_none, each_more}
use Rattle.jobfile.proofs.StepLaws.{body_is, file-is}
use Rattle.jobfile.proofs.NamingLaws.{map_got, record_by, job_by, read_same, after-by}
use Rattle.jobfile.proofs.StatedLaws.{amounts-below, choice-stated}

-- ---- columns as arrays

-- a column is the array of what its records have
pub column-is : (n : ℕ) (l : List ℕ) → Column n l → (e : ℕ → Record Spot) (h : Record Spot → ℕ) → ((i : ℕ) → h (e i) ≡ get_or l i 0) → l ≡ padded 64 (map h (list_to n e))
column-is n l c e h same = filled-part 64 (λ i. h (e i)) l n n (c.size, λ i k. sym (same i)) c.past refl ∙ ap (padded 64) (sym (list-map n e h))

-- a list in an array that it fits into
pub padded-at : (size : ℕ) (l : List ℕ) → length l ≤ size → (i : ℕ) → get_or (padded size l) i 0 ≡ get_or l i 0
padded-at size l h i = go (dec_lt i size)
  where
    go : Dec (i < size) → get_or (padded size l) i 0 ≡ get_or l i 0
    go (yes k) = list_at size (λ j. get_or l j 0) 0 i k
    go (no k) = list-past size (λ j. get_or l j 0) 0 i (omega arith) ∙ sym (get_or-eq_default l 0 (omega arith))

padded-below : (size bound : ℕ) (l : List ℕ) → 0 < bound → ((i : ℕ) → get_or l i 0 < bound) → (i : ℕ) → get_or (padded size l) i 0 < bound
padded-below size bound l some h i = go (dec_lt i size)
  where
    go : Dec (i < size) → get_or (padded size l) i 0 < bound
    go (yes k) = omega (arith, list_at size (λ j. get_or l j 0) 0 i k, h i)
    go (no k) = omega (arith, list-past size (λ j. get_or l j 0) 0 i (omega arith))

-- if nothing was read, every element is 0
pub nothing-there : (i : ℕ) → get_or (padded 64 []) i 0 ≡ 0
nothing-there i = padded-at 64 [] zero-le i

-- the records that the columns hold
abbrev held : Kind → ℕ → Records → List (Record Spot)
held kind n r = list_to n (record_from kind r.first r.second r.third r.starts r.lens)

-- ---- a reading up to the end of the file

module _ {A : Type 0} (value : A) (f : List ℕ) (next : Result ℕ Refusal) {end : Result ℕ Refusal} {whole : Got A}
    (e : end ≡ finished (length f) next) (told : read_from (finished (length f) next) (λ at. got value (length f)) ≡ whole) where
  end_refused : {r : Refusal} → end ≡ Err r → refused r.reason r.place ≡ whole
  end_refused q = ap (λ c. read_from c (λ at. got value (length f))) (sym q ∙ e) ∙ told

-- the records that were found, none if they are refused, and where reading is after them
abbrev found_by : Kind → ℕ → Result Records Refusal → List (Record Spot)
found_by kind n (Ok r) = held kind n r
found_by kind n (Err e) = []

abbrev after_by : Result Records Refusal → Result ℕ Refusal
after_by (Ok r) = Ok r.next
after_by (Err e) = Err e

found-are : (kind : Kind) (n : ℕ) (found : Result Records Refusal) → got_by (found_by kind n found) (after_by found) ≡ records_of kind n found
found-are kind n (Ok r) = refl
found-are kind n (Err e) = refl

-- ---- a choice file

-- a price has 4 bytes
prices-below : (f : List ℕ) → Bytes f → (job : Job Spot) {end : ℕ} → read spots choices f ≡ got job end → (i : ℕ) → get_or (padded 64 (prices job)) i 0 < 2 ^ 32
unfolding choice
prices-below f bytes job e i =
    let stated = choice-stated f bytes (read_same f choices ∙ ap (map_got (job_by f)) e) in
    let below = amounts-below choice (wish_count job) 0 4 refl 0 (map (record_by f) job.records) stated.records in
    padded-below 64 (2 ^ 32) (prices job) (lit< tt) (λ j. subst (λ (l : List ℕ). get_or l j 0 < 2 ^ 32) (after-by f 0 job.records) (below j)) i

-- it was refused, at an item or at its end
module _ (f : List ℕ) (n w order : ℕ) (found : Result Records Refusal) (a b c d : Result ℕ Refusal)
    (kind : got_by 67 a ≡ kind_at choices f 0) (first : got_by n b ≡ read_from a (count_at 1 64 f)) (second : got_by w c ≡ read_from b (count_at 1 64 f))
    (head : got_by order d ≡ read_from c (set_at 8 w f)) (each : records_of Choice n found ≡ read_from d (each_at (record_at spots choice w) (up_from n 0) f)) where
  choice_found : Job Spot
  choice_found = record { kind = 67; counts = n ∷ w ∷ []; heads = order ∷ []; records = found_by Choice n found }

  choice-found : read_from (finished (length f) (after_by found)) (λ at. got choice_found (length f)) ≡ read spots choices f
  unfolding choice_found choice kinds layout_in
  choice-found =
      file-is spots choices f 67 choice choice_found a (after_by found) kind refl
      (body_is spots choice f (n ∷ w ∷ []) (order ∷ []) (found_by Choice n found) c d (after_by found) a
      (each_more (λ c. count_at c.bytes c.limit) f (record { bytes = 1; limit = 64 }) (record { bytes = 1; limit = 64 } ∷ []) n (w ∷ []) b c a first
      (each_more (λ c. count_at c.bytes c.limit) f (record { bytes = 1; limit = 64 }) [] w [] c c b second (each_none (λ c. count_at c.bytes c.limit) f c)))
      (each_more (λ bytes. set_at bytes w) f 8 [] order [] d d c head (each_none (λ bytes. set_at bytes w) f d))
      (found-are Choice n found ∙ each))

  pub choice-refused : {end : Result ℕ Refusal} {r : Refusal} {x : Result ReadChoice Refusal} → end ≡ finished (length f) (after_by found) → end ≡ Err r → x ≡ choice_read (refused r.reason r.place)
      → (x ≡ choice_read (read spots choices f)) × IfOk x (ChoiceBounds f) × Few 64 (read spots choices f)
  choice-refused {end} {r} {x} e q h =
      let told = end_refused choice_found f (after_by found) e choice-found q in
      (h ∙ ap choice_read told, rw h tt, subst (Few 64) told tt)

-- it was accepted: its items, one after the other
module _ (f : List ℕ) (n w order a b c d : ℕ) (found : Records) {u : ℕ} (kind : got_by 67 (Ok a) ≡ kind_at choices f 0) (first : got n b ≡ count_at 1 64 f a) (second : got w c ≡ count_at 1 64 f b)
    (head : got order d ≡ set_at 8 w f c) (each : records_of Choice n (Ok found) ≡ each_at (record_at spots choice w) (up_from n 0) f d) (end : Ok u ≡ finished (length f) (Ok found.next)) where
  choice_job : Job Spot
  choice_job = record { kind = 67; counts = n ∷ w ∷ []; heads = order ∷ []; records = held Choice n found }

  choice-read : got choice_job (length f) ≡ read spots choices f
  unfolding choice_job choice kinds layout_in layout_at body_at read each_at
  choice-read = grind arith

  pub choice-accepted : Bytes f → n ≤ 64 → w ≤ 64 → Columns n (length f) found
      → let x : ReadChoice = record { articles = n; wish_count = w; order = order; wishes = found.first; clashes = found.second; prices = found.third; starts = found.starts; lens = found.lens } in
      (Ok x ≡ choice_read (read spots choices f)) × ChoiceBounds f x × Few 64 (read spots choices f)
  unfolding choice_job
  choice-accepted bytes ln lw ok =
      let told = choice-read in
      let from = record_from Choice found.first found.second found.third found.starts found.lens in
      let one = column-is n found.first ok.first from (λ r. get_or r.before 0 0) (λ i. refl) in
      let two = column-is n found.second ok.second from (λ r. get_or r.before 1 0) (λ i. refl) in
      let three = column-is n found.third ok.third from (λ r. get_or r.after 0 0) (λ i. refl) in
      let starts = column-is n found.starts ok.starts from (λ r. r.name.start) (λ i. refl) in
      let lens = column-is n found.lens ok.lens from (λ r. r.name.len) (λ i. refl) in
      let few = subst (Few 64) told (list_length n from, ln) in
      let prices = prices-below f bytes choice_job (sym told) in
      (cc (one, two, three, starts, lens, ap choice_read told), (ln, lw, ok.within, few, λ i. rw three (prices i)), few)

-- ---- a fitting file

module _ (f : List ℕ) (n m rounds begin goal : ℕ) (found : Result Records Refusal) (a b c d e₁ g : Result ℕ Refusal)
    (kind : got_by 70 a ≡ kind_at fittings f 0) (first : got_by n b ≡ read_from a (count_at 1 32 f)) (second : got_by m c ≡ read_from b (count_at 1 32 f))
    (third : got_by rounds d ≡ read_from c (count_at 1 16 f)) (head : got_by begin e₁ ≡ read_from d (set_at 4 m f)) (aim : got_by goal g ≡ read_from e₁ (set_at 4 m f))
    (each : records_of Fitting n found ≡ read_from g (each_at (record_at spots fitting m) (up_from n 0) f)) (bytes : Bytes f) where
  fitting_found : Job Spot
  fitting_found = record { kind = 70; counts = n ∷ m ∷ rounds ∷ []; heads = begin ∷ goal ∷ []; records = found_by Fitting n found }

  fitting-found : read_from (finished (length f) (after_by found)) (λ at. got fitting_found (length f)) ≡ read spots fittings f
  unfolding fitting_found choice fitting kinds layout_in
  fitting-found =
      file-is spots fittings f 70 fitting fitting_found a (after_by found) kind refl
      (body_is spots fitting f (n ∷ m ∷ rounds ∷ []) (begin ∷ goal ∷ []) (found_by Fitting n found) d g (after_by found) a
      (each_more (λ c. count_at c.bytes c.limit) f (record { bytes = 1; limit = 32 }) (record { bytes = 1; limit = 32 } ∷ record { bytes = 1; limit = 16 } ∷ []) n (m ∷ rounds ∷ []) b d a first
      (each_more (λ c. count_at c.bytes c.limit) f (record { bytes = 1; limit = 32 }) (record { bytes = 1; limit = 16 } ∷ []) m (rounds ∷ []) c d b second
      (each_more (λ c. count_at c.bytes c.limit) f (record { bytes = 1; limit = 16 }) [] rounds [] d d c third (each_none (λ c. count_at c.bytes c.limit) f d))))
      (each_more (λ bytes. set_at bytes m) f 4 (4 ∷ []) begin (goal ∷ []) e₁ g d head
      (each_more (λ bytes. set_at bytes m) f 4 [] goal [] g g e₁ aim (each_none (λ bytes. set_at bytes m) f g)))
      (found-are Fitting n found ∙ each))

  pub fitting-refused : {end : Result ℕ Refusal} {r : Refusal} {x : Result ReadFitting Refusal} → end ≡ finished (length f) (after_by found) → end ≡ Err r → x ≡ fitting_read (refused r.reason r.place)
      → (x ≡ fitting_read (read spots fittings f)) × IfOk x (FittingBounds f) × Few 32 (read spots fittings f) × Bytes f
  fitting-refused {end} {r} {x} e q h =
      let told = end_refused fitting_found f (after_by found) e fitting-found q in
      (h ∙ ap fitting_read told, rw h tt, subst (Few 32) told tt, bytes)

module _ (f : List ℕ) (n m rounds begin goal a b c d e₁ g : ℕ) (found : Records) {u : ℕ} (kind : got_by 70 (Ok a) ≡ kind_at fittings f 0) (first : got n b ≡ count_at 1 32 f a)
    (second : got m c ≡ count_at 1 32 f b) (third : got rounds d ≡ count_at 1 16 f c) (head : got begin e₁ ≡ set_at 4 m f d) (aim : got goal g ≡ set_at 4 m f e₁)
    (each : records_of Fitting n (Ok found) ≡ each_at (record_at spots fitting m) (up_from n 0) f g) (end : Ok u ≡ finished (length f) (Ok found.next)) where
  fitting_job : Job Spot
  fitting_job = record { kind = 70; counts = n ∷ m ∷ rounds ∷ []; heads = begin ∷ goal ∷ []; records = held Fitting n found }

  fitting-read : got fitting_job (length f) ≡ read spots fittings f
  unfolding fitting_job choice fitting kinds layout_in layout_at body_at read each_at
  fitting-read = grind arith

  pub fitting-accepted : Bytes f → n ≤ 32 → m ≤ 32 → rounds ≤ 16 → Columns n (length f) found
      → let x : ReadFitting = record { steps = n; facts = m; horizon = rounds; start = begin; goal = goal; needs = found.first; gives = found.second; takes = found.third; starts = found.starts; lens = found.lens } in
      (Ok x ≡ fitting_read (read spots fittings f)) × FittingBounds f x × Few 32 (read spots fittings f)
  unfolding fitting_job
  fitting-accepted bytes ln lm lr ok =
      let told = fitting-read in
      let from = record_from Fitting found.first found.second found.third found.starts found.lens in
      let one = column-is n found.first ok.first from (λ r. get_or r.before 0 0) (λ i. refl) in
      let two = column-is n found.second ok.second from (λ r. get_or r.before 1 0) (λ i. refl) in
      let three = column-is n found.third ok.third from (λ r. get_or r.before 2 0) (λ i. refl) in
      let starts = column-is n found.starts ok.starts from (λ r. r.name.start) (λ i. refl) in
      let lens = column-is n found.lens ok.lens from (λ r. r.name.len) (λ i. refl) in
      let few = subst (Few 32) told (list_length n from, ln) in
      (cc (one, two, three, starts, lens, ap fitting_read told), (ln, lm, lr, ok.within, few, bytes), few)

-- ---- names of either kind

-- which kind a call takes matters only at the kind that the file has
kind-by : (takes takes' : ℕ → Bool) (f : List ℕ) → takes (get_or f 0 0) ≡ takes' (get_or f 0 0) → kind_at takes f 0 ≡ kind_at takes' f 0
unfolding kind_at
kind-by takes takes' f e = rw e

read_by : {N : Type 0} (names : Naming N) (takes takes' : ℕ → Bool) (f : List ℕ) → takes (get_or f 0 0) ≡ takes' (get_or f 0 0) → read names takes f ≡ read names takes' f
unfolding read layout_at
read_by names takes takes' f e = rw (kind-by takes takes' f e)

either-fitting : {N : Type 0} (names : Naming N) (f : List ℕ) → eqb (get_or f 0 0) 70 ≡ true → read names either f ≡ read names fittings f
either-fitting names f e = read_by names either fittings f (go (eqb (get_or f 0 0) 67) ∙ sym e)
  where
    go : (b : Bool) → b || eqb (get_or f 0 0) 70 ≡ true
    go true = refl
    go false = e

either-choice : {N : Type 0} (names : Naming N) (f : List ℕ) → eqb (get_or f 0 0) 70 ≡ false → read names either f ≡ read names choices f
either-choice names f e = read_by names either choices f (go (eqb (get_or f 0 0) 67))
  where
    go : (b : Bool) → b || eqb (get_or f 0 0) 70 ≡ b
    go true = refl
    go false = e

-- after the end of the columns there is nothing
pub spot_past : (starts lens : List ℕ) (i : ℕ) → length starts ≡ 64 → length lens ≡ 64 → 64 ≤ i → record { start = 0; len = 0 } ≡ spot_of starts lens i
spot_past starts lens i p q h = rw (get_or-eq_default starts 0 {n = i} (omega arith), get_or-eq_default lens 0 {n = i} (omega arith))

-- the columns of names hold the spots: h is the start or the length
name-part : (h : Spot → ℕ) → h spots.absent ≡ 0 → (records : List (Record Spot)) → length records ≤ 64 → (i : ℕ)
    → get_or (padded 64 (map (λ r. h r.name) records)) i 0 ≡ h (get_or (names_of records) i spots.absent)
name-part h z records few i =
    let nobody : Record Spot = record { before = []; name = spots.absent; after = [] } in
    padded-at 64 (map (λ r. h r.name) records) (omega (arith, length-map records (λ r. h r.name))) i
    ∙ ap (get_or (map (λ r. h r.name) records) i) (sym z)
    ∙ get_or-map (λ r. h r.name) records i nobody
    ∙ sym (ap h (get_or-map (λ r. r.name) records i nobody))

spot-at : (records : List (Record Spot)) → length records ≤ 64 → (i : ℕ) → spot_of (padded 64 (starts_of records)) (padded 64 (lens_of records)) i ≡ get_or (names_of records) i spots.absent
spot-at records few i = rw (name-part (λ s. s.start) refl records few i, name-part (λ s. s.len) refl records few i)

-- names as read, accepted or not, hold the spots
pub names-spot : (g : Got (Job Spot)) → Few 64 g → (i : ℕ) → spot_by (names_read g) i ≡ spot_in g i
names-spot (refused reason place) few i = refl
names-spot (got job end) few i = spot-at job.records (omega (arith, few.0, few.1)) i

-- n names of what was read, or the refusal
abbrev fitting_names : Result ReadFitting Refusal → ℕ → Result ReadNames Refusal
fitting_names (Ok r) n = Ok (record { count = n; starts = r.starts; lens = r.lens })
fitting_names (Err e) n = Err e

abbrev choice_names : Result ReadChoice Refusal → ℕ → Result ReadNames Refusal
choice_names (Ok r) n = Ok (record { count = n; starts = r.starts; lens = r.lens })
choice_names (Err e) n = Err e

-- a file of either kind, accepted or not, is read as its first byte says
module _ (f : List ℕ) {b : Bool} (kind : b ≡ eqb (get_or f 0 0) 70) where
  pub fitting-names : {r : Result ReadFitting Refusal} (n : ℕ) → b ≡ true → r ≡ fitting_read (read spots fittings f) → IfOk r (FittingBounds f) → IfOk r (λ x. n ≡ x.steps)
      → (fitting_names r n ≡ names_read (read spots either f)) × IfOk (fitting_names r n) (NamesBounds f) × Few 64 (read spots either f)
  fitting-names {r = Ok r} n t e (steps, facts, rounds, within, few, bytes) all =
      let same = either-fitting spots f (sym kind ∙ t) in
      let more = go (read spots fittings f) e few in
      rw same (more.0, (omega arith, within, more.1), more.1)
    where
      go : (g : Got (Job Spot)) → Ok r ≡ fitting_read g → Few 32 g → (Ok (record { count = n; starts = r.starts; lens = r.lens }) ≡ names_read g) × Few 64 g
      go (refused reason place) e few = cc
      go (got job end) e few = (cc, (few.0, omega (arith, few.1)))
  fitting-names {r = Err x} n t e bounds all = rw (either-fitting spots f (sym kind ∙ t)) (go (read spots fittings f) e)
    where
      go : (g : Got (Job Spot)) → Err x ≡ fitting_read g → (Err x ≡ names_read g) × Unit {0} × Few 64 g
      go (refused reason place) e = (cc, tt, tt)
      go (got job end) e = cc

  pub choice-names : {r : Result ReadChoice Refusal} (n : ℕ) → b ≡ false → r ≡ choice_read (read spots choices f) → IfOk r (ChoiceBounds f) → IfOk r (λ x. n ≡ x.articles)
      → (choice_names r n ≡ names_read (read spots either f)) × IfOk (choice_names r n) (NamesBounds f) × Few 64 (read spots either f)
  choice-names {r = Ok r} n t e (articles, wanted, within, few, priced) all =
      let same = either-choice spots f (sym kind ∙ t) in
      rw same (go (read spots choices f) e, (omega arith, within, few), few)
    where
      go : (g : Got (Job Spot)) → Ok r ≡ choice_read g → Ok (record { count = n; starts = r.starts; lens = r.lens }) ≡ names_read g
      go (refused reason place) e = cc
      go (got job end) e = cc
  choice-names {r = Err x} n t e bounds all = rw (either-choice spots f (sym kind ∙ t)) (go (read spots choices f) e)
    where
      go : (g : Got (Job Spot)) → Err x ≡ choice_read g → (Err x ≡ names_read g) × Unit {0} × Few 64 g
      go (refused reason place) e = (cc, tt, tt)
      go (got job end) e = cc
