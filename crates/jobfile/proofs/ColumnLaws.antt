-- Reading records one by one into columns: what a loop has read, in front of what is left to read. Assumes nothing.
use mathlib.Core.Path.{◌≡◌, refl, ap, sym, ◌∙◌}
use mathlib.Core.Logic.{◌≢◌}
use mathlib.Core.List.{List, [], ◌∷◌, ◌++◌, append_assoc, append-nil}
use Prim.Native.Nat.{ℕ, suc, ◌+◌, ◌-◌, ◌≤◌, ◌<◌, zero-le}
use native.Mathlib.Decide.{ℕ_discrete}
use native.Mathlib.Numerals.{add-one}
use native.Mathlib.Omega.{arith}
use lib.ListN.{length, get_or, set, replicate, length-set, length-replicate}
use lib.Seq.{get_or-set_same, get_or-set_other}
use Rattle.sets.specs.Ranges.{list_to}
use Rattle.sets.proofs.Ranges.{list-cong, list-turn, zeros}
use Rattle.sets.proofs.Filled.{past-turn}
use Rattle.std.specs.Prelude.{Ok, Err}
use Rattle.reading.specs.declared.Refusal.{Refusal}
use Rattle.reading.specs.declared.Spot.{Spot}
use Rattle.jobfile.specs.declared.records.Kind.{Kind}
use Rattle.jobfile.specs.declared.records.ReadRecord.{ReadRecord}
use Rattle.jobfile.specs.declared.records.Records.{Records}
use Rattle.reading.specs.Got.{Got, got, refused, Reader, and_then, each_at, up_from}
use Rattle.reading.specs.Items.{spots}
use Rattle.jobfile.specs.Job.{Record}
use Rattle.jobfile.specs.Read.{record_at}
use Rattle.jobfile.specs.Meaning.{layout_by, sets_by, amounts_by, record_of, record_from, records_of, Column, Columns}
use Rattle.reading.proofs.StepLaws.{and_assoc}

-- ---- columns

pub column-none : Column 0 (replicate {A = ℕ} 64 0)
column-none = record { size = length-replicate {A = ℕ} 64 0; past = λ i l. zeros 64 i }

pub column-set : (i : ℕ) (l : List ℕ) (v : ℕ) → Column i l → Column (i + 1) (set l i v)
column-set i l v c = record { size = length-set l i v ∙ c.size; past = past-turn l i v c.past }

-- ---- what was read so far

-- what is done, in front of what a reading gives
abbrev pub prepended : {A : Type 0} → List A → Got (List A) → Got (List A)
prepended done r = and_then r λ xs b. got (done ++ xs) b

consed : {A : Type 0} (done : List A) (x : A) (r : Got (List A)) → prepended done (and_then r λ xs b. got (x ∷ xs) b) ≡ prepended (done ++ (x ∷ [])) r
consed done x (refused reason place) = refl
consed done x (got xs b) = ap (λ l. got l b) (sym (append_assoc done (x ∷ []) xs))

module _ (f : List ℕ) (kind : Kind) (count n at : ℕ) where
  abbrev pub item : ℕ → Reader (Record Spot)
  item = record_at spots (layout_by kind) count

  -- the records from i on, after those that the columns hold
  abbrev pub rest : ℕ → List (Record Spot) → ℕ → Got (List (Record Spot))
  rest i done next = prepended done (each_at item (up_from (n - i) i) f next)

  -- the records that are in the columns
  abbrev pub held_upto : Records → ℕ → List (Record Spot)
  held_upto r i = list_to i (record_from kind r.first r.second r.third r.starts r.lens)

  -- the loop's invariant, when it is about to read record i
  pub record ColumnsFilled (r : Records) (i : ℕ) : Type 0 where
    pub read : each_at item (up_from n 0) f at ≡ rest i (held_upto r i) r.next
    pub columns : Columns i (length f) r

  pub records-start : let zeros = replicate {A = ℕ} 64 0 in ColumnsFilled (record { first = zeros; second = zeros; third = zeros; starts = zeros; lens = zeros; next = at }) 0
  unfolding list_to
  records-start = record {
    read = let e : n ≡ n - 0 = omega arith in ap (λ (k : ℕ). each_at item (up_from k 0) f at) e ∙ whole (each_at item (up_from (n - 0) 0) f at);
    columns = record { first = column-none; second = column-none; third = column-none; starts = column-none; lens = column-none; within = λ j. omega (arith, column-none.past j zero-le) };
  }
    where
      whole : (r : Got (List (Record Spot))) → r ≡ prepended [] r
      whole (refused reason place) = refl
      whole (got xs b) = refl

  module _ (old : Records) (i : ℕ) (so : ColumnsFilled old i) (l : i < n) where
    split : rest i (held_upto old i) old.next ≡ and_then (item i f old.next) (λ x a. prepended (held_upto old i) (and_then (each_at item (up_from (n - (i + 1)) (suc i)) f a) λ xs b. got (x ∷ xs) b))
    unfolding each_at up_from
    split =
        let k : n - i ≡ suc (n - (i + 1)) = omega arith in
        ap (λ (m : ℕ). prepended (held_upto old i) (each_at item (up_from m i) f old.next)) k ∙ and_assoc (item i f old.next) _ _

    -- record i is refused, and so are the records
    pub records-refused : {e : Refusal} → record_of kind (Err e) ≡ item i f old.next → records_of kind n (Err e) ≡ each_at item (up_from n 0) f at
    records-refused {e} q = sym (so.read ∙ split ∙ ap (λ x. and_then x (λ x a. prepended (held_upto old i) (and_then (each_at item (up_from (n - (i + 1)) (suc i)) f a) λ xs b. got (x ∷ xs) b))) (sym q))

    -- record i is read into the columns
    pub records-turn : (r : ReadRecord) → n ≤ 64 → record_of kind (Ok r) ≡ item i f old.next → r.spot.start + r.spot.len ≤ length f
        → ColumnsFilled (record {
          first = set old.first i r.first;
          second = set old.second i r.second;
          third = set old.third i r.third;
          starts = set old.starts i r.spot.start;
          lens = set old.lens i r.spot.len;
          next = r.next;
        }) (i + 1)
    records-turn r room e t = record {
      read = so.read ∙ split ∙ ap (λ x. and_then x (λ x a. prepended (held_upto old i) (and_then (each_at item (up_from (n - (i + 1)) (suc i)) f a) λ xs b. got (x ∷ xs) b))) (sym e) ∙ consed (held_upto old i) y (each_at item (up_from (n - (i + 1)) (suc i)) f r.next) ∙ onward;
      columns = record {
        first = column-set i old.first r.first c.first;
        second = column-set i old.second r.second c.second;
        third = column-set i old.third r.third c.third;
        starts = column-set i old.starts r.spot.start c.starts;
        lens = column-set i old.lens r.spot.len c.lens;
        within = λ j. inside-file j (ℕ_discrete j i);
      };
    }
      where
        c : Columns i (length f) old
        c = so.columns

        new : ℕ → Record Spot
        new = record_from kind (set old.first i r.first) (set old.second i r.second) (set old.third i r.third) (set old.starts i r.spot.start) (set old.lens i r.spot.len)

        y : Record Spot
        y = record { before = sets_by kind r.first r.second r.third; name = r.spot; after = amounts_by kind r.third }

        inside : (xs : List ℕ) → Column i xs → i < length xs
        inside xs c = omega (arith, c.size)

        here : new i ≡ y
        here =
            rw (
              get_or-set_same old.first i r.first 0 (inside old.first c.first),
              get_or-set_same old.second i r.second 0 (inside old.second c.second),
              get_or-set_same old.third i r.third 0 (inside old.third c.third),
              get_or-set_same old.starts i r.spot.start 0 (inside old.starts c.starts),
              get_or-set_same old.lens i r.spot.len 0 (inside old.lens c.lens),
            )

        other : (j : ℕ) → j ≢ i → new j ≡ record_from kind old.first old.second old.third old.starts old.lens j
        other j d =
            rw (
              get_or-set_other old.first i j r.first 0 d,
              get_or-set_other old.second i j r.second 0 d,
              get_or-set_other old.third i j r.third 0 d,
              get_or-set_other old.starts i j r.spot.start 0 d,
              get_or-set_other old.lens i j r.spot.len 0 d,
            )

        grown : held_upto old i ++ (y ∷ []) ≡ list_to (i + 1) new
        grown =
            sym (list-turn i new ∙ ap (λ (x : Record Spot). list_to i new ++ (x ∷ [])) here
            ∙ ap (λ (l : List (Record Spot)). l ++ (y ∷ [])) (list-cong i new (record_from kind old.first old.second old.third old.starts old.lens) (λ j h. other j (λ q. let z : ⊥ = omega arith in z))))

        onward : prepended (held_upto old i ++ (y ∷ [])) (each_at item (up_from (n - (i + 1)) (suc i)) f r.next) ≡ rest (i + 1) (list_to (i + 1) new) r.next
        onward = rw (grown, add-one i)

        inside-file : (j : ℕ) → Dec (j ≡ i) → get_or (set old.starts i r.spot.start) j 0 + get_or (set old.lens i r.spot.len) j 0 ≤ length f
        inside-file j (yes q) =
            rw (q, get_or-set_same old.starts i r.spot.start 0 (inside old.starts c.starts), get_or-set_same old.lens i r.spot.len 0 (inside old.lens c.lens)) t
        inside-file j (no d) = rw (get_or-set_other old.starts i j r.spot.start 0 d, get_or-set_other old.lens i j r.spot.len 0 d) (c.within j)

  -- all records are in the columns
  pub records-end : (r : Records) → ColumnsFilled r n → records_of kind n (Ok r) ≡ each_at item (up_from n 0) f at
  unfolding each_at up_from
  records-end r so = sym (so.read ∙ (let k : n - n ≡ 0 = omega arith in rw k (rw append-nil)))
