-- A file with a change that does not fit is refused for it, at its place: first for any sound layout, then for choices. Assumes nothing.
use mathlib.Core.Path.{◌≡◌, refl, ap, ap₂, sym, ◌∙◌}
use mathlib.Core.Bool.{Bool, true, false, not, cond}
use mathlib.Core.List.{List, [], ◌∷◌, append-nil}
use mathlib.Core.Option.{some}
use Prim.Native.Nat.{ℕ, zero, suc, ◌+◌, ◌*◌, ◌^◌, ◌≤◌, ◌<◌}
use native.Mathlib.Omega.{arith}
use lib.Dec.{ltb, eqb}
use lib.ListN.{length, get_or, take, length-append}
use lib.Seq.{get_or-drop}
use Rattle.sets.specs.Ranges.{num}
use Rattle.sets.specs.Sets.{member}
use Rattle.reading.specs.declared.Reason.{Reason}
use Rattle.reading.specs.declared.Reason.TheVariants.{LongName, AbsentMember, TrailingBytes}
use Rattle.reading.specs.Got.{got, refused, Reader, refuse, and_then, each_at, up_from}
use Rattle.reading.specs.Items.{bytes_in, kind_at, set_at}
use Rattle.reading.proofs.StepLaws.{and_assoc}
use Rattle.jobfile.specs.Layout.{Field, set, amount, width, Layout, name_bit, bits, choice, layout_of}
use Rattle.jobfile.specs.Job.{Record, no_record, Job, column, size, wish_count, wishes, clashes}
use Rattle.jobfile.specs.Read.{below, fields_at, record_at, body_at, layout_or, layout_at, read, read_job, choices}
use Rattle.jobfile.specs.Write.{bytes_of, field_bytes, fields_bytes, parts_bytes, map_of, joined, write_record, write_each, write_all, write_body, write_by, write}
use Rattle.jobfile.specs.Valid.{Each, Fits, ValidRecord}
use Rattle.jobfile.proofs.Lawful.{All, each_same}
use Rattle.jobfile.proofs.ItemLaws.{length-bytes, kind-lawful, map-lawful}
use Rattle.jobfile.proofs.RecordLaws.{Marked, Roomy, field-marked-lawful, fields-lawful, parts_before, parts_from, record-parts, below_all, marks}
use Rattle.jobfile.proofs.StatedLaws.{choice-known, choice-counts, choice-head}
use Rattle.jobfile.proofs.FileLaws.{Sound, choice-sound, all-at, count-bound, Body, all-counts, one-head, all-heads, roomy, one-record}
use Rattle.changes.specs.Change.{new_order, new_wishes, new_clashes, new_name, alter, with_field, with_name, with_order, with_record, new_file}
use Rattle.changes.specs.Places.{order_place, record_place, set_length, wishes_place, clashes_place, name_place}
use Rattle.changes.proofs.ChangeLaws.{here, field-here}
use Rattle.changes.proofs.StopLaws.{Stops, restop, reread-stops, behind-stops, first_stops, second-stops, each-stops, all-stops, set-stops, field-stops, name-stops}

-- ---- records of any layout

-- a value that the bytes of a set have room for, with a member that is not below the bound
abbrev Stray : ℕ → ℕ → Field → ℕ → Type 0
Stray count number (set bytes bound) v = (v < 256 ^ bytes) × (2 ^ below bound count number ≤ v)
Stray count number (amount bytes) v = ⊥

-- fields, with another value of field j: they stop there
fields-stop : (count number m v k j : ℕ) (fields : List Field) (vs : List ℕ) → All (Roomy count number) fields → Each (Fits count number) fields vs
    → Stray count number (get_or fields j (amount 0)) v → Marked (fields_bytes fields (alter j (λ old. v) vs)) m k
    → Stops (fields_at fields count number m k) (joined (fields_bytes fields (alter j (λ old. v) vs))) (length (joined (take j (fields_bytes fields vs)))) AbsentMember
unfolding fields_at fields_bytes joined alter
fields-stop count number m v k j [] vs room o off marked = absurd off
fields-stop count number m v k j (field ∷ fields) [] room o off marked = absurd o
fields-stop count number m v k zero (set bytes bound ∷ fields) (u ∷ vs) room o off marked =
    behind-stops (joined (fields_bytes fields vs)) (first_stops _ (field-stops bytes (below bound count number) v off.0 off.1 room.0.0 (member m k) marked.0))
fields-stop count number m v k zero (amount bytes ∷ fields) (u ∷ vs) room o off marked = absurd off
fields-stop count number m v k (suc j) (field ∷ fields) (u ∷ vs) room o off marked =
    restop refl (sym (length-append (field_bytes (width field) u) (joined (take j (fields_bytes fields vs)))))
    (second-stops _ u (field-marked-lawful field count number (member m k) room.0) (o.0, marked.0) (first_stops _ (fields-stop count number m v (suc k) j fields vs room.1 o.1 off marked.1)))

module _ (layout : Layout) (few : 2 ^ bits layout ≤ 256) (count number : ℕ) (room : All (Roomy count number) layout.before) (r : Record (List ℕ)) (ok : Each (Fits count number) layout.before r.before) where
  -- a record with another field j, of those before the name
  stops-at-field : (j v : ℕ) → Stray count number (get_or layout.before j (amount 0)) v
      → Stops (λ f at. record_at (bytes_in f) layout count number f at) (write_record layout (with_field j v r)) (1 + length (joined (take j (parts_before layout r)))) AbsentMember
  unfolding record_at
  stops-at-field j v off =
      let new = with_field j v r in
      let m = map_of (parts_bytes layout new) in
      restop (sym (record-parts layout new)) refl
      (second-stops _ m (map-lawful (bits layout) few) (below_all layout new)
      (behind-stops (joined (parts_from layout new)) (first_stops _ (fields-stop count number m v 0 j layout.before r.before room ok off (marks layout new).0))))

  -- a record with a name that is too long
  stops-at-name : (name : List ℕ) → layout.longest < length name
      → Stops (λ f at. record_at (bytes_in f) layout count number f at) (write_record layout (with_name name r)) (1 + length (joined (parts_before layout r))) LongName
  unfolding record_at joined
  stops-at-name name long =
      let new = with_name name r in
      let m = map_of (parts_bytes layout new) in
      restop (sym (record-parts layout new)) (omega arith)
      (second-stops _ m (map-lawful (bits layout) few) (below_all layout new)
      (second-stops _ r.before (fields-lawful layout.before count number m 0 room) (ok, (marks layout new).0)
      (behind-stops (joined (fields_bytes layout.after r.after)) (first_stops _ (name-stops layout.longest name long (member m (name_bit layout)) (marks layout new).1.0)))))

-- ---- files of any layout

-- what stops after the kind, one that there is and that the call takes, makes the file refused
file-stops : (takes : ℕ → Bool) (layout : Layout) (job : Job (List ℕ)) {place : ℕ} {reason : Reason} → layout_of job.kind ≡ some layout → takes job.kind ≡ true
    → Stops (λ f at. body_at (bytes_in f) layout f at) (write_body layout job) place reason → read_job takes (write job) ≡ refused reason (1 + place)
unfolding read_job read layout_at write
file-stops takes layout job {place} {reason} known taken s =
    and_assoc (kind_at takes (write job) 0) _ _
    ∙ (second-stops (λ kind f a. and_then (layout_or (layout_of kind) a) λ l b. and_then (body_at (bytes_in f) l f b) λ j end. finish j f end) job.kind (kind-lawful takes) taken
    (reread-stops (λ f at. rw known) (first_stops finish s))).stops (write job) 0 (omega arith) [] (ap (λ l. write_by l job) known ∙ sym (append-nil (job.kind ∷ write_body layout job)))
    ∙ ap (λ (n : ℕ). refused reason n) (omega arith)
  where
    finish : Job (List ℕ) → Reader (Job (List ℕ))
    finish j f end = refuse (ltb end (length f)) TrailingBytes end (got j (length f))

-- how many bytes stand after the kind, before the heads and before record i
abbrev before_heads : Layout → Job (List ℕ) → ℕ
before_heads layout job = length (write_each (λ c v. bytes_of c.bytes v) layout.counts job.counts)

abbrev before_record : Layout → Job (List ℕ) → ℕ → ℕ
before_record layout job i = before_heads layout job + (length (write_each bytes_of layout.heads job.heads) + length (write_all (write_record layout) (take i job.records)))

module _ (layout : Layout) (sound : Sound layout) (job : Job (List ℕ)) (ok : Body layout job) where
  -- with another first head
  head-off : (v : ℕ) → 0 < length layout.heads → v < 256 ^ get_or layout.heads 0 0 → 2 ^ get_or job.counts 1 0 ≤ v
      → Stops (λ f at. body_at (bytes_in f) layout f at) (write_body layout (with_order v job)) (before_heads layout job) AbsentMember
  unfolding body_at write_body write_each
  head-off v more room off =
      let count = get_or job.counts 1 0 in
      restop refl (omega arith)
      (second-stops _ job.counts (all-counts layout sound) ok.counts
      (behind-stops (write_all (write_record layout) job.records)
      (first_stops _
      (each-stops (λ bytes. set_at bytes count) bytes_of (λ bytes u. u < 2 ^ count) 0 v 0 layout.heads job.heads (one-head layout sound job.counts ok.counts) ok.heads more
      (set-stops (get_or layout.heads 0 0) count v room off)))))

  module _ (i : ℕ) (there : i < size job) where
    -- with another record i, whatever it stops for
    record-off : (to : Record (List ℕ) → Record (List ℕ)) {place : ℕ} {reason : Reason}
        → Stops (λ f at. record_at (bytes_in f) layout (get_or job.counts 1 0) i f at) (write_record layout (to (here job i))) place reason
        → Stops (λ f at. body_at (bytes_in f) layout f at) (write_body layout (with_record i to job)) (before_record layout job i + place) reason
    unfolding body_at write_body
    record-off to {place} s =
        let cs = job.counts in
        restop refl (omega arith)
        (second-stops _ cs (all-counts layout sound) ok.counts
        (second-stops _ job.heads (all-heads layout sound cs ok.counts) ok.heads
        (first_stops _
        (reread-stops (λ f at.
        ap (λ (n : ℕ). each_at item (up_from n 0) f at) ok.size ∙ each_same item (record_at (bytes_in f) layout (get_or cs 1 0)) f (λ j a. refl) (up_from (get_or cs 0 0) 0) at)
        (all-stops item (write_record layout) (ValidRecord layout (get_or cs 1 0)) no_record to i 0 i job.records
        (λ j l. one-record layout sound cs ok.counts j (omega (arith, count-bound layout cs ok.counts 0))) ok.records (omega arith) (omega (arith, ok.size)) s)))))
      where
        item : ℕ → Reader (Record (List ℕ))
        item j f at = record_at (bytes_in f) layout (get_or job.counts 1 0) j f at

    -- record i, as it is, and room for what its fields hold
    pub valid-here : ValidRecord layout (get_or job.counts 1 0) i (here job i)
    valid-here = all-at (ValidRecord layout (get_or job.counts 1 0)) no_record 0 i i (omega arith) job.records ok.records (omega (arith, ok.size))

    roomy-here : All (Roomy (get_or job.counts 1 0) i) layout.before
    roomy-here = roomy layout sound job.counts ok.counts i (omega (arith, count-bound layout job.counts ok.counts 0)) layout.before sound.before

    -- with another field j of record i
    field_off : (j v : ℕ) → Stray (get_or job.counts 1 0) i (get_or layout.before j (amount 0)) v
        → Stops (λ f at. body_at (bytes_in f) layout f at) (write_body layout (with_record i (with_field j v) job)) (before_record layout job i + (1 + length (joined (take j (parts_before layout (here job i)))))) AbsentMember
    field_off j v off = record-off (with_field j v) (stops-at-field layout sound.few (get_or job.counts 1 0) i roomy-here (here job i) valid-here.before j v off)

    -- with another name of record i
    long-off : (name : List ℕ) → layout.longest < length name
        → Stops (λ f at. body_at (bytes_in f) layout f at) (write_body layout (with_record i (with_name name) job)) (before_record layout job i + (1 + length (joined (parts_before layout (here job i))))) LongName
    long-off name long = record-off (with_name name) (stops-at-name layout sound.few (get_or job.counts 1 0) i roomy-here (here job i) valid-here.before name long)

-- ---- choices

pub set-length : (v : ℕ) → length (field_bytes 8 v) ≡ set_length v
unfolding field_bytes
set-length v = go (eqb v 0)
  where
    go : (b : Bool) → length (cond b [] (bytes_of 8 v)) ≡ 8 * num (not b)
    go true = refl
    go false = length-bytes 8 v

pub counts-length : (cs : List ℕ) → Each (λ c v. v ≤ c.limit) choice.counts cs → length (write_each (λ c v. bytes_of c.bytes v) choice.counts cs) ≡ 2
unfolding choice write_each bytes_of
counts-length cs o = ap (λ (l : List ℕ). length (write_each (λ c v. bytes_of c.bytes v) choice.counts l)) (choice-counts cs o)

pub heads-length : (w : ℕ) (hs : List ℕ) → Each (λ bytes v. v < 2 ^ w) choice.heads hs → length (write_each bytes_of choice.heads hs) ≡ 8
unfolding choice write_each bytes_of
heads-length w hs o = ap (λ (l : List ℕ). length (write_each bytes_of choice.heads l)) (choice-head w hs o)

module _ (job : Job (List ℕ)) (ok : Body choice job) where
  -- a choice that stops is refused at the place, counted from its front
  refused-at : (new : Job (List ℕ)) {place : ℕ} {reason : Reason} {p : ℕ} → new.kind ≡ job.kind → 1 + place ≡ p → Stops (λ f at. body_at (bytes_in f) choice f at) (write_body choice new) place reason
      → read_job choices (write new) ≡ refused reason p
  unfolding choice
  refused-at new {reason = reason} same e s =
      file-stops choices choice new (ap layout_of same ∙ choice-known ok) (ap choices (same ∙ ok.kind)) s ∙ ap (λ (n : ℕ). refused reason n) e

  record-place : (i : ℕ) → 1 + before_record choice job i ≡ record_place job i
  record-place i = omega (arith, counts-length job.counts ok.counts, heads-length (wish_count job) job.heads ok.heads)

  -- the sets of article i in its record, by their columns
  set-takes : (k i : ℕ) → length (field_bytes 8 (get_or (here job i).before k 0)) ≡ set_length (get_or (column k job.records) i 0)
  set-takes k i = set-length (get_or (here job i).before k 0) ∙ ap set_length (sym (field-here job k i))

  wishes-take : (i : ℕ) → length (joined (take 1 (parts_before choice (here job i)))) ≡ set_length (get_or (wishes job) i 0)
  unfolding choice fields_bytes joined
  wishes-take i = ap length (append-nil (field_bytes 8 (get_or (here job i).before 0 0))) ∙ set-takes 0 i

  sets-take : (i : ℕ) → length (joined (parts_before choice (here job i))) ≡ set_length (get_or (wishes job) i 0) + set_length (get_or (clashes job) i 0)
  unfolding choice fields_bytes joined
  sets-take i =
      rw (append-nil, get_or-drop 1 (here job i).before 0 0)
      (length-append (field_bytes 8 (get_or (here job i).before 0 0)) (field_bytes 8 (get_or (here job i).before 1 0)) ∙ ap₂ (λ (a b : ℕ). a + b) (set-takes 0 i) (set-takes 1 i))

  -- a wish that the file lacks, in the order or among an article's wishes: 6 at the set's first byte
  pub order-off : (v : ℕ) → v < 2 ^ 64 → 2 ^ wish_count job ≤ v → read_job choices (new_file (new_order v) job) ≡ refused AbsentMember order_place
  unfolding choice
  order-off v room off =
      refused-at (with_order v job) refl (omega (arith, counts-length job.counts ok.counts)) (head-off choice choice-sound job ok v (omega arith) room off)

  pub wishes-off : (i v : ℕ) → i < size job → v < 2 ^ 64 → 2 ^ wish_count job ≤ v → read_job choices (new_file (new_wishes i v) job) ≡ refused AbsentMember (wishes_place job i)
  unfolding choice joined
  wishes-off i v there room off =
      refused-at (with_record i (with_field 0 v) job) refl (omega (arith, record-place i)) (field_off choice choice-sound job ok i there 0 v (room, off))

  -- a clash that is not with a lower article: 6, likewise
  pub clashes-off : (i v : ℕ) → i < size job → v < 2 ^ 64 → 2 ^ i ≤ v → read_job choices (new_file (new_clashes i v) job) ≡ refused AbsentMember (clashes_place job i)
  unfolding choice
  clashes-off i v there room off =
      refused-at (with_record i (with_field 1 v) job) refl (omega (arith, record-place i, wishes-take i)) (field_off choice choice-sound job ok i there 1 v (room, off))

  -- a name of more than 32 bytes, however many: 7 at its length
  pub name-off : (i : ℕ) (name : List ℕ) → i < size job → 32 < length name → read_job choices (new_file (new_name i name) job) ≡ refused LongName (name_place job i)
  unfolding choice
  name-off i name there long =
      refused-at (with_record i (with_name name) job) refl (omega (arith, record-place i, sets-take i)) (long-off choice choice-sound job ok i there name long)
