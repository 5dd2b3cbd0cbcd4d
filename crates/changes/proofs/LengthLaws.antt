-- How long a file is after a change: as long as before, but for the part that is changed. Assumes nothing.
use mathlib.Core.Path.{◌≡◌, refl, sym, ap, ap₂, ◌∙◌}
use mathlib.Core.Logic.{◌≢◌}
use mathlib.Core.Bool.{false}
use mathlib.Core.List.{List, [], ◌∷◌, ◌++◌, append-nil}
use Prim.Native.Nat.{ℕ, zero, suc, ◌+◌, ◌<◌}
use native.Mathlib.Omega.{arith}
use lib.ListN.{length, get_or, drop, length-append}
use lib.Seq.{get_or-drop}
use borrow.Author.Tests.{leb-false}
use Rattle.jobfile.specs.Layout.{choice}
use Rattle.jobfile.specs.Job.{Record, no_record, Job, column, size, wish_count, wishes, clashes, prices}
use Rattle.jobfile.specs.Write.{bytes_of, field_bytes, name_bytes, fields_bytes, parts_bytes, joined, write_record, write_each, write_all, write_body, write_by, write}
use Rattle.jobfile.specs.Valid.{Valid}
use Rattle.jobfile.proofs.FileLaws.{choice-sound, Body}
use Rattle.jobfile.proofs.StatedLaws.{choice-known, choice-fields, choice-after}
use Rattle.jobfile.proofs.Theorems.{body_of}
use Rattle.changes.specs.Change.{Change, new_order, new_wishes, new_clashes, new_name, alter, with_field, with_name, with_record, changed, is_absent, new_file}
use Rattle.changes.specs.Places.{set_length, part_before, part_after}
use Rattle.changes.proofs.AlterLaws.{alter-here, alter-other}
use Rattle.changes.proofs.ChangeLaws.{here, field-here, amount-here, name-here}
use Rattle.changes.proofs.FaultLaws.{valid-here, set-length, counts-length, heads-length}

-- all records, one of which is another
all-length : {A : Type 0} (write : A → List ℕ) (none : A) (i : ℕ) (to : A → A) (l : List A) → i < length l
    → length (write_all write (alter i to l)) + length (write (get_or l i none)) ≡ length (write_all write l) + length (write (to (get_or l i none)))
unfolding write_all alter
all-length write none i to [] h = absurd (omega arith)
all-length write none zero to (x ∷ l) h = omega (arith, length-append (write (to x)) (write_all write l), length-append (write x) (write_all write l))
all-length write none (suc i) to (x ∷ l) h =
    omega (arith, all-length write none i to l (omega arith), length-append (write x) (write_all write (alter i to l)), length-append (write x) (write_all write l))

-- a record of a choice
record-length : (r : Record (List ℕ))
    → length (write_record choice r) ≡ 1 + (set_length (get_or r.before 0 0) + (set_length (get_or r.before 1 0) + (length (name_bytes r.name) + length (field_bytes 4 (get_or r.after 0 0)))))
unfolding write_record parts_bytes fields_bytes joined choice
record-length r =
    let a = field_bytes 8 (get_or r.before 0 0) in
    let b = field_bytes 8 (get_or (drop 1 r.before) 0 0) in
    let name = name_bytes r.name in
    let price = field_bytes 4 (get_or r.after 0 0) in
    let second : set_length (get_or (drop 1 r.before) 0 0) ≡ set_length (get_or r.before 1 0) = ap set_length (get_or-drop 1 r.before 0 0) in
    omega (
      arith,
      length-append a (b ++ (name ++ (price ++ []))),
      length-append b (name ++ (price ++ [])),
      length-append name (price ++ []),
      ap length (append-nil price),
      set-length (get_or r.before 0 0),
      set-length (get_or (drop 1 r.before) 0 0),
    )

-- a file of a choice
write-length : (job : Job (List ℕ)) → Body choice job → length (write job) ≡ 11 + length (write_all (write_record choice) job.records)
unfolding write write_body
write-length job ok =
    let counts = write_each (λ c v. bytes_of c.bytes v) choice.counts job.counts in
    let heads = write_each bytes_of choice.heads job.heads in
    let all = write_all (write_record choice) job.records in
    ap (λ l. length (write_by l job)) (choice-known ok)
    ∙ omega (
      arith,
      length-append counts (heads ++ all),
      length-append heads all,
      counts-length job.counts ok.counts,
      heads-length (wish_count job) job.heads ok.heads,
    )

module _ (job : Job (List ℕ)) (ok : Body choice job) where
  module _ (i : ℕ) (there : i < size job) where
    -- the sets of article i
    pub sets-here : (here job i).before ≡ get_or (wishes job) i 0 ∷ get_or (clashes job) i 0 ∷ []
    sets-here =
        choice-fields (wish_count job) i (here job i).before (valid-here choice choice-sound job ok i there).before
        ∙ ap₂ (λ (a b : ℕ). a ∷ b ∷ []) (sym (field-here job 0 i)) (sym (field-here job 1 i))

    -- and its price
    pub price-here : (here job i).after ≡ get_or (prices job) i 0 ∷ []
    price-here = choice-after (wish_count job) i (here job i).after (valid-here choice choice-sound job ok i there).after ∙ ap (λ (v : ℕ). v ∷ []) (sym (amount-here job 0 i))

    -- another article i, by the length of its record
    record-changed : (to : Record (List ℕ) → Record (List ℕ)) → Valid (with_record i to job)
        → length (write (with_record i to job)) + length (write_record choice (here job i)) ≡ length (write job) + length (write_record choice (to (here job i)))
    record-changed to valid =
        omega (
          arith,
          write-length job ok,
          write-length (with_record i to job) (body_of (with_record i to job) valid (choice-known ok)),
          all-length (write_record choice) no_record i to job.records (omega (arith, ok.size)),
        )

    -- with another set k of it; the other one of the two is m
    set-changed : (k m v : ℕ) → k < 2 → m ≢ k → ((l : List ℕ) → set_length (get_or l 0 0) + set_length (get_or l 1 0) ≡ set_length (get_or l k 0) + set_length (get_or l m 0)) → Valid (with_record i (with_field k v) job)
        → length (write (with_record i (with_field k v) job)) + set_length (get_or (column k job.records) i 0) ≡ length (write job) + set_length v
    set-changed k m v few other both valid =
        let old = (here job i).before in
        let new = (with_field k v (here job i)).before in
        omega (
          arith,
          record-changed (with_field k v) valid,
          record-length (here job i),
          record-length (with_field k v (here job i)),
          both old,
          both new,
          ap set_length (alter-here k (λ u. v) old 0 (omega (arith, ap length sets-here))),
          ap set_length (alter-other k m (λ u. v) old 0 other),
          ap set_length (field-here job k i),
        )

  -- the file after a change that fits
  pub changed-length : (change : Change) → is_absent change job ≡ false → Valid (changed change job) → length (new_file change job) + part_before change job ≡ length (write job) + part_after change
  changed-length (new_order v) present valid =
      omega (arith, write-length job ok, write-length (changed (new_order v) job) (body_of (changed (new_order v) job) valid (choice-known ok)))
  changed-length (new_wishes i v) present valid = set-changed i (leb-false (size job) i present) 0 1 v (omega arith) (λ e. let z : ⊥ = omega arith in z) (λ l. refl) valid
  changed-length (new_clashes i v) present valid = set-changed i (leb-false (size job) i present) 1 0 v (omega arith) (λ e. let z : ⊥ = omega arith in z) (λ l. omega arith) valid
  changed-length (new_name i name) present valid =
      omega (
        arith,
        record-changed i (leb-false (size job) i present) (with_name name) valid,
        record-length (here job i),
        record-length (with_name name (here job i)),
        ap (λ (s : List ℕ). length (name_bytes s)) (name-here job i),
      )
