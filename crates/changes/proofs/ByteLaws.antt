-- The writing of a valid job consists of bytes, whatever its layout, if its items have room. Assumes nothing.
use mathlib.Core.Path.{sym, subst}
use mathlib.Core.Bool.{Bool, true, false, cond}
use mathlib.Core.List.{List, [], ◌∷◌, ◌++◌}
use mathlib.Core.Option.{Option}
use Prim.Native.Nat.{ℕ, zero, suc, ◌/◌, ◌%◌, ◌<◌}
use native.Mathlib.Omega.{arith}
use lib.Dec.{eqb}
use lib.ListN.{length, get_or, drop}
use Rattle.jobfile.specs.Layout.{Field, width, Layout, choice}
use Rattle.jobfile.specs.Job.{Record, Job}
use Rattle.jobfile.specs.Write.{bytes_of, field_bytes, name_bytes, fields_bytes, parts_bytes, map_of, joined, write_record, write_each, write_all, write_body, write_by, write}
use Rattle.jobfile.specs.Valid.{AllFrom, Bytes, ValidRecord}
use Rattle.jobfile.proofs.Lawful.{All}
use Rattle.jobfile.proofs.RecordLaws.{parts_before, parts_from, record-parts, below_all}
use Rattle.jobfile.proofs.FileLaws.{Sound, choice-sound, Body}
use Rattle.jobfile.proofs.StatedLaws.{choice-known}

-- ---- lists

bytes-none : Bytes []
bytes-none k = omega arith

bytes-more : (b : ℕ) (l : List ℕ) → b < 256 → Bytes l → Bytes (b ∷ l)
bytes-more b l h o zero = h
bytes-more b l h o (suc k) = o k

bytes-both : (l m : List ℕ) → Bytes l → Bytes m → Bytes (l ++ m)
bytes-both [] m o p = p
bytes-both (b ∷ l) m o p = bytes-more b (l ++ m) (o 0) (bytes-both l m (λ k. o (suc k)) p)

bytes-joined : (xss : List (List ℕ)) → All Bytes xss → Bytes (joined xss)
unfolding joined
bytes-joined [] o = bytes-none
bytes-joined (xs ∷ xss) o = bytes-both xs (joined xss) o.0 (bytes-joined xss o.1)

-- ---- items

number-bytes : (k v : ℕ) → Bytes (bytes_of k v)
unfolding bytes_of
number-bytes zero v = bytes-none
number-bytes (suc k) v = bytes-more (v % 256) (bytes_of k (v / 256)) (omega arith) (number-bytes k (v / 256))

fields-bytes : (fields : List Field) (vs : List ℕ) → All Bytes (fields_bytes fields vs)
unfolding fields_bytes field_bytes
fields-bytes [] vs = tt
fields-bytes (field ∷ fields) vs = (go (eqb (get_or vs 0 0) 0), fields-bytes fields (drop 1 vs))
  where
    go : (b : Bool) → Bytes (cond b [] (bytes_of (width field) (get_or vs 0 0)))
    go true = bytes-none
    go false = number-bytes (width field) (get_or vs 0 0)

name-bytes : (name : List ℕ) → length name < 256 → Bytes name → Bytes (name_bytes name)
unfolding name_bytes
name-bytes [] h o = bytes-none
name-bytes (b ∷ l) h o = bytes-more (length (b ∷ l)) (b ∷ l) h o

each-bytes : {A B : Type 0} (write : A → B → List ℕ) → ((x : A) (y : B) → Bytes (write x y)) → (xs : List A) (ys : List B) → Bytes (write_each write xs ys)
unfolding write_each
each-bytes write o [] ys = bytes-none
each-bytes write o (x ∷ xs) [] = bytes-none
each-bytes write o (x ∷ xs) (y ∷ ys) = bytes-both (write x y) (write_each write xs ys) (o x y) (each-bytes write o xs ys)

-- ---- files

module _ (layout : Layout) (sound : Sound layout) where
  record-bytes : (count number : ℕ) (r : Record (List ℕ)) → ValidRecord layout count number r → Bytes (write_record layout r)
  record-bytes count number r ok =
      subst Bytes (sym (record-parts layout r))
      (bytes-more (map_of (parts_bytes layout r)) (joined (parts_before layout r) ++ joined (parts_from layout r)) (omega (arith, below_all layout r, sound.few))
      (bytes-both (joined (parts_before layout r)) (joined (parts_from layout r)) (bytes-joined (parts_before layout r) (fields-bytes layout.before r.before))
      (bytes-joined (parts_from layout r) (name-bytes r.name (omega (arith, ok.short, sound.longest)) ok.letters, fields-bytes layout.after r.after))))

  records-bytes : (count i : ℕ) (rs : List (Record (List ℕ))) → AllFrom (ValidRecord layout count) i rs → Bytes (write_all (write_record layout) rs)
  unfolding write_all
  records-bytes count i [] ok = bytes-none
  records-bytes count i (r ∷ rs) ok = bytes-both (write_record layout r) (write_all (write_record layout) rs) (record-bytes count i r ok.0) (records-bytes count (suc i) rs ok.1)

  body_bytes : (job : Job (List ℕ)) → Body layout job → Bytes (write_body layout job)
  unfolding write_body
  body_bytes job ok =
      let counts = write_each (λ c v. bytes_of c.bytes v) layout.counts job.counts in
      let heads = write_each bytes_of layout.heads job.heads in
      let records = write_all (write_record layout) job.records in
      bytes-both counts (heads ++ records) (each-bytes (λ c v. bytes_of c.bytes v) (λ c v. number-bytes c.bytes v) layout.counts job.counts)
      (bytes-both heads records (each-bytes bytes_of number-bytes layout.heads job.heads) (records-bytes (get_or job.counts 1 0) 0 job.records ok.records))

pub choice-bytes : (job : Job (List ℕ)) → Body choice job → Bytes (write job)
unfolding write choice
choice-bytes job ok =
    subst (λ (l : Option Layout). Bytes (write_by l job)) (sym (choice-known ok)) (bytes-more job.kind (write_body choice job) (omega (arith, ok.kind)) (body_bytes choice choice-sound job ok))
