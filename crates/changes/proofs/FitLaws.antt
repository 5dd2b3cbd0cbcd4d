-- A change that fits leaves a valid job. Assumes nothing.
use mathlib.Core.Path.{◌≡◌, sym, subst, ◌∙◌}
use mathlib.Core.List.{List, [], ◌∷◌}
use Prim.Native.Nat.{ℕ, zero, suc, ◌+◌, ◌^◌, ◌≤◌, ◌<◌}
use native.Mathlib.Omega.{arith}
use lib.ListN.{length, get_or}
use Rattle.jobfile.specs.Layout.{Layout, amount, choice}
use Rattle.jobfile.specs.Job.{Record, Job, wish_count}
use Rattle.jobfile.specs.Valid.{Each, AllFrom, Bytes, Fits, ValidRecord, Valid}
use Rattle.jobfile.proofs.FileLaws.{Body}
use Rattle.jobfile.proofs.StatedLaws.{choice-known}
use Rattle.changes.specs.Change.{new_order, new_wishes, new_clashes, new_name, alter, with_field, with_name, with_record, changed}
use Rattle.changes.proofs.AlterLaws.{alter-length}

-- ---- lists

-- another value of place k
each-alter : {A B : Type 0} (P : A → B → Type 0) (none : A) (k : ℕ) (v : B) (xs : List A) (ys : List B)
    → P (get_or xs k none) v → Each P xs ys → Each P xs (alter k (λ old. v) ys)
unfolding alter
each-alter P none k v [] [] h o = tt
each-alter P none k v [] (y ∷ ys) h o = absurd o
each-alter P none k v (x ∷ xs) [] h o = absurd o
each-alter P none zero v (x ∷ xs) (y ∷ ys) h o = (h, o.1)
each-alter P none (suc k) v (x ∷ xs) (y ∷ ys) h o = (o.0, each-alter P none k v xs ys h o.1)

-- another element i, which has number n in all
all-alter : {A : Type 0} (P : ℕ → A → Type 0) (k i n : ℕ) → n ≡ k + i → (to : A → A) → ((x : A) → P n x → P n (to x)) → (l : List A) → AllFrom P k l → AllFrom P k (alter i to l)
unfolding alter
all-alter P k i n e to h [] o = tt
all-alter P k zero n e to h (x ∷ l) o =
    let same : n ≡ k = omega arith in
    (subst (λ (j : ℕ). P j (to x)) same (h x (subst (λ (j : ℕ). P j x) (sym same) o.0)), o.1)
all-alter P k (suc i) n e to h (x ∷ l) o = (o.0, all-alter P (suc k) i n (omega arith) to h l o.1)

-- ---- records of any layout

-- another field k, of those before the name
field_fits : (layout : Layout) (count number k v : ℕ) → Fits count number (get_or layout.before k (amount 0)) v
    → (r : Record (List ℕ)) → ValidRecord layout count number r → ValidRecord layout count number (with_field k v r)
field_fits layout count number k v h r o =
    record { before = each-alter (Fits count number) (amount 0) k v layout.before r.before h o.before; short = o.short; letters = o.letters; after = o.after }

-- ---- choices

module _ (job : Job (List ℕ)) (ok : Body choice job) where
  -- members below the count of wishes, or below the article's own number; a name of at most 32 bytes
  pub order-fits : (v : ℕ) → v < 2 ^ wish_count job → Valid (changed (new_order v) job)
  order-fits v h =
      record {
        layout = choice;
        known = choice-known ok;
        counts = ok.counts;
        heads = each-alter (λ bytes u. u < 2 ^ wish_count job) 0 0 v choice.heads job.heads h ok.heads;
        size = ok.size;
        records = ok.records;
      }

  -- another record i that is valid if the old one is
  pub record-fits : (i : ℕ) (to : Record (List ℕ) → Record (List ℕ)) → ((r : Record (List ℕ)) → ValidRecord choice (wish_count job) i r → ValidRecord choice (wish_count job) i (to r)) → Valid (with_record i to job)
  record-fits i to h =
      record {
        layout = choice;
        known = choice-known ok;
        counts = ok.counts;
        heads = ok.heads;
        size = alter-length i to job.records ∙ ok.size;
        records = all-alter (ValidRecord choice (wish_count job)) 0 i i (omega arith) to h job.records ok.records;
      }

  pub wishes-fit : (i v : ℕ) → v < 2 ^ wish_count job → Valid (changed (new_wishes i v) job)
  unfolding choice
  wishes-fit i v h = record-fits i (with_field 0 v) (field_fits choice (wish_count job) i 0 v h)

  pub clashes-fit : (i v : ℕ) → v < 2 ^ i → Valid (changed (new_clashes i v) job)
  unfolding choice
  clashes-fit i v h = record-fits i (with_field 1 v) (field_fits choice (wish_count job) i 1 v h)

  pub name-fits : (i : ℕ) (name : List ℕ) → length name ≤ 32 → Bytes name → Valid (changed (new_name i name) job)
  unfolding choice
  name-fits i name short letters = record-fits i (with_name name) (λ r o. record { before = o.before; short = short; letters = letters; after = o.after })
