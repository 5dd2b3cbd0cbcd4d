-- What a choice file was read as is the choice that the writer writes of it; its names are within the writer's bounds. Assumes nothing.
use mathlib.Core.Path.{◌≡◌, refl, sym, ap, ap₂, ◌∙◌, subst}
use mathlib.Core.List.{List, [], ◌∷◌, map}
use Prim.Native.Nat.{ℕ, zero, suc, ◌≤◌, ◌<◌}
use native.Mathlib.Omega.{arith}
use lib.ListN.{length, get_or, take, drop, length-map}
use lib.Seq.{ext_get_or}
use borrow.Author.Tests.{ne_eqb}
use Rattle.sets.specs.Ranges.{list_to}
use Rattle.sets.proofs.Ranges.{list_length, list_at}
use Rattle.reading.specs.declared.Spot.{Spot}
use Rattle.reading.specs.Got.{got}
use Rattle.reading.specs.Items.{spots}
use Rattle.std.specs.Prelude.{Ok}
use Rattle.jobfile.specs.declared.ReadChoice.{ReadChoice}
use Rattle.jobfile.specs.Layout.{choice}
use Rattle.jobfile.specs.Job.{Record, no_record, Job, column, column_after, prices, size}
use Rattle.jobfile.specs.Read.{read, read_job, choices}
use Rattle.jobfile.specs.Valid.{Bytes, AllFrom, ValidRecord}
use Rattle.jobfile.specs.Meaning.{padded, starts_of, lens_of, as_choice, as_names, choice_read, names_read, Few, ChoiceBounds}
use Rattle.jobfile.proofs.FileLaws.{Body}
use Rattle.jobfile.proofs.NamingLaws.{record_by, map_got, job_by, read_same}
use Rattle.jobfile.proofs.ReadLaws.{padded-at}
use Rattle.jobfile.proofs.ShortLaws.{lens-short}
use Rattle.jobfile.proofs.StatedLaws.{column-length, choice-counts, choice-head, choice-fields, choice-after, choice-stated}
use Rattle.arguments.proofs.FileLaws.{as-taken}
use Rattle.writing.specs.Meaning.{article_by, article_in, choice_in}

-- ---- the records of a file

stated-kind : (job : Job (List ℕ)) → Body choice job → job.kind ≡ 67
unfolding choice
stated-kind job stated = stated.kind

module _ (f : List ℕ) (w : ℕ) where
  -- a record by its place in the columns
  record-at : (k : ℕ) (rs : List (Record Spot)) → AllFrom (ValidRecord choice w) k (map (record_by f) rs) → (i : ℕ) → i < length rs
      → get_or (map (record_by f) rs) i no_record ≡ article_by (get_or (column 0 rs) i 0) (get_or (column 1 rs) i 0) (take (get_or (lens_of rs) i 0) (drop (get_or (starts_of rs) i 0) f)) (get_or (column_after 0 rs) i 0)
  record-at k [] o i l = absurd (omega arith)
  record-at k (r ∷ rs) o zero l =
      ap₂ (λ (before after : List ℕ). record { before = before; name = take r.name.len (drop r.name.start f); after = after }) (choice-fields w k r.before o.0.before) (choice-after w k r.after o.0.after)
  record-at k (r ∷ rs) o (suc i) l = record-at (suc k) rs o.1 i (omega arith)

-- ---- a file that was read

-- what a choice file was read as: its job, which the writer writes of it if no article is to have another name; names that are not too long, and arrays
-- of 64 words
pub record ReadAs (f : List ℕ) (r : ReadChoice) : Type 0 where
  pub job : Job (List ℕ)
  pub end : ℕ
  pub is : read_job choices f ≡ got job end
  pub stated : Body choice job
  pub counted : r.articles ≡ size job
  pub written : (number : ℕ) (name : List ℕ) → r.articles ≤ number → job ≡ choice_in f r number name
  pub short : (i : ℕ) → get_or r.lens i 0 ≤ 32
  pub wishes-length : length r.wishes ≡ 64
  pub clashes-length : length r.clashes ≡ 64

module _ (f : List ℕ) (bytes : Bytes f) where
  as-got : (job : Job Spot) (end : ℕ) → read spots choices f ≡ got job end → ChoiceBounds f (as_choice job) → ReadAs f (as_choice job)
  as-got job end e bounds = record {
    job = job_by f job;
    end = end;
    is = is;
    stated = stated;
    counted = refl;
    written = λ number name above.
        λ k. record {
          kind = kind-is k;
          counts = choice-counts job.counts stated.counts k;
          heads = choice-head (get_or job.counts 1 0) job.heads stated.heads k;
          records = records number name above k;
        };
    short = lens-short choices f bytes {v = Ok (as_names job)} (sym (ap names_read e)) bounds.3 bounds.2;
    wishes-length = list_length 64 (λ i. get_or (column 0 job.records) i 0);
    clashes-length = list_length 64 (λ i. get_or (column 1 job.records) i 0);
  }
    where
      is : read_job choices f ≡ got (job_by f job) end
      is = read_same f choices ∙ ap (map_got (job_by f)) e

      stated : Body choice (job_by f job)
      stated = choice-stated f bytes is

      kind-is : job.kind ≡ 67
      kind-is = stated-kind (job_by f job) stated

      few : (length job.records ≡ size job) × (size job ≤ 64)
      few = subst (Few 64) e bounds.3

      -- the columns are as they were read
      at-column : (k i : ℕ) → get_or (padded 64 (column k job.records)) i 0 ≡ get_or (column k job.records) i 0
      at-column k = padded-at 64 (column k job.records) (omega (arith, column-length k job.records, few.0, few.1))

      at-price : (i : ℕ) → get_or (padded 64 (prices job)) i 0 ≡ get_or (prices job) i 0
      at-price = padded-at 64 (prices job) (omega (arith, length-map job.records (λ r. get_or r.after 0 0), few.0, few.1))

      at-spot : ((i : ℕ) → get_or (padded 64 (starts_of job.records)) i 0 ≡ get_or (starts_of job.records) i 0) × ((i : ℕ) → get_or (padded 64 (lens_of job.records)) i 0 ≡ get_or (lens_of job.records) i 0)
      at-spot = (
        padded-at 64 (starts_of job.records) (omega (arith, length-map job.records (λ r. r.name.start), few.0, few.1)),
        padded-at 64 (lens_of job.records) (omega (arith, length-map job.records (λ r. r.name.len), few.0, few.1)),
      )

      records : (number : ℕ) (name : List ℕ) → size job ≤ number → map (record_by f) job.records ≡ list_to (size job) (article_in f (as_choice job) number name)
      records number name above =
          let all = list_to (size job) (article_in f (as_choice job) number name) in
          ext_get_or no_record (map (record_by f) job.records) all (length-map job.records (record_by f) ∙ few.0 ∙ sym (list_length (size job) (article_in f (as_choice job) number name)))
          (λ i l.
          let h : i < length job.records = subst (λ (n : ℕ). i < n) (length-map job.records (record_by f)) l in
          let m : i < size job = omega (arith, few.0) in
          record-at f (get_or job.counts 1 0) 0 job.records stated.records i h ∙ article number name i (omega (arith, above))
          ∙ sym (list_at (size job) (article_in f (as_choice job) number name) no_record i m))
        where
          article : (number : ℕ) (name : List ℕ) (i : ℕ) → i < number
              → article_by (get_or (column 0 job.records) i 0) (get_or (column 1 job.records) i 0) (take (get_or (lens_of job.records) i 0) (drop (get_or (starts_of job.records) i 0) f)) (get_or (prices job) i 0) ≡ article_in f (as_choice job) number name i
          article number name i above =
              rw (at-column 0 i, at-column 1 i, at-price i, at-spot.0 i, at-spot.1 i, ne_eqb i number (λ q. let z : ⊥ = omega arith in z))

  pub as_read : (r : ReadChoice) → Ok r ≡ choice_read (read spots choices f) → ChoiceBounds f r → ReadAs f r
  as_read r e bounds =
      let t = as-taken as_choice (read spots choices f) (sym e) in
      let q : r ≡ as_choice t.job = t.told in
      subst (ReadAs f) (sym q) (as-got t.job t.end t.is (subst (ChoiceBounds f) q bounds))
