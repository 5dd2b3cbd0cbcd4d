-- Names and comparison: from what files were read as to what the rules answer. Assumes nothing.
use mathlib.Core.Path.{◌≡◌, refl, ap, ap₂, sym, ◌∙◌, subst}
use mathlib.Core.Bool.{Bool, true, false, ◌&&◌}
use mathlib.Core.List.{List, [], map}
use mathlib.Core.Option.{Option}
use Prim.Native.Nat.{ℕ, ◌≤◌}
use native.Mathlib.Omega.{arith}
use lib.Dec.{eqb}
use lib.ListN.{length, get_or, take, drop}
use borrow.Author.Tests.{eqb-true}
use Rattle.sets.specs.Ranges.{num}
use Rattle.sets.specs.Lists.{same_list}
use Rattle.reading.specs.declared.Reason.TheVariants.{NameNotFound}
use Rattle.reading.specs.declared.Refusal.{Refusal}
use Rattle.reading.specs.declared.Spot.{Spot}
use Rattle.reading.specs.Got.{Got, got}
use Rattle.reading.specs.Items.{spots}
use Rattle.std.specs.Prelude.{Result, Ok, Err}
use Rattle.jobfile.specs.declared.ReadChoice.{ReadChoice}
use Rattle.jobfile.specs.declared.ReadNames.{ReadNames}
use Rattle.jobfile.specs.Job.{Job, column, size, wishes, clashes}
use Rattle.jobfile.specs.Valid.{Bytes}
use Rattle.jobfile.specs.Meaning.{as_choice, as_names, choice_read, names_read, spot_by, spot_in, Few, ChoiceBounds, NamesBounds}
use Rattle.jobfile.specs.Read.{read, read_job, choices, either}
use Rattle.jobfile.proofs.NamingLaws.{map_got, bytes_at, record_by, job_by, column-by, names_same, read_same}
use Rattle.jobfile.proofs.ReadLaws.{names-spot}
use Rattle.jobfile.proofs.ShortLaws.{lens-short}
use Rattle.jobfile.proofs.StatedLaws.{column-length}
use Rattle.names.specs.Names.{lowest_named}
use Rattle.names.specs.Likeness.{alike}
use Rattle.names.proofs.SameLaws.{padded-same, search-cong}
use Rattle.arguments.specs.Answers.{Answer, value, on_job, found_or, Said, answered, said, refusal_said}
use Rattle.calls.specs.Find.{find_in, find_of}
use Rattle.calls.specs.Compare.{compare_of}
use Rattle.arguments.proofs.FileLaws.{Taken, as-taken, file-down, choice-down-as, job-down, fault_in, place_in, taken_in}
use Rattle.calls.proofs.ToldLaws.{values, tested, test-said}

-- ---- naming

-- the spot of record n, if that is the one asked for
pub spot-asked : (g : Got (Job Spot)) {s : Spot} {n asked : ℕ} → s ≡ spot_in g n → n ≡ asked → s ≡ spot_in g asked
spot-asked g e same = e ∙ ap (spot_in g) same

-- ---- finding

module _ (f name : List ℕ) where
  pub find-down : {v : Result ReadNames Refusal} {x : Refusal} → v ≡ names_read (read spots either f) → v ≡ Err x → refusal_said x ≡ said (find_of f name)
  find-down p q = ap said (job-down (λ job. find_in job name) (file-down as_names f either p q))

  -- the names that were read are short
  pub find-short : Bytes f → {r : ReadNames} → Ok r ≡ names_read (read spots either f) → NamesBounds f r → (i : ℕ) → get_or r.lens i 0 ≤ 32
  find-short bytes {r} e (few, within, counted) i = lens-short either f bytes {v = Ok r} e counted within i

  -- the search was over n names, which are those of the job by their spots in the file
  pub find-made : {s : Said ℕ} {o : Option ℕ} {n : ℕ} (r : ReadNames) → Ok r ≡ names_read (read spots either f) → NamesBounds f r
      → s ≡ said (found_or o NameNotFound) → o ≡ lowest_named name n (λ i. take (get_or r.lens i 0) (drop (get_or r.starts i 0) f)) → n ≡ r.count → s ≡ said (find_of f name)
  find-made r e bounds told p all =
      let g = read spots either f in
      let t = as-taken as_names g (sym e) in
      told
      ∙ ap said (ap (λ (o : Option ℕ). found_or o NameNotFound) (
      p
      ∙ ap (λ (k : ℕ). lowest_named name k (λ i. take (get_or r.lens i 0) (drop (get_or r.starts i 0) f))) (all ∙ ap (λ x. x.count) t.told)
      ∙ search-cong name (size t.job) _ (λ i. get_or (map (λ r. r.name) (map (record_by f) t.job.records)) i [])
      (λ i. ap (bytes_at f) (ap (λ v. spot_by v i) e ∙ names-spot g bounds.2 i ∙ ap (λ x. spot_in x i) t.is) ∙ sym (names_same f t.job.records i))
      )
      ∙ sym (ap (λ g. on_job g (λ job. find_in job name)) (read_same f either ∙ ap (map_got (job_by f)) t.is)))

-- ---- comparing

alike-by : (f f' : List ℕ) (a b : Job Spot) → alike (job_by f a) (job_by f' b) ≡ alike a b
alike-by f f' a b = rw (column-by f 0 a.records, column-by f 1 a.records, column-by f' 0 b.records, column-by f' 1 b.records)

-- the test of the code, over arrays
abbrev by_arrays : ReadChoice → ReadChoice → Bool
by_arrays a b = eqb a.articles b.articles && (eqb a.wish_count b.wish_count && (eqb a.order b.order && (same_list a.wishes b.wishes && same_list a.clashes b.clashes)))

alike_is : (a b : Job Spot) (m n : ℕ) → Few 64 (got a m) → Few 64 (got b n) → by_arrays (as_choice a) (as_choice b) ≡ alike a b
alike_is a b m n fa fb = go (eqb (size a) (size b)) refl
  where
    go : (t : Bool) → eqb (size a) (size b) ≡ t → by_arrays (as_choice a) (as_choice b) ≡ alike a b
    go true e =
        let same = eqb-true (size a) (size b) e in
        let lengths : (k : ℕ) → length (column k a.records) ≡ length (column k b.records) = λ k. column-length k a.records ∙ fa.0 ∙ same ∙ sym fb.0 ∙ sym (column-length k b.records) in
        let room : (k : ℕ) → length (column k a.records) ≤ 64 = λ k. omega (arith, column-length k a.records, fa.0, fa.1) in
        rw (padded-same 64 (wishes a) (wishes b) (lengths 0) (room 0), padded-same 64 (clashes a) (clashes b) (lengths 1) (room 1))
    go false e = rw e

module _ (f s : List ℕ) where
  abbrev compared : Got (Job (List ℕ)) → Got (Job (List ℕ)) → Answer Bool
  compared g h = on_job g (λ a. on_job h (λ b. value (alike a b)))

  -- g was read first, and its reading has the numbers of f
  pub compare-first : (g : List ℕ) {v : Result ReadChoice Refusal} {x : Refusal} → v ≡ choice_read (read spots choices g) → v ≡ Err x
      → fault_in (read spots choices g) ≡ fault_in (read spots choices f) → place_in (read spots choices g) ≡ place_in (read spots choices f) → taken_in (read spots choices g) ≡ taken_in (read spots choices f)
      → refusal_said x ≡ said (compare_of f s)
  compare-first g p q fault place t = ap said (job-down (λ a. on_job (read_job choices s) (λ b. value (alike a b))) (choice-down-as f g p q fault place t))

  module _ (a : ReadChoice) (ea : Ok a ≡ choice_read (read spots choices f)) (ba : ChoiceBounds f a) where
    first : Taken as_choice (read spots choices f) a
    first = as-taken as_choice (read spots choices f) (sym ea)

    is-first : read_job choices f ≡ got (job_by f first.job) first.end
    is-first = read_same f choices ∙ ap (map_got (job_by f)) first.is

    pub compare-second : {v : Result ReadChoice Refusal} {x : Refusal} → v ≡ choice_read (read spots choices s) → v ≡ Err x → refusal_said x ≡ said (compare_of f s)
    compare-second p q = ap said (sym (ap₂ compared is-first (file-down as_choice s choices p q)))

    both_read : (b : ReadChoice) {r : Bool} → Ok b ≡ choice_read (read spots choices s) → ChoiceBounds s b → r ≡ by_arrays a b → answered r ≡ said (compare_of f s)
    both_read b eb bb e =
        let second = as-taken as_choice (read spots choices s) (sym eb) in
        ap (λ (x : Bool). answered x) (
        e ∙ ap₂ by_arrays first.told second.told
        ∙ alike_is first.job second.job first.end second.end (subst (Few 64) first.is ba.3) (subst (Few 64) second.is bb.3) ∙ sym (alike-by f s first.job second.job)
        )
        ∙ ap said (sym (ap₂ compared is-first (read_same s choices ∙ ap (map_got (job_by s)) second.is)))

    -- r is what the test of both said, and t what is told of it
    pub compare-both : (b : ReadChoice) {r : Bool} {t : Said Bool} → Ok b ≡ choice_read (read spots choices s) → ChoiceBounds s b → r ≡ by_arrays a b
        → values t ≡ 1 → tested t ≡ num r → t ≡ said (compare_of f s)
    compare-both b {r} {t} eb bb e v told = test-said t r v told ∙ both_read b eb bb e
