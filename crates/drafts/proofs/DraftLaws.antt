-- What a draft says, by what reading and testing told. Assumes nothing.
use mathlib.Core.Path.{◌≡◌, refl, sym, ap, ap₂, subst, ◌∙◌}
use mathlib.Core.Bool.{Bool, true, false}
use mathlib.Core.List.{List, [], ◌++◌}
use Prim.Native.Nat.{ℕ, ◌-◌, ◌≤◌, ◌<◌}
use native.Mathlib.Decide.{dec_le}
use native.Mathlib.Omega.{arith}
use lib.Dec.{leb}
use lib.ListN.{length, take, drop}
use lib.Seq.{take_all, length-take-le}
use borrow.Author.Tests.{leb-false}
use Rattle.reading.specs.declared.Reason.{Reason}
use Rattle.reading.specs.declared.Reason.TheVariants.{LongName, OutOfRange}
use Rattle.reading.specs.declared.Refusal.{Refusal}
use Rattle.reading.specs.declared.Spot.{Spot}
use Rattle.reading.specs.Got.{Got, got, refused}
use Rattle.reading.specs.Items.{spots}
use Rattle.std.specs.Prelude.{Result, Ok, Err}
use Rattle.jobfile.specs.declared.ReadChoice.{ReadChoice}
use Rattle.jobfile.specs.Layout.{choice}
use Rattle.jobfile.specs.Job.{Job, size}
use Rattle.jobfile.specs.Read.{read, choices}
use Rattle.jobfile.specs.Write.{write}
use Rattle.jobfile.specs.Meaning.{as_choice, choice_read, ChoiceBounds}
use Rattle.jobfile.proofs.FileLaws.{Body}
use Rattle.jobfile.proofs.NamingLaws.{map_got, job_by, read_same}
use Rattle.arguments.specs.Answers.{Answer, refusal, value, on_job, unless, passed, after_tests, answered, refusal_said, Left, leaving}
use Rattle.arguments.specs.Tests.{article_test, room_test}
use Rattle.arguments.specs.Meaning.{verdict_of}
use Rattle.arguments.proofs.FileLaws.{file-down, job-down, on-job}
use Rattle.arguments.proofs.TestLaws.{test-refused, through, article-passed}
use Rattle.changes.specs.Change.{Change, new_order, new_wishes, new_clashes, new_name, changed, is_absent, new_file}
use Rattle.changes.specs.Places.{name_place}
use Rattle.changes.proofs.FaultLaws.{name-off}
use Rattle.writing.specs.Put.{Put}
use Rattle.writing.specs.Meaning.{choice_in, Writable}
use Rattle.writing.proofs.PutLaws.{put_front, put_whole}
use Rattle.drafts.specs.declared.draft.Draft.{Draft}
use Rattle.drafts.specs.Draft.{drafted, draft_in, draft_of, stored}
use Rattle.drafts.specs.Meaning.{draft_by, ordering, wishing, clashing}
use Rattle.drafts.proofs.ReadLaws.{ReadAs}
use Rattle.drafts.proofs.ColumnLaws.{order-written, wishes-written, clashes-written, name-written}

-- the old file is refused
pub draft-down : (f : List ℕ) (change : Change) {v : Result ReadChoice Refusal} {x : Refusal} → v ≡ choice_read (read spots choices f) → v ≡ Err x → refusal x.reason x.place ≡ draft_of f change
draft-down f change p q = job-down (draft_in change) (file-down as_choice f choices p q)

-- one test, and what comes after it
after_test : {A : Type 0} (fault : Bool) (reason : Reason) (a : Answer A) → after_tests (unless fault reason passed) a ≡ unless fault reason a
after_test true reason a = refl
after_test false reason a = refl

module _ (f : List ℕ) (r : ReadChoice) (R : ReadAs f r) (change : Change) where
  -- the article is absent
  pub draft-absent : (i : ℕ) → is_absent change R.job ≡ leb (size R.job) i → {v : Result (Unit {0}) Refusal} {x : Refusal} → v ≡ verdict_of (article_test i r.articles) → v ≡ Err x
      → refusal x.reason x.place ≡ draft_of f change
  draft-absent i is p q =
      let rest = drafted (write (changed change R.job)) in
      test-refused (article_test i r.articles) rest p q ∙ after_test (leb r.articles i) OutOfRange rest
      ∙ ap (λ (b : Bool). unless b OutOfRange rest) (ap (λ (n : ℕ). leb n i) R.counted ∙ sym is) ∙ on-job (draft_in change) R.is

  -- the new file is made
  draft-made : {new : Job (List ℕ)} → is_absent change R.job ≡ false → changed change R.job ≡ new → drafted (write new) ≡ draft_of f change
  draft-made {new} is e =
      ap (λ (j : Job (List ℕ)). drafted (write j)) (sym e) ∙ ap (λ (b : Bool). unless b OutOfRange (drafted (write (changed change R.job)))) (sym is) ∙ on-job (draft_in change) R.is

-- an article that the test lets through is there
there : (f : List ℕ) (r : ReadChoice) (R : ReadAs f r) (i : ℕ) {v : Result (Unit {0}) Refusal} → v ≡ verdict_of (article_test i r.articles) → v ≡ Ok tt → (i < r.articles) × (leb (size R.job) i ≡ false)
there f r R i p q =
    let t = article-passed i r.articles p q in
    (leb-false r.articles i t, ap (λ (n : ℕ). leb n i) (sym R.counted) ∙ t)

-- ---- the page

-- what reading a file says of it as a draft
abbrev pub by_reading : Result ReadChoice Refusal → List ℕ → Answer (List ℕ)
by_reading (Err x) f = refusal x.reason x.place
by_reading (Ok r) f = value f

reading-drafted : (f : List ℕ) (v : Result ReadChoice Refusal) → v ≡ choice_read (read spots choices f) → by_reading v f ≡ drafted f
reading-drafted f v e = ap (λ (x : Result ReadChoice Refusal). by_reading x f) e ∙ go (read spots choices f) ∙ ap (λ (g : Got (Job (List ℕ))). on_job g (λ job. value f)) (sym (read_same f choices))
  where
    go : (g : Got (Job Spot)) → by_reading (choice_read g) f ≡ on_job (map_got (job_by f) g) (λ job. value f)
    go (refused reason place) = refl
    go (got job end) = refl

-- a file that was put on a page and read there
pub page-drafted : {old new page : List ℕ} {len : ℕ} {v : Result ReadChoice Refusal} → Put old 0 new page len → len ≤ length old → v ≡ choice_read (read spots choices (take (len - 0) page)) → by_reading v (take len page) ≡ drafted new
page-drafted {page = page} {len = len} {v = v} p room e =
    let all : len - 0 ≡ len = omega arith in
    reading-drafted (take len page) v (e ∙ ap (λ (n : ℕ). choice_read (read spots choices (take n page))) all) ∙ ap drafted (put_front p room)

-- a name that is cut after 33 bytes makes a file that is the same, or is refused for the same reason at the same place
cut-same : (job : Job (List ℕ)) → Body choice job → (i : ℕ) (new : List ℕ) → i < size job → drafted (new_file (new_name i (take 33 new)) job) ≡ drafted (new_file (new_name i new) job)
cut-same job stated i new l = go (dec_le (length new) 33)
  where
    refused-both : (name : List ℕ) → 32 < length name → drafted (new_file (new_name i name) job) ≡ refusal LongName (name_place job i)
    refused-both name long = ap (λ (g : Got (Job (List ℕ))). on_job g (λ j. value (new_file (new_name i name) job))) (name-off job stated i name l long)

    go : Dec (length new ≤ 33) → drafted (new_file (new_name i (take 33 new)) job) ≡ drafted (new_file (new_name i new) job)
    go (yes short) = ap (λ (s : List ℕ). drafted (new_file (new_name i s) job)) (take_all 33 new short)
    go (no long) = refused-both (take 33 new) (omega (arith, length-take-le 33 new (omega arith))) ∙ sym (refused-both new (omega arith))

-- ---- each change, written from what the old file was read as

module _ (f : List ℕ) (r : ReadChoice) (R : ReadAs f r) where
  pub writable : (name : List ℕ) → ChoiceBounds f r → length name ≤ 33 → Writable f r name
  writable name (articles, wanted, within, few, priced) short = (articles, short, within, R.short)

  pub order-drafted : (v number : ℕ) (name : List ℕ) {o : ReadChoice} → r.articles ≤ number → o ≡ ordering r v → drafted (write (choice_in f o number name)) ≡ draft_of f (new_order v)
  order-drafted v number name above e =
      ap (λ (x : ReadChoice). drafted (write (choice_in f x number name))) e
      ∙ draft-made f r R (new_order v) refl (ap (changed (new_order v)) (R.written number name above) ∙ order-written f r v number name)

  module _ (i : ℕ) {v : Result (Unit {0}) Refusal} (few : r.articles ≤ 64) (p : v ≡ verdict_of (article_test i r.articles)) (q : v ≡ Ok tt) where
    pub wishes-drafted : (set number : ℕ) (name : List ℕ) {o : ReadChoice} → r.articles ≤ number → o ≡ wishing r i set
        → drafted (write (choice_in f o number name)) ≡ draft_of f (new_wishes i set)
    wishes-drafted set number name above e =
        let (l, is) = there f r R i p q in
        ap (λ (x : ReadChoice). drafted (write (choice_in f x number name))) e
        ∙ draft-made f r R (new_wishes i set) is (ap (changed (new_wishes i set)) (R.written number name above) ∙ wishes-written f r i set number name l (omega (arith, R.wishes-length, few)))

    pub clashes-drafted : (set number : ℕ) (name : List ℕ) {o : ReadChoice} → r.articles ≤ number → o ≡ clashing r i set
        → drafted (write (choice_in f o number name)) ≡ draft_of f (new_clashes i set)
    clashes-drafted set number name above e =
        let (l, is) = there f r R i p q in
        ap (λ (x : ReadChoice). drafted (write (choice_in f x number name))) e
        ∙ draft-made f r R (new_clashes i set) is (ap (changed (new_clashes i set)) (R.written number name above) ∙ clashes-written f r i set number name l (omega (arith, R.clashes-length, few)))

    -- a name of which no more than 33 bytes are looked at: a longer one is refused in the same way
    pub name-drafted : (new part : List ℕ) → part ≡ take 33 new → drafted (write (choice_in f r i part)) ≡ draft_of f (new_name i new)
    name-drafted new part e =
        let (l, is) = there f r R i p q in
        let whole = R.written r.articles [] (omega arith) in
        ap (λ (s : List ℕ). drafted (write (choice_in f r i s))) e
        ∙ ap (λ (j : Job (List ℕ)). drafted (write j)) (sym (ap (changed (new_name i (take 33 new))) whole ∙ name-written f r i (take 33 new) r.articles [] l (omega arith)))
        ∙ cut-same R.job R.stated i new (subst (λ (n : ℕ). i < n) R.counted l)
        ∙ draft-made f r R (new_name i new) is refl

-- ---- writing a draft out

-- the file of a page, put to the front of a buffer
pub page-stored : {old new : List ℕ} {end : ℕ} (page : List ℕ) (len : ℕ) → Put old 0 (take (len - 0) page) new end → len ≤ length page → len ≤ length old → new ≡ take len page ++ drop (length (take len page)) old
page-stored {old} page len p fits room =
    let all : len - 0 ≡ len = omega arith in
    put_whole p (omega (arith, length-take-le (len - 0) page (omega arith))) ∙ ap (λ (n : ℕ). take n page ++ drop (length (take n page)) old) all

module _ (old : List ℕ) {d : Result Draft Refusal} where
  pub store-down : {x : Refusal} → d ≡ Err x → record { answer = refusal_said x; buffer = old } ≡ stored old (draft_by d)
  store-down e = ap (λ (w : Result Draft Refusal). stored old (draft_by w)) (sym e)

  module _ {m : Draft} (accepted : d ≡ Ok m) {t : Result (Unit {0}) Refusal} (size : m.len ≡ length (take m.len m.page)) (test : t ≡ verdict_of (room_test (length old) m.len)) where
    abbrev file : List ℕ
    file = take m.len m.page

    abbrev room : Answer (Unit {0})
    room = room_test (length old) (length file)

    tested : t ≡ verdict_of room
    tested = test ∙ ap (λ (n : ℕ). verdict_of (room_test (length old) n)) size

    -- what is written out if the draft is accepted
    abbrev out : Answer (List ℕ) → Left ℕ
    out a = leaving (λ new. new) (λ new. length new) old a

    is : out (after_tests room (value file)) ≡ stored old (draft_by d)
    is = ap (λ (w : Result Draft Refusal). stored old (draft_by w)) (sym accepted)

    pub store-short : {x : Refusal} → t ≡ Err x → record { answer = refusal_said x; buffer = old } ≡ stored old (draft_by d)
    store-short e = ap out (test-refused room (value file) tested e) ∙ is

    pub store-made : {new : List ℕ} → t ≡ Ok tt → new ≡ file ++ drop (length file) old → record { answer = answered m.len; buffer = new } ≡ stored old (draft_by d)
    store-made e made = ap₂ (λ (n : ℕ) (l : List ℕ). record { answer = answered n; buffer = l }) size made ∙ ap out (through room (value file) tested e) ∙ is
