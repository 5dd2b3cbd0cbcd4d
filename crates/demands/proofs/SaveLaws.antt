-- What saving answers, by the faults of the change and by what the new file states. Assumes nothing.
use mathlib.Core.Path.{◌≡◌, refl, sym, ap, ap₂, ◌∙◌, subst}
use mathlib.Core.Logic.{◌⊎◌, inl, inr, ⊎_elim}
use mathlib.Core.Bool.{Bool, true, false, true≢false, false≢true}
use mathlib.Core.List.{List, [], ◌∷◌}
use mathlib.Core.Option.{Option, none, some, none-ne-some, some-injective}
use Prim.Native.Nat.{ℕ, ◌^◌, ◌≤◌, ◌<◌}
use native.Mathlib.Decide.{ℕ_discrete}
use native.Mathlib.Omega.{arith}
use lib.Dec.{leb, ltb}
use lib.ListN.{length, get_or}
use lib.Seq.{ext_get_or}
use borrow.Author.Tests.{leb-true, leb-false, le-leb, ltb-true, ltb-false}
use Rattle.sets.specs.Sets.{◌∈◌}
use Rattle.reading.specs.declared.Reason.{Reason}
use Rattle.reading.specs.declared.Reason.TheVariants.{AbsentMember, LongName, OutOfRange}
use Rattle.reading.specs.Reasons.{number_of, answers}
use Rattle.reading.specs.Got.{Got, got, refused}
use Rattle.jobfile.specs.Layout.{choice}
use Rattle.jobfile.specs.Job.{Record, no_record, Job, size, wish_count}
use Rattle.jobfile.specs.Read.{read_job, choices}
use Rattle.jobfile.specs.Valid.{Valid}
use Rattle.jobfile.proofs.FileLaws.{Body}
use Rattle.jobfile.proofs.StatedLaws.{choice-head}
use Rattle.jobfile.proofs.Theorems.{read_back}
use Rattle.filter.specs.Filter.{outside}
use Rattle.arguments.specs.Answers.{Answer, refusal, value, on_job, unless, unless_at, passed, after_tests, refused_by, said, accepted}
use Rattle.arguments.specs.Tests.{room_test}
use Rattle.changes.specs.Change.{Change, new_order, new_wishes, new_clashes, new_name, alter, with_field, with_name, with_record, changed, is_absent, new_file}
use Rattle.changes.specs.Places.{order_place, wishes_place, clashes_place, name_place}
use Rattle.changes.proofs.AlterLaws.{alter-length, alter-here, alter-other}
use Rattle.changes.proofs.ChangeLaws.{here, name-here, order_same, wishes-same, clashes-same, name-same, order-back, wishes-back, clashes-back, name_back}
use Rattle.changes.proofs.FitLaws.{order-fits, wishes-fit, clashes-fit, name-fits}
use Rattle.changes.proofs.LengthLaws.{sets-here}
use Rattle.changes.proofs.FaultLaws.{order-off, wishes-off, clashes-off, name-off}
use Rattle.drafts.specs.Draft.{drafted, draft_in, room_for}
use Rattle.demands.specs.Demands.{Exactly, Refuses, Fault, Off, short_buffer}
use Rattle.demands.specs.Saving.{Given, no_such_article, wrong_saving, Absent, AfterOldFile, SameHead, OnlyArticle, OnlyChange, as_it_was}
use Rattle.demands.proofs.ReasonLaws.{file-no-answer}
use Rattle.demands.proofs.DemandLaws.{exactly-then, same_number, same_place, file-exactly, Tests, Checks, tests-end, checks-at, checks-passed, checks-unless, one-pass, room-checks, outside-exactly, below-exactly}

-- ---- the new file, read

-- whether a change does not fit, for which reason and at which place
abbrev misfits : Change → Job (List ℕ) → Bool
misfits (new_order v) job = leb (2 ^ wish_count job) v
misfits (new_wishes i v) job = leb (2 ^ wish_count job) v
misfits (new_clashes i v) job = leb (2 ^ i) v
misfits (new_name i name) job = ltb 32 (length name)

abbrev fault : Change → Reason
fault (new_order v) = AbsentMember
fault (new_wishes i v) = AbsentMember
fault (new_clashes i v) = AbsentMember
fault (new_name i name) = LongName

abbrev fault_place : Change → Job (List ℕ) → ℕ
fault_place (new_order v) job = order_place
fault_place (new_wishes i v) job = wishes_place job i
fault_place (new_clashes i v) job = clashes_place job i
fault_place (new_name i name) job = name_place job i

module _ (job : Job (List ℕ)) (ok : Body choice job) where
  -- a change that does not fit is refused for it, at its place
  new-off : (change : Change) → Given change → is_absent change job ≡ false → misfits change job ≡ true → read_job choices (new_file change job) ≡ refused (fault change) (fault_place change job)
  new-off (new_order v) given present e = order-off job ok v given (leb-true (2 ^ wish_count job) v e)
  new-off (new_wishes i v) given present e = wishes-off job ok i v (leb-false (size job) i present) given (leb-true (2 ^ wish_count job) v e)
  new-off (new_clashes i v) given present e = clashes-off job ok i v (leb-false (size job) i present) given (leb-true (2 ^ i) v e)
  new-off (new_name i name) given present e = name-off job ok i name (leb-false (size job) i present) (ltb-true 32 (length name) e)

  fits : (change : Change) → Given change → misfits change job ≡ false → Valid (changed change job)
  fits (new_order v) given e = order-fits job ok v (leb-false (2 ^ wish_count job) v e)
  fits (new_wishes i v) given e = wishes-fit job ok i v (leb-false (2 ^ wish_count job) v e)
  fits (new_clashes i v) given e = clashes-fit job ok i v (leb-false (2 ^ i) v e)
  fits (new_name i name) given e = name-fits job ok i name (ltb-false 32 (length name) e) given

  kind-kept : (change : Change) → choices (changed change job).kind ≡ true
  unfolding choice
  kind-kept (new_order v) = ap choices ok.kind
  kind-kept (new_wishes i v) = ap choices ok.kind
  kind-kept (new_clashes i v) = ap choices ok.kind
  kind-kept (new_name i name) = ap choices ok.kind

  -- one that fits makes a file that states the job with that change
  new-read : (change : Change) → Given change → misfits change job ≡ false → read_job choices (new_file change job) ≡ got (changed change job) (length (new_file change job))
  new-read change given e = read_back choices (changed change job) (fits change given e) (kind-kept change)

-- ---- the tests in their order

-- a place, if there is a fault
abbrev placed : Bool → ℕ → Option ℕ
placed true place = some place
placed false place = none

placed-exactly : {P : Type 0} (b : Bool) (place : ℕ) → Exactly (b ≡ true) P → (u : ℕ) → Exactly (placed b place ≡ some u) ((u ≡ place) × P)
placed-exactly true place h u = (λ e. (sym (some-injective place u e), h.0 refl), λ w. ap some (sym w.0))
placed-exactly false place h u = (λ e. absurd (none-ne-some u e), λ w. absurd (false≢true (h.1 w.1)))

module _ (buffer new : List ℕ) where
  abbrev room : Answer (Unit {0})
  room = room_test (length buffer) (length new)

  -- reading the new file, and then the room for it
  new-tested : (b : Bool) (reason : Reason) (place : ℕ) → (b ≡ true → read_job choices new ≡ refused reason place) → (b ≡ false → (job : Job (List ℕ)) × (end : ℕ) × (read_job choices new ≡ got job end))
      → after_tests (unless_at (placed b place) reason room) (value new) ≡ room_for buffer (drafted new)
  new-tested true reason place off on = ap (λ (g : Got (Job (List ℕ))). room_for buffer (on_job g (λ job. value new))) (sym (off refl))
  new-tested false reason place off on = let (job, end, e) = on refl in ap (λ (g : Got (Job (List ℕ))). room_for buffer (on_job g (λ job. value new))) (sym e)

  new-checks : (b : Bool) (reason : Reason) (place : ℕ) {P : Type 0} → answers (number_of reason) ≡ false → Exactly (b ≡ true) P
      → Checks (unless_at (placed b place) reason room) (record { At = λ p. (p ≡ place) × P; number = number_of reason } ∷ short_buffer buffer (length new) ∷ [])
  new-checks b reason place {P} stops h = checks-at (placed b place) (λ p. (p ≡ place) × P) reason stops (placed-exactly b place h) (room-checks buffer (length new))

pub stray-exactly : (bound v : ℕ) → Exactly (leb (2 ^ bound) v ≡ true) ((m : ℕ) × (bound ≤ m) × (m ∈ v))
unfolding outside
stray-exactly bound v = outside-exactly bound v

-- another way to say what is answered
answer-is : {A : Type 0} {a b : Answer A} {faults : List Fault} → a ≡ b → Tests a faults → Tests b faults
answer-is {faults = faults} e t = subst (λ x. Tests x faults) e t

module _ (job : Job (List ℕ)) (ok : Body choice job) (buffer : List ℕ) where
  -- a change of article i: 9, then reading the new file, then the room for it
  article-tested : (change : Change) → Given change → (i : ℕ) → is_absent change job ≡ leb (size job) i
      → after_tests (unless (leb (size job) i) OutOfRange passed) (after_tests (unless_at (placed (misfits change job) (fault_place change job)) (fault change) (room buffer (new_file change job))) (value (new_file change job))) ≡ room_for buffer (draft_in change job)
  article-tested change given i is =
      go (leb (size job) i) is ∙ ap (λ (b : Bool). room_for buffer (unless b OutOfRange (drafted (new_file change job)))) (sym is)
    where
      go : (b : Bool) → is_absent change job ≡ b
          → after_tests (unless b OutOfRange passed) (after_tests (unless_at (placed (misfits change job) (fault_place change job)) (fault change) (room buffer (new_file change job))) (value (new_file change job))) ≡ room_for buffer (unless b OutOfRange (drafted (new_file change job)))
      go true e = refl
      go false e =
          new-tested buffer (new_file change job) (misfits change job) (fault change) (fault_place change job) (new-off job ok change given e) (λ q. (changed change job, length (new_file change job), new-read job ok change given q))

  article-tests : (change : Change) → Given change → (i : ℕ) {P : Type 0} → is_absent change job ≡ leb (size job) i → answers (number_of (fault change)) ≡ false → Exactly (misfits change job ≡ true) P
      → Tests (room_for buffer (draft_in change job)) (no_such_article (size job) i ∷ record { At = λ p. (p ≡ fault_place change job) × P; number = number_of (fault change) } ∷ short_buffer buffer (length (new_file change job)) ∷ [])
  article-tests change given i is stops h =
      let new = new_file change job in
      answer-is (article-tested change given i is)
      ((checks-unless (leb (size job) i) (size job ≤ i) OutOfRange refl (leb-true (size job) i, le-leb (size job) i) checks-passed).tests
      ((new-checks buffer new (misfits change job) (fault change) (fault_place change job) stops h).tests (tests-end (value new) refl)))

  -- a change is turned down exactly for the first of its faults
  pub change-tests : (change : Change) → Given change → Tests (room_for buffer (draft_in change job)) (wrong_saving change buffer job)
  change-tests (new_order v) given =
      let new = new_file (new_order v) job in
      answer-is (new-tested buffer new (misfits (new_order v) job) AbsentMember order_place (new-off job ok (new_order v) given refl) (λ q. (changed (new_order v) job, length new, new-read job ok (new_order v) given q)))
      ((new-checks buffer new (misfits (new_order v) job) AbsentMember order_place refl (stray-exactly (wish_count job) v)).tests (tests-end (value new) refl))
  change-tests (new_wishes i v) given = article-tests (new_wishes i v) given i refl refl (stray-exactly (wish_count job) v)
  change-tests (new_clashes i v) given = article-tests (new_clashes i v) given i refl refl (stray-exactly i v)
  change-tests (new_name i name) given = article-tests (new_name i name) given i refl refl (below-exactly 32 (length name))

-- ---- saving on a file

-- the room is tested on the job of a file, as all else is
pub room-on : (buffer : List ℕ) (g : Got (Job (List ℕ))) (call : Job (List ℕ) → Answer (List ℕ)) → room_for buffer (on_job g call) ≡ on_job g (λ job. room_for buffer (call job))
room-on buffer (refused reason place) call = refl
room-on buffer (got job end) call = refl

-- if saving is accepted, the new file is what is written
pub saved-value : (buffer : List ℕ) (b : Bool) (new : List ℕ) → accepted (said (room_for buffer (unless b OutOfRange (drafted new)))) ≡ true → room_for buffer (unless b OutOfRange (drafted new)) ≡ value new
saved-value buffer true new t = absurd (false≢true t)
saved-value buffer false new t = go (read_job choices new) refl t
  where
    go : (g : Got (Job (List ℕ))) → read_job choices new ≡ g → accepted (said (room_for buffer (on_job g (λ job. value new)))) ≡ true → room_for buffer (on_job (read_job choices new) (λ job. value new)) ≡ value new
    go (refused reason place) e t = absurd (false≢true (sym (file-no-answer choices new e) ∙ t))
    go (got job end) e t = ap (λ (g : Got (Job (List ℕ))). room_for buffer (on_job g (λ job. value new))) e ∙ one-pass (room-checks buffer (length new)) (value new) t

-- and it states the job with that change, of an article that is there
module _ (job : Job (List ℕ)) (ok : Body choice job) (buffer : List ℕ) (change : Change) (given : Given change) (t : accepted (said (room_for buffer (draft_in change job))) ≡ true) where
  pub saved-there : is_absent change job ≡ false
  saved-there = go (is_absent change job) refl t
    where
      go : (b : Bool) → is_absent change job ≡ b → accepted (said (room_for buffer (unless b OutOfRange (drafted (new_file change job))))) ≡ true → is_absent change job ≡ false
      go true e t = absurd (false≢true t)
      go false e t = e

  -- so it fits
  saved-fits : misfits change job ≡ false
  saved-fits = go (misfits change job) refl
    where
      go : (b : Bool) → misfits change job ≡ b → misfits change job ≡ false
      go false e = e
      go true e =
          let off = new-off job ok change given saved-there e in
          let made : drafted (new_file change job) ≡ refusal (fault change) (fault_place change job) = ap (λ (g : Got (Job (List ℕ))). on_job g (λ j. value (new_file change job))) off in
          let answer : room_for buffer (draft_in change job) ≡ refusal (fault change) (fault_place change job) = ap (λ (b : Bool). room_for buffer (unless b OutOfRange (drafted (new_file change job)))) saved-there ∙ ap (room_for buffer) made in
          absurd (false≢true (sym (file-no-answer choices (new_file change job) off) ∙ sym (ap (λ a. accepted (said a)) answer) ∙ t))

  pub saved-valid : Valid (changed change job)
  saved-valid = fits job ok change given saved-fits

  pub saved_read : read_job choices (new_file change job) ≡ got (changed change job) (length (new_file change job))
  saved_read = new-read job ok change given saved-fits

-- ---- refusals by the new file

absent-exactly : (change : Change) (job : Job (List ℕ)) → Exactly (is_absent change job ≡ true) (Absent change job)
absent-exactly (new_order v) job = (λ e. absurd (false≢true e), λ w. absurd w)
absent-exactly (new_wishes i v) job = (leb-true (size job) i, le-leb (size job) i)
absent-exactly (new_clashes i v) job = (leb-true (size job) i, le-leb (size job) i)
absent-exactly (new_name i name) job = (leb-true (size job) i, le-leb (size job) i)

pub not-absent : (change : Change) (job : Job (List ℕ)) → (Absent change job → ⊥) → is_absent change job ≡ false
not-absent change job present = go (is_absent change job) refl
  where
    go : (b : Bool) → is_absent change job ≡ b → is_absent change job ≡ false
    go true e = absurd (present ((absent-exactly change job).0 e))
    go false e = e

module _ (change : Change) (buffer : List ℕ) (job : Job (List ℕ)) (number place : ℕ) where
  abbrev new : List ℕ
  new = new_file change job

  -- the room for the new file
  room-exactly : Exactly (Refuses (said (room_for buffer (value new))) number place) ((length buffer < length new) × (number ≡ 10) × (place ≡ 0))
  room-exactly =
      let tested = ((room-checks buffer (length new)).tests (tests-end (value new) refl)).exactly number place in
      (λ w. ⊎_elim (λ (n, at). (at.1, n, at.0)) (λ z. absurd z.1) (tested.0 w), λ (short, n, p). tested.1 (inl (n, (p, short))))

  -- reading the new file, and then the room for it
  read-exactly : Exactly (Refuses (said (room_for buffer (drafted new))) number place)
      (Off choices new number place ⊎ ((j : Job (List ℕ)) × (end : ℕ) × (read_job choices new ≡ got j end) × (length buffer < length new) × (number ≡ 10) × (place ≡ 0)))
  read-exactly =
      exactly-then (same (sym (room-on buffer (read_job choices new) (λ j. value new))))
      (exactly-then (file-exactly choices new (λ j. room_for buffer (value new)) number place (λ j. (length buffer < length new) × (number ≡ 10) × (place ≡ 0)) (λ j end e. room-exactly)) flat)
    where
      same : {a b : Answer (List ℕ)} → a ≡ b → Exactly (Refuses (said b) number place) (Refuses (said a) number place)
      same e = (λ w. (ap said e ∙ w.0, w.1), λ w. (sym (ap said e) ∙ w.0, w.1))

      flat : Exactly (Off choices new number place ⊎ ((j : Job (List ℕ)) × (end : ℕ) × (read_job choices new ≡ got j end) × ((length buffer < length new) × (number ≡ 10) × (place ≡ 0))))
          (Off choices new number place ⊎ ((j : Job (List ℕ)) × (end : ℕ) × (read_job choices new ≡ got j end) × (length buffer < length new) × (number ≡ 10) × (place ≡ 0)))
      flat = (⊎_elim inl (λ (j, end, e, w). inr (j, end, e, w.0, w.1, w.2)), ⊎_elim inl (λ (j, end, e, short, n, p). inr (j, end, e, (short, n, p))))

  pub new-exactly : Exactly (Refuses (said (room_for buffer (draft_in change job))) number place) (AfterOldFile change buffer job number place)
  new-exactly = go (is_absent change job) refl
    where
      present : is_absent change job ≡ false → Absent change job → ⊥
      present e w = true≢false (sym ((absent-exactly change job).1 w) ∙ e)

      go : (b : Bool) → is_absent change job ≡ b → Exactly (Refuses (said (room_for buffer (unless b OutOfRange (drafted new)))) number place) (AfterOldFile change buffer job number place)
      go true e = (
        λ w. inl ((absent-exactly change job).0 e, sym (same_number w.0), sym (same_place w.0)),
        ⊎_elim (λ (w, n, p). (ap₂ refused_by (sym n) (sym p), ap answers n)) (λ w. absurd (w.0 ((absent-exactly change job).0 e))),
      )
      go false e =
          let (to, back) = read-exactly in
          (λ w. inr (present e, to w), ⊎_elim (λ w. absurd (present e w.0)) (λ w. back w.1))

-- ---- all else stays

module _ (job : Job (List ℕ)) (ok : Body choice job) where
  module _ (i : ℕ) (h : i < size job) where
    -- another article i, and the others as they were
    only-article : (to : Record (List ℕ) → Record (List ℕ)) {sets name : List ℕ} → (to (here job i)).before ≡ sets → (to (here job i)).name ≡ name → (to (here job i)).after ≡ (here job i).after
        → OnlyArticle i sets name job (with_record i to job)
    only-article to s n a = (
      alter-here i to job.records no_record (omega (arith, ok.size)) ∙ (λ k. record { before = s k; name = n k; after = a k }),
      alter-length i to job.records,
      λ j d. alter-other i j to job.records no_record d,
    )

  pub only-change : (change : Change) → is_absent change job ≡ false → OnlyChange change job (changed change job)
  unfolding alter
  only-change (new_order v) present = (ap (alter 0 (λ old. v)) (choice-head (wish_count job) job.heads ok.heads), refl, refl, refl)
  only-change (new_wishes i v) present =
      let h = leb-false (size job) i present in
      (only-article i h (with_field 0 v) (ap (alter 0 (λ old. v)) (sets-here job ok i h)) (sym (name-here job i)) refl, (refl, refl, refl))
  only-change (new_clashes i v) present =
      let h = leb-false (size job) i present in
      (only-article i h (with_field 1 v) (ap (alter 1 (λ old. v)) (sets-here job ok i h)) (sym (name-here job i)) refl, (refl, refl, refl))
  only-change (new_name i name) present =
      let h = leb-false (size job) i present in
      (only-article i h (with_name name) (sets-here job ok i h) refl refl, (refl, refl, refl))

one-article : (i : ℕ) (sets name : List ℕ) (old new other : Job (List ℕ)) → OnlyArticle i sets name old new × SameHead old new → OnlyArticle i sets name old other × SameHead old other → new ≡ other
one-article i sets name old new other ((here, size, others), (k, c, h)) ((here', size', others'), (k', c', h')) =
    λ t. record { kind = (k ∙ sym k') t; counts = (c ∙ sym c') t; heads = (h ∙ sym h') t; records = records t }
  where
    records : new.records ≡ other.records
    records = ext_get_or no_record new.records other.records (size ∙ sym size') (λ j l. at j (ℕ_discrete j i))
      where
        at : (j : ℕ) → Dec (j ≡ i) → get_or new.records j no_record ≡ get_or other.records j no_record
        at j (yes e) = ap (λ (n : ℕ). get_or new.records n no_record) e ∙ here ∙ sym here' ∙ sym (ap (λ (n : ℕ). get_or other.records n no_record) e)
        at j (no d) = others j d ∙ sym (others' j d)

-- so the change says which job it is
pub only_one : (change : Change) (old new other : Job (List ℕ)) → OnlyChange change old new → OnlyChange change old other → new ≡ other
only_one (new_order v) old new other (h, k, c, r) (h', k', c', r') = λ i. record { kind = (k ∙ sym k') i; counts = (c ∙ sym c') i; heads = (h ∙ sym h') i; records = (r ∙ sym r') i }
only_one (new_wishes i v) old new other p q = one-article i _ _ old new other p q
only_one (new_clashes i v) old new other p q = one-article i _ _ old new other p q
only_one (new_name i name) old new other p q = one-article i _ _ old new other p q

-- ---- saving what was there

pub as_it_was_lem : (change : Change) (job : Job (List ℕ)) → changed (as_it_was change job) (changed change job) ≡ job
as_it_was_lem (new_order v) job = order-back job v
as_it_was_lem (new_wishes i v) job = wishes-back job i v
as_it_was_lem (new_clashes i v) job = clashes-back job i v
as_it_was_lem (new_name i name) job = name_back job i name

pub as-it-is : (change : Change) (job : Job (List ℕ)) → changed (as_it_was change job) job ≡ job
as-it-is (new_order v) job = order_same job
as-it-is (new_wishes i v) job = wishes-same job i
as-it-is (new_clashes i v) job = clashes-same job i
as-it-is (new_name i name) job = name-same job i

pub there-still : (change : Change) (job : Job (List ℕ)) → is_absent (as_it_was change job) job ≡ is_absent change job
there-still (new_order v) job = refl
there-still (new_wishes i v) job = refl
there-still (new_clashes i v) job = refl
there-still (new_name i name) job = refl

pub there-again : (change : Change) (job : Job (List ℕ)) → is_absent (as_it_was change job) (changed change job) ≡ is_absent change job
there-again (new_order v) job = refl
there-again (new_wishes i v) job = refl
there-again (new_clashes i v) job = refl
there-again (new_name i name) job = refl
