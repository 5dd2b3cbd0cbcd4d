-- What was asked of saving, over file bytes, changes, answers and buffers of the calls that save. What is refused, by number and place, and that a refusal
-- writes nothing, are among the demands (`demand-1-save`, `demand-1-save-kept`). Assumes nothing.
use mathlib.Core.Path.{◌≡◌, sym, ap, ap₂, ◌∙◌, subst}
use mathlib.Core.Logic.{◌⊎◌}
use mathlib.Core.Bool.{Bool, true, false}
use mathlib.Core.List.{List, ◌++◌}
use Prim.Native.Nat.{ℕ, ◌+◌, ◌≤◌}
use native.Mathlib.Omega.{arith}
use lib.ListN.{length, take, drop}
use lib.Seq.{take_at, drop-append_seam}
use borrow.Author.Tests.{le-ltb}
use Rattle.reading.specs.declared.Reason.TheVariants.{OutOfRange, ShortBuffer}
use Rattle.reading.specs.Got.{Got, got}
use Rattle.jobfile.specs.Job.{Job}
use Rattle.jobfile.specs.Read.{read_job, choices}
use Rattle.jobfile.specs.Write.{write}
use Rattle.jobfile.specs.Valid.{Bytes}
use Rattle.jobfile.proofs.Lawful.{same-value}
use Rattle.jobfile.proofs.StatedLaws.{choice-stated}
use Rattle.jobfile.proofs.Theorems.{exact}
use Rattle.arguments.specs.Answers.{value, on_job, unless, passed, after_tests, answered, said, accepted, leaving}
use Rattle.changes.specs.Change.{Change, changed, is_absent, new_file}
use Rattle.changes.specs.Places.{part_before, part_after}
use Rattle.changes.proofs.LengthLaws.{changed-length}
use Rattle.drafts.specs.Draft.{drafted, draft_in, draft_of, room_for, stored}
use Rattle.calls.specs.Save.{save_of}
use Rattle.demands.specs.Demands.{Exactly, Refuses, Off}
use Rattle.demands.specs.Saving.{Given, Absent, AfterOldFile, OnlyChange, as_it_was}
use Rattle.demands.proofs.DemandLaws.{exactly-then, one_value, left-exactly, left-taken, file-exactly}
use Rattle.demands.proofs.SaveLaws.{room-on, saved-there, saved-valid, saved_read, not-absent, new-exactly, only-change, only_one, as_it_was_lem, as-it-is, there-again, there-still}
use Rattle.demands.proofs.Demands.{demand-2-save}

-- what was saved: the job, its new file at the front of the buffer, and the later bytes
abbrev Wrote : List ℕ → Change → List ℕ → ℕ → Job (List ℕ) → Type 0
Wrote file change buffer n job = (n ≡ length (new_file change job)) × (take n (save_of file change buffer).buffer ≡ new_file change job) × (drop n (save_of file change buffer).buffer ≡ drop n buffer)

taken : (file : List ℕ) (change : Change) (buffer : List ℕ) {n : ℕ} → (save_of file change buffer).answer ≡ answered n → accepted (save_of file change buffer).answer ≡ true
taken file change buffer e = ap accepted e

wrote : (file : List ℕ) (change : Change) (buffer : List ℕ) {n : ℕ} → (save_of file change buffer).answer ≡ answered n → {job : Job (List ℕ)} {end : ℕ} → read_job choices file ≡ got job end → Wrote file change buffer n job
wrote file change buffer {n} e {job} {end} is =
    let (j, k, i, a, b) = demand-2-save file change buffer (taken file change buffer e) in
    let same : j ≡ job = same-value (sym i ∙ is) in
    let size : n ≡ length (new_file change job) = one_value (sym e ∙ a) ∙ ap (λ (x : Job (List ℕ)). length (new_file change x)) same in
    let left : (save_of file change buffer).buffer ≡ new_file change job ++ drop (length (new_file change job)) buffer = b ∙ ap (λ (x : Job (List ℕ)). new_file change x ++ drop (length (new_file change x)) buffer) same in (
      size,
      ap (take n) left ∙ take_at (new_file change job) (drop (length (new_file change job)) buffer) n (sym size),
      ap (λ (k : ℕ). drop k (save_of file change buffer).buffer) size ∙ ap (drop (length (new_file change job))) left ∙ drop-append_seam (new_file change job) (drop (length (new_file change job)) buffer) ∙ ap (λ (k : ℕ). drop k buffer) (sym size),
    )

-- the call on the job of the file is accepted
accepted-on : (file : List ℕ) (change : Change) (buffer : List ℕ) {n : ℕ} → (save_of file change buffer).answer ≡ answered n → {job : Job (List ℕ)} {end : ℕ} → read_job choices file ≡ got job end → accepted (said (room_for buffer (draft_in change job))) ≡ true
accepted-on file change buffer e is =
    sym (ap (λ (g : Got (Job (List ℕ))). accepted (said (room_for buffer (on_job g (draft_in change))))) is)
    ∙ sym (left-taken (λ new. new) (λ new. length new) buffer (room_for buffer (draft_of file change))) ∙ taken file change buffer e

-- the new file is the writing of the job that is read from it
saved-writing : (file : List ℕ) (change : Change) (buffer : List ℕ) → Bytes file → Given change → {n : ℕ} → (save_of file change buffer).answer ≡ answered n → {job : Job (List ℕ)} {k : ℕ}
    → read_job choices (take n (save_of file change buffer).buffer) ≡ got job k → take n (save_of file change buffer).buffer ≡ write job
saved-writing file change buffer bytes given e {job} it =
    let (old, end, is, a, b) = demand-2-save file change buffer (taken file change buffer e) in
    let front = (wrote file change buffer e is).1 in
    let same : changed change old ≡ job = same-value (sym (saved_read old (choice-stated file bytes is) buffer change given (accepted-on file change buffer e is)) ∙ sym (ap (read_job choices) front) ∙ it) in
    front ∙ ap write same

-- a change that leads to the job of a file leaves the bytes of that file
stored-old : (file buffer : List ℕ) → Bytes file → {job : Job (List ℕ)} {end : ℕ} → read_job choices file ≡ got job end → length file ≤ length buffer → (change : Change) (other : Job (List ℕ)) → is_absent change other ≡ false → changed change other ≡ job
    → stored buffer (draft_in change other) ≡ record { answer = answered (length file); buffer = file ++ drop (length file) buffer }
stored-old file buffer bytes is room change other present e =
    let old : new_file change other ≡ file = ap write e ∙ sym (exact choices file bytes is) in
    ap₂ (λ (b : Bool) (f : List ℕ). stored buffer (unless b OutOfRange (drafted f))) present old
    ∙ ap (λ (g : Got (Job (List ℕ))). stored buffer (on_job g (λ j. value file))) is
    ∙ ap (λ (b : Bool). leaving (λ new. new) (λ new. length new) buffer (after_tests (unless b ShortBuffer passed) (value file))) (le-ltb (length buffer) (length file) room)

-- the old file states a job. What is read from the new file, whose length is answered, is that job but for the change; later bytes stay as they were
pub save-reads : (file : List ℕ) (change : Change) (buffer : List ℕ) → Bytes file → Given change → {n : ℕ} → (save_of file change buffer).answer ≡ answered n
    → (job new : Job (List ℕ)) × (end : ℕ) × (read_job choices file ≡ got job end) × (read_job choices (take n (save_of file change buffer).buffer) ≡ got new n) × OnlyChange change job new × (drop n (save_of file change buffer).buffer ≡ drop n buffer)
save-reads file change buffer bytes given {n} e =
    let (job, end, is, a, b) = demand-2-save file change buffer (taken file change buffer e) in
    let ok = choice-stated file bytes is in
    let t = accepted-on file change buffer e is in
    let (size, front, rest) = wrote file change buffer e is in
    (job, changed change job, end, is, ap (read_job choices) front ∙ saved_read job ok buffer change given t ∙ ap (λ (k : ℕ). got (changed change job) k) (sym size), only-change job ok change (saved-there job ok buffer change given t), rest)

-- and there is one such job only
pub save-only : (change : Change) (old new other : Job (List ℕ)) → OnlyChange change old new → OnlyChange change old other → new ≡ other
save-only change old new other p q = only_one change old new other p q

-- the new file is as long as the old one, but for the part that is changed: an empty value takes no byte in a record, and an order always takes 8
pub save-length : (file : List ℕ) (change : Change) (buffer : List ℕ) → Bytes file → Given change → {n : ℕ} → (save_of file change buffer).answer ≡ answered n → {job : Job (List ℕ)} {end : ℕ} → read_job choices file ≡ got job end
    → n + part_before change job ≡ length file + part_after change
save-length file change buffer bytes given e {job} is =
    let ok = choice-stated file bytes is in
    let t = accepted-on file change buffer e is in
    let length-is = changed-length job ok change (saved-there job ok buffer change given t) (saved-valid job ok buffer change given t) in
    omega (arith, (wrote file change buffer e is).0, ap length (exact choices file bytes is))

-- a refusal is that of the old file; or it is 9; or it is exactly that of reading the new file; or it is 10
pub save-refusals : (file : List ℕ) (change : Change) (buffer : List ℕ) (number place : ℕ)
    → Exactly (Refuses (save_of file change buffer).answer number place) (Off choices file number place ⊎ ((job : Job (List ℕ)) × (end : ℕ) × (read_job choices file ≡ got job end) × AfterOldFile change buffer job number place))
save-refusals file change buffer number place =
    exactly-then (left-exactly (λ new. new) (λ new. length new) buffer (room_for buffer (draft_of file change)) number place)
    (subst (λ a. Exactly (Refuses (said a) number place) (Off choices file number place ⊎ ((job : Job (List ℕ)) × (end : ℕ) × (read_job choices file ≡ got job end) × AfterOldFile change buffer job number place))) (sym (room-on buffer (read_job choices file) (draft_in change)))
    (file-exactly choices file (λ job. room_for buffer (draft_in change job)) number place (λ job. AfterOldFile change buffer job number place) (λ job end e. new-exactly change buffer job number place)))

-- one job has one writing: an accepted file that states what the new file states is the new file, whoever wrote it
pub save-one-writing : (file : List ℕ) (change : Change) (buffer : List ℕ) → Bytes file → Given change → {n : ℕ} → (save_of file change buffer).answer ≡ answered n
    → (other : List ℕ) → Bytes other → {job : Job (List ℕ)} {k l : ℕ} → read_job choices (take n (save_of file change buffer).buffer) ≡ got job k → read_job choices other ≡ got job l → take n (save_of file change buffer).buffer ≡ other
save-one-writing file change buffer bytes given e other bytes' p q = saved-writing file change buffer bytes given e p ∙ sym (exact choices other bytes' q)

-- so whichever two changes lead to one job, the bytes are the same
pub save-two-ways : (f g : List ℕ) (c d : Change) (a b : List ℕ) → Bytes f → Bytes g → Given c → Given d → {m n : ℕ} → (save_of f c a).answer ≡ answered m → (save_of g d b).answer ≡ answered n → {job : Job (List ℕ)} {k l : ℕ}
    → read_job choices (take m (save_of f c a).buffer) ≡ got job k → read_job choices (take n (save_of g d b).buffer) ≡ got job l → take m (save_of f c a).buffer ≡ take n (save_of g d b).buffer
save-two-ways f g c d a b bf bg gc gd p q is it = saved-writing f c a bf gc p is ∙ sym (saved-writing g d b bg gd q it)

-- to save what is there gives the bytes of the old file, in any buffer that they fit into
pub save-same : (file : List ℕ) (change : Change) (buffer : List ℕ) → Bytes file → {job : Job (List ℕ)} {end : ℕ} → read_job choices file ≡ got job end → (Absent change job → ⊥)
    → length file ≤ length buffer → save_of file (as_it_was change job) buffer ≡ record { answer = answered (length file); buffer = file ++ drop (length file) buffer }
save-same file change buffer bytes {job} is present room =
    ap (λ (g : Got (Job (List ℕ))). stored buffer (on_job g (draft_in (as_it_was change job)))) is
    ∙ stored-old file buffer bytes is room (as_it_was change job) job (there-still change job ∙ not-absent change job present) (as-it-is change job)

-- and so does saving what was there before, after a change
pub save-back : (file : List ℕ) (change : Change) (buffer again : List ℕ) → Bytes file → Given change → {n : ℕ} → (save_of file change buffer).answer ≡ answered n → {job : Job (List ℕ)} {end : ℕ} → read_job choices file ≡ got job end
    → length file ≤ length again → save_of (take n (save_of file change buffer).buffer) (as_it_was change job) again ≡ record { answer = answered (length file); buffer = file ++ drop (length file) again }
save-back file change buffer again bytes given {n} e {job} {end} is room =
    let ok = choice-stated file bytes is in
    let t = accepted-on file change buffer e is in
    ap (λ (g : Got (Job (List ℕ))). stored again (on_job g (draft_in (as_it_was change job)))) (ap (read_job choices) (wrote file change buffer e is).1 ∙ saved_read job ok buffer change given t)
    ∙ stored-old file again bytes is room (as_it_was change job) (changed change job) (there-again change job ∙ saved-there job ok buffer change given t) (as_it_was_lem change job)
