-- A fair's orders on a file: from what the reader, the test and the choice told to what the rules answer. Assumes nothing.
use mathlib.Core.Path.{◌≡◌, sym, ap, ap₂, ◌∙◌}
use mathlib.Core.Bool.{Bool, true, false}
use mathlib.Core.List.{List, [], ◌∷◌, ◌++◌}
use Prim.Native.Nat.{ℕ, ◌*◌, ◌/◌, ◌^◌, ◌≤◌}
use lib.Dec.{leb}
use lib.ListN.{length, drop, get_or}
use Rattle.reading.specs.declared.Reason.TheVariants.{OrderOutsideFile}
use Rattle.reading.specs.declared.Refusal.{Refusal}
use Rattle.reading.specs.Got.{got}
use Rattle.reading.specs.Items.{spots}
use Rattle.std.specs.Prelude.{Result, Ok, Err}
use Rattle.jobfile.specs.declared.ReadChoice.{ReadChoice}
use Rattle.jobfile.specs.Job.{Job, order}
use Rattle.jobfile.specs.Meaning.{as_choice, choice_read}
use Rattle.jobfile.specs.Read.{read, read_job, choices}
use Rattle.jobfile.specs.Valid.{Bytes}
use Rattle.jobfile.proofs.StatedLaws.{choice-head, choice-stated}
use Rattle.network.specs.Network.{Network, listed, network_of}
use Rattle.network.specs.Tables.{both_ways}
use Rattle.choice.specs.declared.Chosen as choice
use Rattle.choice.specs.declared.NoSelection.{NoSelection}
use Rattle.choice.specs.Meaning.{Choice}
use Rattle.choice.specs.Choice.{offered}
use Rattle.choice.proofs.BothLaws.{both-offered}
use Rattle.arguments.specs.Answers.{Answer, value, on_job, unless, answered, refusal_said, Left, leaving}
use Rattle.arguments.specs.Tests.{room_test}
use Rattle.arguments.specs.Meaning.{verdict_of, network_in}
use Rattle.arguments.proofs.FileLaws.{file-down, job-down, on-job}
use Rattle.arguments.proofs.TestLaws.{test-refused, through, room-passed}
use Rattle.arguments.proofs.JobLaws.{ChoiceRead}
use Rattle.changes.specs.Change.{new_order, alter, changed}
use Rattle.calls.specs.Choose.{Chosen, searched}
use Rattle.calls.proofs.OfferLaws.{offer_over, offer-is}
use Rattle.fair.specs.Fair.{entry_words, order_in, entry_of, entries, fair_in, fair_of}
use Rattle.fair.specs.Meaning.{order_over}
use Rattle.fair.proofs.EntryLaws.{room-test, entries-length}

-- ---- one order

-- it names a wish that the file lacks
pub entry-lacks : (N : Network) (w wanted : ℕ) {t : Bool} {x y z : ℕ} → t ≡ leb (2 ^ w) wanted → t ≡ true → x ≡ 18 → y ≡ 0 → z ≡ 0 → x ∷ y ∷ z ∷ [] ≡ entry_of (order_over N w wanted)
entry-lacks N w wanted e q ex ey ez = (λ i. ex i ∷ ey i ∷ ez i ∷ []) ∙ ap (λ (b : Bool). entry_of (unless b OrderOutsideFile (searched (offered N wanted)))) (sym q ∙ e)

-- what was chosen for it
module _ (N : Network) (w wanted : ℕ) {t : Bool} {c : Choice} (e : t ≡ leb (2 ^ w) wanted) (q : t ≡ false) (made : c ≡ offered N wanted) where
  fits : entry_of (searched c) ≡ entry_of (order_over N w wanted)
  fits = ap (λ (c : Choice). entry_of (searched c)) made ∙ ap (λ (b : Bool). entry_of (unless b OrderOutsideFile (searched (offered N wanted)))) (sym q ∙ e)

  pub entry-chosen : {x y s : ℕ} {found : choice.Chosen} → c ≡ Ok found → s ≡ 0 → x ≡ found.selection → y ≡ found.aside → s ∷ x ∷ y ∷ [] ≡ entry_of (order_over N w wanted)
  entry-chosen is es ex ey = (λ i. es i ∷ ex i ∷ ey i ∷ []) ∙ sym (ap (λ (c : Choice). entry_of (searched c)) is) ∙ fits

  pub entry-none : {s x y : ℕ} {none : NoSelection} → c ≡ Err none → s ≡ 14 → x ≡ 0 → y ≡ 0 → s ∷ x ∷ y ∷ [] ≡ entry_of (order_over N w wanted)
  entry-none is es ex ey = (λ i. es i ∷ ex i ∷ ey i ∷ []) ∙ sym (ap (λ (c : Choice). entry_of (searched c)) is) ∙ fits

-- ---- a file that was read

-- by clashes said both ways, the same is written
pub both-answers : (r : ReadChoice) (orders old : List ℕ) {both : List ℕ} → r.articles ≤ 64 → both ≡ both_ways 64 r.clashes
    → entries (order_over (listed r.articles r.wishes both) r.wish_count) orders ++ drop (entry_words * length orders) old ≡ entries (order_over (network_in r) r.wish_count) orders ++ drop (entry_words * length orders) old
both-answers r orders old few e =
    ap (λ (answer : ℕ → Answer Chosen). entries answer orders ++ drop (entry_words * length orders) old) (λ i wanted.
    unless (leb (2 ^ r.wish_count) wanted) OrderOutsideFile
    ((ap (λ (cs : List ℕ). searched (offered (listed r.articles r.wishes cs) wanted)) e ∙ ap searched (both-offered 64 r.articles r.wishes r.clashes few wanted)) i))

-- ---- the job of a file

-- a job that a file states has the new order, if it is given one
pub order-new : (f : List ℕ) → Bytes f → {job : Job (List ℕ)} {end : ℕ} → read_job choices f ≡ got job end → (wanted : ℕ) → order (changed (new_order wanted) job) ≡ wanted
unfolding alter
order-new f bytes {job} e wanted =
    ap (λ (heads : List ℕ). get_or (alter 0 (λ old. wanted) heads) 0 0) (choice-head (get_or job.counts 1 0) job.heads (choice-stated f bytes e).heads)

-- ---- a file

module _ (f orders old : List ℕ) where
  abbrev left : Answer (List ℕ) → Left (Unit {0})
  left a = leaving (λ words. words) (λ words. tt) old a

  pub fair-down : {v : Result ReadChoice Refusal} {x : Refusal} → v ≡ choice_read (read spots choices f) → v ≡ Err x → record { answer = refusal_said x; buffer = old } ≡ fair_of f orders old
  fair-down p q = ap left (job-down (λ job. fair_in job orders old) (file-down as_choice f choices p q))

  module _ (bytes : Bytes f) (r : ReadChoice) (R : ChoiceRead f r) {v : Result (Unit {0}) Refusal} (tested : v ≡ verdict_of (room_test (length old / entry_words) (length orders))) where
    -- each order is answered as on the job of the file
    same_answer : (wanted : ℕ) → order_over (network_in r) r.wish_count wanted ≡ order_in R.job wanted
    same_answer wanted =
        ap₂ (λ (w : ℕ) (a : Answer Chosen). unless (leb (2 ^ w) wanted) OrderOutsideFile a) R.counted
        (ap (λ (N : Network). searched (offered N wanted)) R.network ∙ offer-is (network_of R.job) wanted ∙ ap (offer_over (network_of R.job)) (sym (order-new f bytes R.is wanted)))

    same-answers : order_over (network_in r) r.wish_count ≡ order_in R.job
    same-answers = λ i wanted. same_answer wanted i

    test : v ≡ verdict_of (room_test (length old) (entry_words * length orders))
    test = tested ∙ ap verdict_of (room-test (length old) (length orders))

    on-file : fair_in R.job orders old ≡ on_job (read_job choices f) (λ job. fair_in job orders old)
    on-file = on-job (λ job. fair_in job orders old) R.is

    pub fair-short : {x : Refusal} → v ≡ Err x → record { answer = refusal_said x; buffer = old } ≡ fair_of f orders old
    fair-short q = ap left (test-refused (room_test (length old) (entry_words * length orders)) (value (entries (order_in R.job) orders)) test q ∙ on-file)

    pub fair-room : v ≡ Ok tt → entry_words * length orders ≤ length old
    fair-room q = room-passed (length old) (entry_words * length orders) test q

    pub fair-made : {new : List ℕ} → v ≡ Ok tt → new ≡ entries (order_over (network_in r) r.wish_count) orders ++ drop (entry_words * length orders) old → record { answer = answered tt; buffer = new } ≡ fair_of f orders old
    fair-made {new} q made =
        let all = entries (order_in R.job) orders in
        let same : new ≡ all ++ drop (length all) old =
        made ∙ ap (λ (answer : ℕ → Answer Chosen). entries answer orders ++ drop (entry_words * length orders) old) same-answers ∙ ap (λ (k : ℕ). all ++ drop k old) (sym (entries-length (order_in R.job) orders)) in
        ap (λ (b : List ℕ). record { answer = answered tt; buffer = b }) same ∙ ap left (through (room_test (length old) (entry_words * length orders)) (value all) test q ∙ on-file)
