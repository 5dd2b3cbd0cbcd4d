-- One order of a fair, on the job of a file. Assumes nothing.
use mathlib.Core.Path.{◌≡◌, refl, sym, ap, subst, ◌∙◌}
use mathlib.Core.Logic.{◌⊎◌, inl, inr}
use mathlib.Core.Bool.{Bool, true, false, false≢true}
use mathlib.Core.List.{List, [], ◌∷◌}
use mathlib.Core.Option.{Option, none, some}
use Prim.Native.Nat.{ℕ, ◌^◌, ◌≤◌, ◌<◌}
use native.Mathlib.Omega.{arith}
use lib.Dec.{leb, eqb}
use lib.ListN.{length, get_or}
use borrow.Author.Tests.{eqb-false, leb-true, leb-false, le-ltb}
use Rattle.sets.specs.Sets.{◌∈◌, full}
use Rattle.sets.specs.First.{LeastFrom}
use Rattle.reading.specs.declared.Reason.TheVariants.{AbsentMember, ShortBuffer, OrderOutsideFile}
use Rattle.reading.specs.Got.{Got, got, refused}
use Rattle.jobfile.specs.Layout.{choice}
use Rattle.jobfile.specs.Job.{Job, size, wish_count}
use Rattle.jobfile.specs.Read.{read_job, choices}
use Rattle.jobfile.specs.Valid.{Bytes}
use Rattle.jobfile.proofs.FileLaws.{Body}
use Rattle.jobfile.proofs.Theorems.{read_back}
use Rattle.network.specs.Network.{Network, network_of, Selection}
use Rattle.network.specs.Groups.{group_of}
use Rattle.filter.specs.Filter.{set_aside, first_short}
use Rattle.choice.specs.Choice.{selection, sole_goal}
use Rattle.choice.proofs.Theorems.{the-smallest, own-aside}
use Rattle.arguments.specs.Answers.{Answer, refusal, value, on_job, unless, passed, after_tests, Said, refused_by, said, leaving}
use Rattle.changes.specs.Change.{new_order, changed, new_file}
use Rattle.changes.specs.Places.{order_place}
use Rattle.changes.proofs.FitLaws.{order-fits}
use Rattle.changes.proofs.FaultLaws.{order-off}
use Rattle.drafts.specs.Draft.{drafted, draft_in, stored}
use Rattle.calls.specs.Choose.{Chosen, chosen_or}
use Rattle.calls.specs.Offer.{offer_in, offer_of}
use Rattle.calls.specs.Save.{save_of}
use Rattle.calls.proofs.ChoiceLaws.{searched-is}
use Rattle.calls.proofs.OfferLaws.{offer_over, offer-is}
use Rattle.fair.specs.Fair.{order_in, entry_of}
use Rattle.fair.proofs.FairLaws.{order-new}
use Rattle.demands.specs.Demands.{Exactly, Refuses, Says, Fault, FirstOf, Off, Wrong}
use Rattle.demands.specs.Fairs.{Lacking, FitsFile, SavedAs, ChosenFor}
use Rattle.demands.proofs.ReasonLaws.{file-reason}
use Rattle.demands.proofs.SaveLaws.{stray-exactly}

-- the test of an order: it names a wish that the file lacks, or fits
lacks-test : (job : Job (List ℕ)) (wanted : ℕ) → Lacking job wanted → leb (2 ^ wish_count job) wanted ≡ true
lacks-test job wanted w = (stray-exactly (wish_count job) wanted).1 w

fits-test : (job : Job (List ℕ)) (wanted : ℕ) → FitsFile job wanted → leb (2 ^ wish_count job) wanted ≡ false
fits-test job wanted fits = not_so (leb (2 ^ wish_count job) wanted) (λ e. fits ((stray-exactly (wish_count job) wanted).0 e))
  where
    not_so : (b : Bool) → (b ≡ true → ⊥) → b ≡ false
    not_so true h = absurd (h refl)
    not_so false h = refl

-- one of the two holds
pub lacks-or-fits : (job : Job (List ℕ)) (wanted : ℕ) → Lacking job wanted ⊎ FitsFile job wanted
lacks-or-fits job wanted = go (leb (2 ^ wish_count job) wanted) refl
  where
    go : (b : Bool) → leb (2 ^ wish_count job) wanted ≡ b → Lacking job wanted ⊎ FitsFile job wanted
    go true e = inl ((stray-exactly (wish_count job) wanted).0 e)
    go false e = inr (λ w. false≢true (sym e ∙ lacks-test job wanted w))

-- what is answered to it
pub answer-lacks : (job : Job (List ℕ)) (wanted : ℕ) → Lacking job wanted → order_in job wanted ≡ refusal OrderOutsideFile 0
answer-lacks job wanted w = ap (λ (b : Bool). unless b OrderOutsideFile (offer_in (changed (new_order wanted) job))) (lacks-test job wanted w)

pub answer-fits : (job : Job (List ℕ)) (wanted : ℕ) → FitsFile job wanted → order_in job wanted ≡ offer_in (changed (new_order wanted) job)
answer-fits job wanted fits = ap (λ (b : Bool). unless b OrderOutsideFile (offer_in (changed (new_order wanted) job))) (fits-test job wanted fits)

-- ---- the file with that order

module _ (file : List ℕ) {job : Job (List ℕ)} {end : ℕ} (e : read_job choices file ≡ got job end) (ok : Body choice job) (wanted : ℕ) where
  abbrev new : List ℕ
  new = new_file (new_order wanted) job

  -- the draft of it
  saved-by : (to : List ℕ) → save_of file (new_order wanted) to ≡ stored to (drafted new)
  saved-by to = ap (λ (g : Got (Job (List ℕ))). stored to (on_job g (draft_in (new_order wanted)))) e

  module _ (fits : FitsFile job wanted) where
    order-reads : read_job choices new ≡ got (changed (new_order wanted) job) (length new)
    unfolding choice
    order-reads =
        read_back choices (changed (new_order wanted) job) (order-fits job ok wanted (leb-false (2 ^ wish_count job) wanted (fits-test job wanted fits))) (ap choices ok.kind)

    pub new-offer : offer_in (changed (new_order wanted) job) ≡ offer_of new
    new-offer = sym (ap (λ (g : Got (Job (List ℕ))). on_job g (λ j. offer_in j)) order-reads)

    pub new-saved : SavedAs file wanted new
    new-saved to room =
        saved-by to ∙ ap (λ (g : Got (Job (List ℕ))). stored to (on_job g (λ j. value new))) order-reads
        ∙ ap (λ (b : Bool). leaving (λ new. new) (λ new. length new) to (after_tests (unless b ShortBuffer passed) (value new))) (le-ltb (length to) (length new) room)

  module _ (lacks : Lacking job wanted) (few : wanted < 2 ^ 64) where
    order-stops : read_job choices new ≡ refused AbsentMember order_place
    order-stops = order-off job ok wanted few (leb-true (2 ^ wish_count job) wanted (lacks-test job wanted lacks))

    pub new-refused : said (offer_of new) ≡ refused_by 6 3
    new-refused = ap (λ (g : Got (Job (List ℕ))). said (on_job g (λ j. offer_in j))) order-stops

    pub new-unsaved : (to : List ℕ) → (save_of file (new_order wanted) to).answer ≡ refused_by 6 3
    new-unsaved to = ap (λ l. l.answer) (saved-by to ∙ ap (λ (g : Got (Job (List ℕ))). stored to (on_job g (λ j. value new))) order-stops)

-- ---- what is chosen

module _ (file : List ℕ) (bytes : Bytes file) {job : Job (List ℕ)} {end : ℕ} (e : read_job choices file ≡ got job end) (wanted : ℕ) where
  abbrev N : Network
  N = network_of job

  abbrev pub found : Option ℕ → Answer Chosen
  found o = chosen_or o (set_aside N (group_of N) (sole_goal wanted)) (first_short N (group_of N) (full (size job)) (sole_goal wanted))

  -- the smallest selection for the order, or that there is none
  pub answer-found : FitsFile job wanted → order_in job wanted ≡ found (selection N wanted 0)
  answer-found fits =
      answer-fits job wanted fits ∙ ap (offer_over N) (order-new file bytes e wanted) ∙ sym (offer-is N wanted) ∙ searched-is N (group_of N) (sole_goal wanted) wanted 0

  pub found-chosen : (o : Option ℕ) → selection N wanted 0 ≡ o → {x aside : ℕ} → entry_of (found o) ≡ 0 ∷ x ∷ aside ∷ [] → ChosenFor job wanted x aside
  found-chosen none q r = let z : ◌≡◌ {A = ℕ} 14 0 = ap (λ (l : List ℕ). get_or l 0 0) r in absurd (omega arith)
  found-chosen (some y) q {x} {aside} r =
      let same : y ≡ x = ap (λ (l : List ℕ). get_or l 1 0) r in
      let struck : set_aside N (group_of N) (sole_goal wanted) ≡ aside = ap (λ (l : List ℕ). get_or l 2 0) r in (
        subst (λ (z : ℕ). LeastFrom (Selection N wanted) 0 z) same (the-smallest N wanted 0 y q),
        sym struck,
        subst (λ (s : ℕ). (z u : ℕ) → Selection N wanted z → u ∈ s → u ∈ z → ⊥) struck (own-aside N wanted),
      )

  pub found_nothing : (o : Option ℕ) → entry_of (found o) ≡ 14 ∷ 0 ∷ 0 ∷ [] → o ≡ none
  found_nothing none r = refl
  found_nothing (some y) r = let z : ◌≡◌ {A = ℕ} 0 14 = ap (λ (l : List ℕ). get_or l 0 0) r in absurd (omega arith)

  -- the two sorts of entries of an order that fits
  pub found-sort : (o : Option ℕ) → (entry_of (found o) ≡ 14 ∷ 0 ∷ 0 ∷ []) ⊎ ((x aside : ℕ) × (entry_of (found o) ≡ 0 ∷ x ∷ aside ∷ []))
  found-sort none = inl refl
  found-sort (some x) = inr (x, set_aside N (group_of N) (sole_goal wanted), refl)

  pub found-fits : (o : Option ℕ) → entry_of (found o) ≡ 18 ∷ 0 ∷ 0 ∷ [] → ⊥
  found-fits none r = let z : ◌≡◌ {A = ℕ} 14 18 = ap (λ (l : List ℕ). get_or l 0 0) r in omega arith
  found-fits (some x) r = let z : ◌≡◌ {A = ℕ} 0 18 = ap (λ (l : List ℕ). get_or l 0 0) r in omega arith

-- ---- a number that no call says

-- it is the number of no fault of a list
abbrev pub NotOf : ℕ → List Fault → Type 0
NotOf number [] = Unit {0}
NotOf number (fault ∷ faults) = (eqb number fault.number ≡ false) × NotOf number faults

first-not : (number place : ℕ) (faults : List Fault) → NotOf number faults → FirstOf faults number place → ⊥
first-not number place [] n w = w
first-not number place (fault ∷ faults) n (inl (e, at)) = eqb-false number fault.number n.0 e
first-not number place (fault ∷ faults) n (inr (missed, w)) = first-not number place faults n.1 w

-- a file is turned down by 1 to 8
pub off-few : (takes : ℕ → Bool) (file : List ℕ) {number place : ℕ} → Off takes file number place → number ≤ 8
off-few takes file (reason, e, n) = omega (arith, n, file-reason takes file e)

pub never-by : {A : Type 0} {s : Said A} (takes : ℕ → Bool) (file : List ℕ) (faults : Job (List ℕ) → List Fault) → ((place : ℕ) → Exactly (Refuses s 18 place) (Wrong takes file faults 18 place)) → ((job : Job (List ℕ)) → NotOf 18 (faults job))
    → Says s 18 → ⊥
never-by takes file faults exactly others (place, told) = go ((exactly place).0 (told, refl))
  where
    go : Wrong takes file faults 18 place → ⊥
    go (inl off) = let few = off-few takes file off in omega arith
    go (inr (job, end, e, first)) = first-not 18 place (faults job) (others job) first
