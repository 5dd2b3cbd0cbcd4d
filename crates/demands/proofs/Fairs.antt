-- What was asked of a fair's orders, over file bytes, orders and the words that the open call leaves. What turns the call down is among the demands
-- (`demand-1-fair`). Assumes nothing.
use mathlib.Core.Path.{◌≡◌, refl, sym, ap, subst, ◌∙◌}
use mathlib.Core.Logic.{◌⊎◌, inl, inr}
use mathlib.Core.List.{List, [], ◌∷◌, ◌++◌}
use mathlib.Core.Option.{Option}
use Prim.Native.Nat.{ℕ, ◌*◌, ◌^◌, ◌<◌, zero-le}
use native.Mathlib.Omega.{arith}
use lib.ListN.{length, get_or, drop}
use lib.Seq.{drop_at}
use Rattle.reading.specs.Got.{got}
use Rattle.jobfile.specs.Job.{Job, size, order, horizon}
use Rattle.jobfile.specs.Read.{read_job, choices, fittings, either}
use Rattle.jobfile.specs.Valid.{Bytes}
use Rattle.jobfile.proofs.Lawful.{same-value}
use Rattle.jobfile.proofs.StatedLaws.{choice-stated}
use Rattle.network.specs.Network.{network_of, Selection}
use Rattle.choice.specs.Choice.{selection}
use Rattle.choice.proofs.Theorems.{none-exactly, exactly-none}
use Rattle.arguments.specs.Answers.{Said, refused_by, answered, said, accepted}
use Rattle.changes.specs.Change.{Change, new_order, new_file}
use Rattle.calls.specs.Offer.{offer_of}
use Rattle.calls.specs.Save.{save_of}
use Rattle.fair.specs.Fair.{order_in, entry_of, entries, fair_of}
use Rattle.fair.proofs.EntryLaws.{entries-length, entry-at}
use Rattle.demands.specs.Demands.{Exactly, Off, absent_layer, short_buffer, false_partition, absent_article, wrong_goal, wrong_goals, high_rate}
use Rattle.demands.specs.Saving.{AfterOldFile}
use Rattle.demands.specs.Fairs.{entry_at, Entry, Lacking, FitsFile, SavedAs, ChosenFor, NoCallSays}
use Rattle.demands.proofs.FairLaws.{lacks-or-fits, answer-lacks, answer-fits, new-offer, new-saved, new-refused, new-unsaved, answer-found, found, found-chosen, found_nothing, found-sort, found-fits, off-few, never-by}
use Rattle.demands.proofs.Demands.{demand-1-partition, demand-1-pass, demand-1-choose, demand-1-price, demand-1-fact-layer, demand-1-round-layer, demand-1-plan, demand-1-find, demand-1-compare, demand-1-fair, demand-1-fair-kept, demand-2-fair}
use Rattle.demands.proofs.Saving.{save-refusals}

-- ---- an entry of a call that is accepted

module _ (file orders buffer : List ℕ) {job : Job (List ℕ)} {end : ℕ} (e : read_job choices file ≡ got job end) (told : (fair_of file orders buffer).answer ≡ answered tt) where
  abbrev words : List ℕ
  words = (fair_of file orders buffer).buffer

  words_are : words ≡ entries (order_in job) orders ++ drop (3 * length orders) buffer
  words_are =
      let (j, k, is, a, b) = demand-2-fair file orders buffer (ap accepted told) in
      b ∙ ap (λ (j : Job (List ℕ)). entries (order_in j) orders ++ drop (3 * length orders) buffer) (same-value (sym is ∙ e))

  module _ (i : ℕ) (l : i < length orders) where
    abbrev wanted : ℕ
    wanted = get_or orders i 0

    entry-is : entry_at words i ≡ entry_of (order_in job wanted)
    entry-is = ap (λ (w : List ℕ). entry_at w i) words_are ∙ entry-at (order_in job) orders (drop (3 * length orders) buffer) i l

    module _ (bytes : Bytes file) where
      -- where the order fits, there is a file that saving it writes, and the entry is the program's choice on that file
      pub fair_fits : FitsFile job wanted → (new : List ℕ) × SavedAs file wanted new × (entry_at words i ≡ entry_of (offer_of new))
      fair_fits fits =
          let ok = choice-stated file bytes e in
          (new_file (new_order wanted) job, new-saved file e ok wanted fits, entry-is ∙ ap entry_of (answer-fits job wanted fits ∙ new-offer file e ok wanted fits))

      found-entry : FitsFile job wanted → entry_at words i ≡ entry_of (found file bytes e wanted (selection (network_of job) wanted 0))
      found-entry fits = entry-is ∙ ap entry_of (answer-found file bytes e wanted fits)

      -- an entry is one of the three sorts
      pub fair-entry : Entry (entry_at words i)
      fair-entry = go (lacks-or-fits job wanted)
        where
          go : Lacking job wanted ⊎ FitsFile job wanted → Entry (entry_at words i)
          go (inl lacks) = inl (entry-is ∙ ap entry_of (answer-lacks job wanted lacks))
          go (inr fits) = inr (subst (λ (l : List ℕ). (l ≡ 14 ∷ 0 ∷ 0 ∷ []) ⊎ ((x aside : ℕ) × (l ≡ 0 ∷ x ∷ aside ∷ []))) (sym (found-entry fits)) (found-sort file bytes e wanted (selection (network_of job) wanted 0)))

      -- 18 exactly where the order names a wish that the file lacks
      pub fair-lacks : Exactly (entry_at words i ≡ 18 ∷ 0 ∷ 0 ∷ []) (Lacking job wanted)
      fair-lacks = (λ r. go r (lacks-or-fits job wanted), λ lacks. entry-is ∙ ap entry_of (answer-lacks job wanted lacks))
        where
          go : entry_at words i ≡ 18 ∷ 0 ∷ 0 ∷ [] → Lacking job wanted ⊎ FitsFile job wanted → Lacking job wanted
          go r (inl lacks) = lacks
          go r (inr fits) = absurd (found-fits file bytes e wanted (selection (network_of job) wanted 0) (sym (found-entry fits) ∙ r))

      -- no file can be saved with such an order, and the program would turn it down: by 6 at 3
      pub fair-unsaved : Lacking job wanted → wanted < 2 ^ 64 → (said (offer_of (new_file (new_order wanted) job)) ≡ refused_by 6 3) × ((to : List ℕ) → (save_of file (new_order wanted) to).answer ≡ refused_by 6 3)
      fair-unsaved lacks few = let ok = choice-stated file bytes e in (new-refused file e ok wanted lacks few, new-unsaved file e ok wanted lacks few)

      -- an order whose status is not 18 fits
      not-18 : {status x aside : ℕ} → (status ≡ 18 → ⊥) → entry_at words i ≡ status ∷ x ∷ aside ∷ [] → FitsFile job wanted
      not-18 other r lacks = other (ap (λ (l : List ℕ). get_or l 0 0) (sym r ∙ fair-lacks.1 lacks))

      -- 14 exactly where it fits and there is no selection for it
      pub fair-none : Exactly (entry_at words i ≡ 14 ∷ 0 ∷ 0 ∷ []) (FitsFile job wanted × ((x : ℕ) → Selection (network_of job) wanted x → ⊥))
      fair-none = (
        λ r.
            let fits : FitsFile job wanted = not-18 (λ z. let f : ⊥ = omega arith in f) r in
            (fits, λ x s. none-exactly (network_of job) wanted 0 (found_nothing file bytes e wanted (selection (network_of job) wanted 0) (sym (found-entry fits) ∙ r)) x s zero-le),
        λ (fits, h). found-entry fits ∙ ap (λ (o : Option ℕ). entry_of (found file bytes e wanted o)) (exactly-none (network_of job) wanted 0 (λ x s k. h x s)),
      )

      -- with 0 it fits, and there are the smallest selection and the set aside
      pub fair-chosen : {x aside : ℕ} → entry_at words i ≡ 0 ∷ x ∷ aside ∷ [] → FitsFile job wanted × ChosenFor job wanted x aside
      fair-chosen r =
          let fits : FitsFile job wanted = not-18 (λ z. let f : ⊥ = omega arith in f) r in
          (fits, found-chosen file bytes e wanted (selection (network_of job) wanted 0) refl (sym (found-entry fits) ∙ r))

-- an entry depends on its own order only: in another list, at another place and in another buffer it is the same
pub fair-own : (file : List ℕ) (orders others buffer buffer' : List ℕ) → (fair_of file orders buffer).answer ≡ answered tt → (fair_of file others buffer').answer ≡ answered tt → (i j : ℕ) → i < length orders → j < length others
    → get_or orders i 0 ≡ get_or others j 0 → entry_at (fair_of file orders buffer).buffer i ≡ entry_at (fair_of file others buffer').buffer j
fair-own file orders others buffer buffer' told told' i j l l' same =
    let (job, end, is, a, b) = demand-2-fair file orders buffer (ap accepted told) in
    entry-is file orders buffer is told i l ∙ ap (λ (wanted : ℕ). entry_of (order_in job wanted)) same ∙ sym (entry-is file others buffer' is told' j l')

-- words past the last entry stay as they were, whatever is answered
pub fair-kept : (file orders buffer : List ℕ) → drop (3 * length orders) (fair_of file orders buffer).buffer ≡ drop (3 * length orders) buffer
fair-kept file orders buffer = go (fair_of file orders buffer).answer refl
  where
    go : (s : Said (Unit {0})) → (fair_of file orders buffer).answer ≡ s → drop (3 * length orders) (fair_of file orders buffer).buffer ≡ drop (3 * length orders) buffer
    go (refused_by number place) q = ap (drop (3 * length orders)) (demand-1-fair-kept file orders buffer q)
    go (answered x) q =
        let (job, end, is, a, b) = demand-2-fair file orders buffer (ap accepted q) in
        ap (drop (3 * length orders)) b ∙ drop_at (entries (order_in job) orders) (drop (3 * length orders) buffer) (3 * length orders) (entries-length (order_in job) orders)

-- ---- 18 is a status only

-- no call is turned down by it
pub never-18 : (file : List ℕ) → NoCallSays 18 file
never-18 file = record {
  partition = λ buffer. never-by choices file (λ job. short_buffer buffer (size job) ∷ []) (demand-1-partition file buffer 18) (λ job. (refl, tt));
  pass = λ groups live goal. never-by choices file (λ job. short_buffer groups (size job) ∷ false_partition (network_of job) groups ∷ absent_article (size job) live ∷ wrong_goal (order job) goal ∷ []) (demand-1-pass file groups live goal 18) (λ job. (refl, (refl, (refl, (refl, tt)))));
  choose = λ groups goals floor. never-by choices file (λ job. short_buffer groups (size job) ∷ false_partition (network_of job) groups ∷ wrong_goals (order job) goals ∷ []) (demand-1-choose file groups goals floor 18) (λ job. (refl, (refl, (refl, tt))));
  price = λ rate. never-by choices file (λ job. high_rate rate ∷ []) (demand-1-price file rate 18) (λ job. (refl, tt));
  fair = λ orders buffer. never-by choices file (λ job. short_buffer buffer (3 * length orders) ∷ []) (demand-1-fair file orders buffer 18) (λ job. (refl, tt));
  fact_layer = λ k buffer. never-by fittings file (λ job. absent_layer k 0 (horizon job) ∷ short_buffer buffer 32 ∷ []) (demand-1-fact-layer file buffer k 18) (λ job. (refl, (refl, tt)));
  round_layer = λ k buffer. never-by fittings file (λ job. absent_layer k 1 (horizon job) ∷ short_buffer buffer 64 ∷ []) (demand-1-round-layer file buffer k 18) (λ job. (refl, (refl, tt)));
  plan = λ buffer. never-by fittings file (λ job. short_buffer buffer (horizon job) ∷ []) (demand-1-plan file buffer 18) (λ job. (refl, tt));
  find = λ name. never-by either file (λ job. []) (demand-1-find file name 18) (λ job. tt);
  compare = λ second (place, told). compared second place ((demand-1-compare file second 18 place).0 (told, refl));
  save = λ change buffer (place, told). saved change buffer place ((save-refusals file change buffer 18 place).0 (told, refl));
}
  where
    compared : (second : List ℕ) (place : ℕ) → Off choices file 18 place ⊎ ((job : Job (List ℕ)) × (end : ℕ) × (read_job choices file ≡ got job end) × Off choices second 18 place) → ⊥
    compared second place (inl off) = let few = off-few choices file off in omega arith
    compared second place (inr (job, end, e, off)) = let few = off-few choices second off in omega arith

    after : (change : Change) (buffer : List ℕ) (place : ℕ) (job : Job (List ℕ)) → AfterOldFile change buffer job 18 place → ⊥
    after change buffer place job (inl (absent, n, p)) = omega arith
    after change buffer place job (inr (present, inl off)) = let few = off-few choices (new_file change job) off in omega arith
    after change buffer place job (inr (present, inr (new, end, e, short, n, p))) = omega arith

    saved : (change : Change) (buffer : List ℕ) (place : ℕ) → Off choices file 18 place ⊎ ((job : Job (List ℕ)) × (end : ℕ) × (read_job choices file ≡ got job end) × AfterOldFile change buffer job 18 place) → ⊥
    saved change buffer place (inl off) = let few = off-few choices file off in omega arith
    saved change buffer place (inr (job, end, e, later)) = after change buffer place job later
