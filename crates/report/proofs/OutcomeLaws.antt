-- What comes of a file, by its first byte: no plan has more rounds than there are words for them, and a file of no kind is refused for its first
-- byte. Assumes nothing.
use mathlib.Core.Path.{◌≡◌, refl, sym, ap, ◌∙◌, subst}
use mathlib.Core.Logic.{◌⊎◌, inl, inr}
use mathlib.Core.Bool.{Bool, true, false, cond, not}
use mathlib.Core.List.{List}
use mathlib.Core.Option.{Option, none, some}
use Prim.Native.Nat.{ℕ, ◌≤◌}
use native.Mathlib.Nat.{le_trans}
use native.Mathlib.Omega.{arith}
use lib.Dec.{leb, ltb, eqb}
use lib.ListN.{length, get_or, replicate}
use borrow.Author.Tests.{ltb-false, ne_eqb, eqb-true, not-true, not-false}
use Rattle.sets.specs.Ranges.{list_to}
use Rattle.sets.proofs.Ranges.{test-cases}
use Rattle.reading.specs.declared.Reason.TheVariants.{WrongKind, ShortBuffer, NoPlan}
use Rattle.reading.specs.Got.{Got, got, refused, refuse}
use Rattle.reading.specs.Items.{kind_at}
use Rattle.jobfile.specs.Job.{Job, size, horizon, order}
use Rattle.jobfile.specs.Read.{layout_at, read, read_job, choices, fittings}
use Rattle.network.specs.Network.{network_of}
use Rattle.network.specs.Groups.{groups_to}
use Rattle.choice.specs.Choice.{sole_goal}
use Rattle.planning.specs.Rounds.{fitting_of, fewest}
use Rattle.planning.proofs.PlanLaws.{fewest-some}
use Rattle.arguments.specs.Answers.{on_job, unless, after_tests, found_or, passed, Said, refused_by, answered, said}
use Rattle.std.specs.Prelude as Prelude
use Rattle.reading.specs.declared.Refusal.{Refusal}
use Rattle.calls.specs.Choose.{Chosen, choose_in, choose_of}
use Rattle.calls.specs.Offer.{offer_in, offer_of}
use Rattle.calls.specs.Plan.{plan_in, plan_of, plan_told, Buffer}
use Rattle.arguments.proofs.FileLaws.{on-job}
use Rattle.report.specs.Outcome.{Result, selected, planned, mapped, blank_words, RoundWords, outcome_of, RoundsFit}

-- ---- a file of another kind is refused at its first byte, as the empty file is

other_byte : (takes : ℕ → Bool) (file : List ℕ) → takes (get_or file 0 0) ≡ false → kind_at takes file 0 ≡ refused WrongKind 0
unfolding kind_at
other_byte takes file e = ap (λ (b : Bool). refuse (leb (length file) 0) WrongKind 0 (refuse (not b) WrongKind 0 (got (get_or file 0 0) 1))) e ∙ go (leb (length file) 0)
  where
    go : (empty : Bool) → refuse {A = ℕ} empty WrongKind 0 (refused WrongKind 0) ≡ refused WrongKind 0
    go true = refl
    go false = refl

other-kind : (takes : ℕ → Bool) (file : List ℕ) → takes (get_or file 0 0) ≡ false → read_job takes file ≡ refused WrongKind 0
unfolding read_job read layout_at
other-kind takes file e = rw (other_byte takes file e)

-- ---- any file

by_kind : (file words : List ℕ) {fitting : Bool} → eqb (get_or file 0 0) 70 ≡ fitting → outcome_of file words ≡ cond fitting (mapped planned (said (plan_of file words))) (mapped selected (said (offer_of file)))
by_kind file words e = ap (λ (b : Bool). cond b (mapped planned (said (plan_of file words))) (mapped selected (said (offer_of file)))) e

module _ (f old new : List ℕ) {t : Bool} (h : t ≡ eqb (get_or f 0 0) 70) where
  -- what is promised of an outcome and of the words
  abbrev Promised : Said Result → Type 0
  Promised s = (s ≡ outcome_of f old) × RoundWords f old new

  -- no words are written
  pub outcome-offered : {s : Said Result} → not t ≡ true → new ≡ old → s ≡ mapped selected (said (offer_of f)) → Promised s
  outcome-offered k same e =
      let other = sym h ∙ not-true t k in
      (e ∙ sym (by_kind f old other), subst (λ g. Buffer g old new (plan_of f old)) (sym (other-kind fittings f other)) same)

  pub outcome-planned : {p q : Prelude.Result ℕ Refusal} → not t ≡ false → plan_told p ≡ said (plan_of f old) → Buffer (read_job fittings f) old new (plan_of f old) → p ≡ q → Promised (mapped planned (plan_told q))
  outcome-planned k e made is = (ap (λ a. mapped planned (plan_told a)) (sym is) ∙ ap (mapped planned) e ∙ sym (by_kind f old (sym h ∙ not-false t k)), made)

-- ---- as many words as rounds

pub no-rounds : replicate 16 0 ≡ blank_words
unfolding list_to
no-rounds = refl

-- a plan has no more rounds than the horizon, and the buffer no fewer words
plan-fits : (file buffer : List ℕ) (k : ℕ) → said (plan_of file buffer) ≡ answered k → k ≤ length buffer
plan-fits file buffer k = go (read_job fittings file)
  where
    some-rounds : (o : Option ℕ) → said (found_or o NoPlan) ≡ answered k → o ≡ some k
    some-rounds (some j) e = let s : j ≡ k = cc in ap some s
    some-rounds none e = let z : ◌≡◌ {A = ℕ} 0 1 = cc in absurd (omega arith)

    tested : (job : Job (List ℕ)) (short : Bool) → ltb (length buffer) (horizon job) ≡ short
        → said (after_tests (unless short ShortBuffer passed) (found_or (fewest (fitting_of job) (horizon job)) NoPlan)) ≡ answered k → k ≤ length buffer
    tested job true s e = let z : ◌≡◌ {A = ℕ} 0 1 = cc in absurd (omega arith)
    tested job false s e = le_trans (fewest-some (fitting_of job) (horizon job) k (some-rounds (fewest (fitting_of job) (horizon job)) e)).0 (ltb-false (length buffer) (horizon job) s)

    go : (g : Got (Job (List ℕ))) → said (on_job g (λ job. plan_in job buffer)) ≡ answered k → k ≤ length buffer
    go (refused reason place) e = let z : ◌≡◌ {A = ℕ} 0 1 = cc in absurd (omega arith)
    go (got job end) e = tested job (ltb (length buffer) (horizon job)) refl e

pub outcome-within : (file words : List ℕ) → RoundsFit (outcome_of file words) (length words)
outcome-within file words = go (eqb (get_or file 0 0) 70)
  where
    chosen : (s : Said Chosen) → RoundsFit (mapped selected s) (length words)
    chosen (refused_by number place) = tt
    chosen (answered c) = tt

    rounds : (s : Said ℕ) → ((k : ℕ) → s ≡ answered k → k ≤ length words) → RoundsFit (mapped planned s) (length words)
    rounds (refused_by number place) h = tt
    rounds (answered k) h = h k refl

    go : (b : Bool) → RoundsFit (cond b (mapped planned (said (plan_of file words))) (mapped selected (said (offer_of file)))) (length words)
    go true = rounds (said (plan_of file words)) (plan-fits file words)
    go false = chosen (said (offer_of file))

-- ---- for the reader

-- a choice file that is accepted: the choice by our own partition, with the whole order as the only goal, none if it is empty, and no floor
pub offer-is-the-choice : (file words : List ℕ) {job : Job (List ℕ)} {end : ℕ} → read_job choices file ≡ got job end
    → outcome_of file words ≡ mapped selected (said (choose_of file (groups_to (network_of job) (size job)) (sole_goal (order job)) 0))
offer-is-the-choice file words {job} {end} e =
    by_kind file words (go (test-cases (eqb (get_or file 0 0) 67)))
    ∙ ap (λ a. mapped selected (said a)) (sym (on-job (λ j. offer_in j) e) ∙ on-job (λ j. choose_in j (groups_to (network_of job) (size job)) (sole_goal (order job)) 0) e)
  where
    go : (eqb (get_or file 0 0) 67 ≡ true) ⊎ (eqb (get_or file 0 0) 67 ≡ false) → eqb (get_or file 0 0) 70 ≡ false
    go (inl t) = ap (λ (b : ℕ). eqb b 70) (eqb-true (get_or file 0 0) 67 t)
    go (inr t) = let q = other-kind choices file t in let z : ◌≡◌ {A = ℕ} 0 1 = cc in absurd (omega arith)

-- a file of no kind, the empty one among them: 1 at place 0
pub wrong-kind : (file words : List ℕ) → (get_or file 0 0 ≡ 67 → ⊥) → (get_or file 0 0 ≡ 70 → ⊥) → outcome_of file words ≡ refused_by 1 0
wrong-kind file words c f =
    by_kind file words (ne_eqb (get_or file 0 0) 70 f)
    ∙ ap (λ g. mapped selected (said (on_job g (λ job. offer_in job)))) (other-kind choices file (ne_eqb (get_or file 0 0) 67 c))
