-- The program's choice on a file: what it lends itself passes the tests of the rules. Assumes nothing.
use mathlib.Core.Path.{◌≡◌, refl, sym, ap, ap₂, ◌∙◌}
use mathlib.Core.Bool.{Bool, true, false, not, ◌||◌}
use mathlib.Core.List.{List, [], ◌∷◌}
use mathlib.Core.Option.{Option}
use Prim.Native.Nat.{ℕ}
use native.Mathlib.Omega.{arith}
use lib.Dec.{eqb}
use lib.ListN.{length, get_or}
use borrow.Author.Tests.{le-ltb}
use Rattle.sets.specs.First.{first_from}
use Rattle.sets.proofs.Bits.{part-refl, part-yes}
use Rattle.sets.proofs.First.{first-miss}
use Rattle.reading.specs.declared.Reason.TheVariants.{ShortBuffer, FalsePartition, BadGoal}
use Rattle.reading.specs.declared.Refusal.{Refusal}
use Rattle.reading.specs.Items.{spots}
use Rattle.std.specs.Prelude.{Result, Err}
use Rattle.jobfile.specs.declared.ReadChoice.{ReadChoice}
use Rattle.jobfile.specs.Meaning.{as_choice, choice_read}
use Rattle.jobfile.specs.Read.{read, choices}
use Rattle.network.specs.Network.{Network}
use Rattle.network.specs.Groups.{groups_to, group_of}
use Rattle.filter.specs.Filter.{bad_goal, first_bad}
use Rattle.network.proofs.GroupLaws.{groups-length, groups-right, right-lent}
use Rattle.choice.specs.Meaning.{Choice}
use Rattle.choice.specs.Choice.{sole_goal, offered}
use Rattle.arguments.specs.Answers.{Answer, unless, unless_at, after_tests, passed, said, refusal_said}
use Rattle.arguments.specs.Tests.{groups_test, goals_test}
use Rattle.arguments.specs.Meaning.{network_in}
use Rattle.calls.specs.Choose.{Chosen, chosen_for, searched}
use Rattle.calls.specs.Offer.{offer_in, offer_of}
use Rattle.arguments.proofs.FileLaws.{file-down, job-down, on-job}
use Rattle.arguments.proofs.JobLaws.{ChoiceRead}
use Rattle.calls.proofs.ChoiceLaws.{searched-is}

-- ---- what the program lends itself passes the tests

-- 10 and 11: our own groups are as many as there are articles, and a partition
groups-passed : (N : Network) → groups_test N (groups_to N N.articles) ≡ passed
unfolding group_of
groups-passed N =
    ap₂ (λ (short : Bool) (place : Option ℕ). unless short ShortBuffer (unless_at place FalsePartition passed))
    (le-ltb (length (groups_to N N.articles)) N.articles (omega (arith, groups-length N N.articles)))
    (right-lent N (λ u. get_or (groups_to N N.articles) u 0) (groups-right N))

-- 13: the whole order, if it is not empty, is in order as a goal
goal-passed : (wanted : ℕ) → goals_test wanted (sole_goal wanted) ≡ passed
unfolding first_bad first_from bad_goal
goal-passed wanted = go (eqb wanted 0) refl
  where
    go : (empty : Bool) → eqb wanted 0 ≡ empty → goals_test wanted (elim empty as (λ t. List ℕ) [ true ↦ [] | false ↦ wanted ∷ [] ]) ≡ passed
    go true e = refl
    go false e =
        ap (λ (place : Option ℕ). unless_at place BadGoal passed)
        (first-miss (λ i. bad_goal wanted (get_or (wanted ∷ []) i 0)) 0 0 (ap₂ (λ (a b : Bool). a || not b) e (part-yes wanted wanted (part-refl wanted))))

-- over a network and an order: the choice by our own partition and goal
abbrev pub offer_over : Network → ℕ → Answer Chosen
offer_over N wanted =
    after_tests (groups_test N (groups_to N N.articles))
    (after_tests (goals_test wanted (sole_goal wanted))
    (chosen_for N (λ u. get_or (groups_to N N.articles) u 0) (sole_goal wanted) wanted 0))

-- neither is turned down
own-passed : (N : Network) (wanted : ℕ) → chosen_for N (group_of N) (sole_goal wanted) wanted 0 ≡ offer_over N wanted
unfolding group_of
own-passed N wanted =
    let answer = chosen_for N (group_of N) (sole_goal wanted) wanted 0 in
    sym (ap₂ (λ (a b : Answer (Unit {0})). after_tests a (after_tests b answer)) (groups-passed N) (goal-passed wanted))

-- so what was searched for is what the rules answer
pub offer-is : (N : Network) (wanted : ℕ) → searched (offered N wanted) ≡ offer_over N wanted
offer-is N wanted = searched-is N (group_of N) (sole_goal wanted) wanted 0 ∙ own-passed N wanted

-- ---- a file

module _ (f : List ℕ) where
  pub offer-down : {v : Result ReadChoice Refusal} {x : Refusal} → v ≡ choice_read (read spots choices f) → v ≡ Err x → refusal_said x ≡ said (offer_of f)
  offer-down p q = ap said (job-down (λ job. offer_in job) (file-down as_choice f choices p q))

  -- the choice was made for this order
  pub offer-made : (r : ReadChoice) → ChoiceRead f r → {c : Choice} {wanted : ℕ} → c ≡ offered (network_in r) wanted → wanted ≡ r.order → said (searched c) ≡ said (offer_of f)
  offer-made r R p same-order =
      ap said (
      ap searched (p ∙ ap (offered (network_in r)) same-order) ∙ offer-is (network_in r) r.order ∙ ap₂ offer_over R.network R.wanted ∙ on-job (λ job. offer_in job) R.is
      )
