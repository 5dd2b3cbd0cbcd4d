-- Partition, pass and choice on a file: from what the reader, the tests and the search told to what the rules answer. Assumes nothing.
use mathlib.Core.Path.{◌≡◌, refl, ap, ap₂, sym, ◌∙◌}
use mathlib.Core.List.{List, [], ◌++◌}
use mathlib.Core.Option.{Option, none, some}
use Prim.Native.Nat.{ℕ, ◌≤◌}
use lib.ListN.{length, get_or, drop}
use Rattle.sets.specs.Sets.{full}
use Rattle.reading.specs.declared.Refusal.{Refusal}
use Rattle.reading.specs.Items.{spots}
use Rattle.std.specs.Prelude.{Result, Ok, Err}
use Rattle.jobfile.specs.declared.ReadChoice.{ReadChoice}
use Rattle.jobfile.specs.Meaning.{as_choice, choice_read}
use Rattle.jobfile.specs.Read.{read, read_job, choices}
use Rattle.network.specs.Network.{Network, listed}
use Rattle.network.specs.Groups.{Partition, groups_to}
use Rattle.filter.specs.Filter.{total, pass, set_aside, first_short, GoalsWithin}
use Rattle.network.proofs.GroupLaws.{groups-length, lent-right}
use Rattle.filter.proofs.GoalLaws.{goals-within}
use Rattle.network.proofs.ListedLaws.{groups-listed}
use Rattle.filter.proofs.WishLaws.{pass-listed, total-listed}
use Rattle.choice.specs.Choice.{selection, chosen}
use Rattle.choice.specs.Meaning.{Choice, chosen_by}
use Rattle.arguments.specs.Answers.{Answer, value, on_job, after_tests, answered, said, refusal_said, Left, leaving}
use Rattle.arguments.specs.Tests.{room_test, groups_test, pass_test, goals_test}
use Rattle.arguments.specs.Meaning.{verdict_of, network_in}
use Rattle.arguments.proofs.TestLaws.{test-refused, through, groups-passed, goals-passed}
use Rattle.calls.specs.Partition.{partition_in, partition_of}
use Rattle.calls.specs.Pass.{Passed, passed_for, pass_in, pass_of}
use Rattle.calls.specs.Choose.{Chosen, chosen_or, chosen_for, choose_in, choose_of, searched}
use Rattle.arguments.proofs.FileLaws.{file-down, job-down, on-job}
use Rattle.arguments.proofs.JobLaws.{ChoiceRead}

-- ---- the partition

module _ (f old : List ℕ) where
  abbrev left : Answer (List ℕ) → Left (Unit {0})
  left a = leaving (λ groups. groups) (λ groups. tt) old a

  pub partition-down : {v : Result ReadChoice Refusal} {x : Refusal} → v ≡ choice_read (read spots choices f) → v ≡ Err x → record { answer = refusal_said x; buffer = old } ≡ partition_of f old
  partition-down p q = ap left (job-down (λ job. partition_in job old) (file-down as_choice f choices p q))

  -- `size` bytes were demanded
  module _ (r : ReadChoice) (R : ChoiceRead f r) {v : Result (Unit {0}) Refusal} {size : ℕ} (room : v ≡ verdict_of (room_test (length old) size)) (as_read : size ≡ r.articles) where
    e : v ≡ verdict_of (room_test (length old) r.articles)
    e = room ∙ ap (λ (n : ℕ). verdict_of (room_test (length old) n)) as_read

    abbrev partition_over : Network → Answer (List ℕ)
    partition_over N = after_tests (room_test (length old) N.articles) (value (groups_to N N.articles))

    on-file : partition_over (network_in r) ≡ on_job (read_job choices f) (λ job. partition_in job old)
    on-file = ap partition_over R.network ∙ on-job (λ job. partition_in job old) R.is

    pub partition-short : {x : Refusal} → v ≡ Err x → record { answer = refusal_said x; buffer = old } ≡ partition_of f old
    partition-short q = ap left (test-refused (room_test (length old) r.articles) (value (groups_to (network_in r) r.articles)) e q ∙ on-file)

    -- the code looks at clashes only; the groups of `count` articles were made
    pub partition-made : {new : List ℕ} {count : ℕ} → v ≡ Ok tt → new ≡ groups_to (listed 64 [] r.clashes) count ++ drop count old → count ≡ r.articles → record { answer = answered tt; buffer = new } ≡ partition_of f old
    partition-made {new} q made all =
        let N = network_in r in
        let n = r.articles in
        let same : new ≡ groups_to N n ++ drop (length (groups_to N n)) old =
        made ∙ ap (λ (k : ℕ). groups_to (listed 64 [] r.clashes) k ++ drop k old) all ∙ ap₂ (λ (groups : List ℕ) (k : ℕ). groups ++ drop k old) (groups-listed 64 n [] r.wishes r.clashes n) (sym (groups-length N n)) in
        ap (λ (b : List ℕ). record { answer = answered tt; buffer = b }) same ∙ ap left (through (room_test (length old) n) (value (groups_to N n)) e q ∙ on-file)

-- ---- the pass

module _ (f groups : List ℕ) (live goal : ℕ) where
  pub pass-down : {v : Result ReadChoice Refusal} {x : Refusal} → v ≡ choice_read (read spots choices f) → v ≡ Err x → refusal_said x ≡ said (pass_of f groups live goal)
  pass-down p q = ap said (job-down (λ job. pass_in job groups live goal) (file-down as_choice f choices p q))

  module _ (r : ReadChoice) (R : ChoiceRead f r) {v : Result (Unit {0}) Refusal} (e : v ≡ verdict_of (groups_test (network_in r) groups)) where
    -- over a network and an order: what is made, after the tests
    abbrev made : Network → Answer Passed
    made N = value (passed_for N (λ u. get_or groups u 0) live goal)

    abbrev pass_over : Network → ℕ → Answer Passed
    pass_over N order = after_tests (groups_test N groups) (after_tests (pass_test N.articles order live goal) (made N))

    on-file-2 : pass_over (network_in r) r.order ≡ pass_of f groups live goal
    on-file-2 = ap₂ pass_over R.network R.wanted ∙ on-job (λ job. pass_in job groups live goal) R.is

    pub pass-groups : {x : Refusal} → v ≡ Err x → refusal_said x ≡ said (pass_of f groups live goal)
    pass-groups q = ap said (test-refused (groups_test (network_in r) groups) (after_tests (pass_test r.articles r.order live goal) (made (network_in r))) e q ∙ on-file-2)

    module _ (ok : v ≡ Ok tt) {t : Result (Unit {0}) Refusal} (h : t ≡ verdict_of (pass_test r.articles r.order live goal)) where
      after-groups : {a : Answer Passed} → a ≡ after_tests (pass_test r.articles r.order live goal) (made (network_in r)) → said a ≡ said (pass_of f groups live goal)
      after-groups k = ap said (k ∙ through (groups_test (network_in r) groups) (after_tests (pass_test r.articles r.order live goal) (made (network_in r))) e ok ∙ on-file-2)

      pub pass-goal : {x : Refusal} → t ≡ Err x → refusal_said x ≡ said (pass_of f groups live goal)
      pass-goal q = after-groups (test-refused (pass_test r.articles r.order live goal) (made (network_in r)) h q)

      -- the code looks at wishes only; the pass was made with this live set and this goal, and x and y are handed on
      pub pass-made : {x y left sum live' goal' : ℕ} → t ≡ Ok tt
          → left ≡ pass (listed r.articles r.wishes []) (λ u. get_or groups u 0) live' goal' → sum ≡ total (listed r.articles r.wishes []) (λ u. get_or groups u 0) live' goal' → live' ≡ live → goal' ≡ goal
          → x ≡ left → y ≡ sum → answered (record { live = x; sum = y }) ≡ said (pass_of f groups live goal)
      pass-made q p s same_live same-goal told counted =
          let N = listed r.articles r.wishes [] in
          let group : ℕ → ℕ = λ u. get_or groups u 0 in
          after-groups
          (ap₂ (λ (a b : ℕ). value (record { live = a; sum = b }))
          (told ∙ p ∙ ap₂ (pass N group) same_live same-goal ∙ pass-listed r.articles r.wishes [] r.clashes group live goal)
          (counted ∙ s ∙ ap₂ (total N group) same_live same-goal ∙ total-listed r.articles r.wishes [] r.clashes group live goal)
          ∙ through (pass_test r.articles r.order live goal) (made (network_in r)) h q)

-- ---- the choice

searched-by : (o : Option ℕ) (aside short : ℕ) → searched (chosen_by o aside short) ≡ chosen_or o aside short
searched-by none aside short = refl
searched-by (some x) aside short = refl

pub searched-is : (N : Network) (group : ℕ → ℕ) (goals : List ℕ) (order floor : ℕ) → searched (chosen N group goals order floor) ≡ chosen_for N group goals order floor
searched-is N group goals order floor = searched-by (selection N order floor) (set_aside N group goals) (first_short N group (full N.articles) goals)

module _ (f groups goals : List ℕ) (floor : ℕ) where
  pub choose-down : {v : Result ReadChoice Refusal} {x : Refusal} → v ≡ choice_read (read spots choices f) → v ≡ Err x → refusal_said x ≡ said (choose_of f groups goals floor)
  choose-down p q = ap said (job-down (λ job. choose_in job groups goals floor) (file-down as_choice f choices p q))

  module _ (r : ReadChoice) (R : ChoiceRead f r) {v : Result (Unit {0}) Refusal} (e : v ≡ verdict_of (groups_test (network_in r) groups)) where
    abbrev chosen_over : Network → ℕ → Answer Chosen
    chosen_over N order = chosen_for N (λ u. get_or groups u 0) goals order floor

    abbrev choose_over : Network → ℕ → Answer Chosen
    choose_over N order = after_tests (groups_test N groups) (after_tests (goals_test order goals) (chosen_over N order))

    on-file-3 : choose_over (network_in r) r.order ≡ choose_of f groups goals floor
    on-file-3 = ap₂ choose_over R.network R.wanted ∙ on-job (λ job. choose_in job groups goals floor) R.is

    pub choose-groups : {x : Refusal} → v ≡ Err x → refusal_said x ≡ said (choose_of f groups goals floor)
    choose-groups q = ap said (test-refused (groups_test (network_in r) groups) (after_tests (goals_test r.order goals) (chosen_over (network_in r) r.order)) e q ∙ on-file-3)

    module _ (ok : v ≡ Ok tt) {t : Result (Unit {0}) Refusal} (h : t ≡ verdict_of (goals_test r.order goals)) where
      after-partition : {a : Answer Chosen} → a ≡ after_tests (goals_test r.order goals) (chosen_over (network_in r) r.order) → said a ≡ said (choose_of f groups goals floor)
      after-partition k = ap said (k ∙ through (groups_test (network_in r) groups) (after_tests (goals_test r.order goals) (chosen_over (network_in r) r.order)) e ok ∙ on-file-3)

      pub choose-goals : {x : Refusal} → t ≡ Err x → refusal_said x ≡ said (choose_of f groups goals floor)
      choose-goals q = after-partition (test-refused (goals_test r.order goals) (chosen_over (network_in r) r.order) h q)

      -- the search was asked for what it requires
      pub choose-may : t ≡ Ok tt → (r.articles ≤ length groups) × Partition (network_in r) (λ u. get_or groups u 0) × GoalsWithin r.order goals
      choose-may q =
          let (room, right) = groups-passed (network_in r) groups e ok in
          (room, lent-right (network_in r) (λ u. get_or groups u 0) right, goals-within r.order goals (goals-passed r.order goals h q))

      -- it was made for this order and from this floor on
      pub choose-made : {c : Choice} {wanted from : ℕ} → t ≡ Ok tt → c ≡ chosen (network_in r) (λ u. get_or groups u 0) goals wanted from → wanted ≡ r.order → from ≡ floor
          → said (searched c) ≡ said (choose_of f groups goals floor)
      choose-made q p same-order same-floor =
          after-partition
          (ap searched (p ∙ ap₂ (chosen (network_in r) (λ u. get_or groups u 0) goals) same-order same-floor) ∙ searched-is (network_in r) (λ u. get_or groups u 0) goals r.order floor
          ∙ through (goals_test r.order goals) (chosen_over (network_in r) r.order) h q)
