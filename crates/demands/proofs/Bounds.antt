-- What was asked of the bound on wishes, over file bytes, arguments and answers of the open calls. That the sum of a pass and the place of 14 are those
-- of the definitions is among the demands (`demand-2-pass`, `demand-2-choose`, `demand-3-choice`). Assumes nothing.
use mathlib.Core.Path.{◌≡◌, refl, sym, ap, ap₂, subst, ◌∙◌}
use mathlib.Core.Logic.{◌⊎◌, inl, inr}
use mathlib.Core.Bool.{Bool, true, false, not, ◌||◌, true≢false}
use mathlib.Core.List.{List, [], ◌∷◌}
use mathlib.Core.Option.{none}
use Prim.Native.Nat.{ℕ, suc, ◌*◌, ◌^◌, ◌≤◌, ◌<◌, zero-le}
use native.Mathlib.Decide.{dec_lt}
use native.Mathlib.Omega.{arith}
use lib.Dec.{eqb}
use lib.ListN.{length, get_or, take, get_or-eq_default}
use lib.Pow.{pow_pos}
use borrow.Author.Tests.{lt-leb, leb-false, eqb-true, eqb-false}
use Rattle.sets.specs.Sets.{◌⊆◌, part, full, count}
use Rattle.sets.proofs.Bits.{bit-empty, part-below, part-full, full-below}
use Rattle.sets.proofs.Lowest.{some-member}
use Rattle.sets.proofs.First.{first-none}
use Rattle.sets.proofs.Counts.{count-empty, count_less}
use Rattle.reading.specs.declared.Reason.TheVariants.{LiveOutsideFile, BadGoal}
use Rattle.reading.specs.Got.{got}
use Rattle.jobfile.specs.Job.{Job, size, order}
use Rattle.jobfile.specs.Read.{read_job, choices}
use Rattle.network.specs.Network.{Network, network_of, ClashFree, Covers, Selection}
use Rattle.network.specs.Groups.{Partition, groups_to, group_of}
use Rattle.filter.specs.Filter.{outside, bad_goal, first_bad, set_aside, first_short, live_before, sum_before, Short, FirstShort}
use Rattle.network.proofs.GroupLaws.{lent-right}
use Rattle.filter.proofs.FilterLaws.{passes-part}
use Rattle.filter.proofs.GoalLaws.{good-part, goals-within}
use Rattle.filter.proofs.BoundLaws.{total-most, first_short_lem, short-first, short-same, passes-next, total-bounds, falls-short-excludes, none-short, short-excludes, short-strikes-all, short-onward, all-struck-short}
use Rattle.choice.specs.Choice.{selection, sole_goal}
use Rattle.choice.proofs.Theorems.{none-exactly, exactly-none}
use Rattle.arguments.specs.Answers.{Answer, value, on_job, unless, passed, after_tests, refused_by, answered, said, accepted}
use Rattle.arguments.specs.Tests.{groups_test, pass_test}
use Rattle.arguments.specs.Meaning.{verdict_of}
use Rattle.arguments.proofs.TestLaws.{groups-passed, pass-passed}
use Rattle.calls.specs.Pass.{Passed, passed_for, pass_in, pass_of}
use Rattle.calls.specs.Choose.{Chosen, chosen_for, choose_in, choose_of}
use Rattle.calls.specs.Offer.{offer_in, offer_of}
use Rattle.demands.specs.Demands.{Exactly}
use Rattle.demands.proofs.DemandLaws.{one_value, both-clear, groups-checks, pass-checks, choice-is, choice-lent, chosen_none}

-- ---- what is lent

-- a goal that is in order has a wish
some-wish : (wanted goal : ℕ) → bad_goal wanted goal ≡ false → 0 < count goal
unfolding bad_goal
some-wish wanted goal e = go (eqb goal 0) refl e
  where
    go : (empty : Bool) → eqb goal 0 ≡ empty → empty || not (part goal wanted) ≡ false → 0 < count goal
    go true p q = absurd (true≢false q)
    go false p q = let (i, m) = some-member goal (eqb-false goal 0 p) in omega (arith, count_less goal i m)

-- each goal of an accepted list is in order
goal-right : (wanted : ℕ) (goals : List ℕ) → first_bad wanted goals ≡ none → (i : ℕ) → i < length goals → bad_goal wanted (get_or goals i 0) ≡ false
unfolding first_bad
goal-right wanted goals e i l = first-none (λ j. bad_goal wanted (get_or goals j 0)) (length goals) 0 e i (omega arith) (omega arith)

-- a live set within all articles is in order
within-file : (articles live : ℕ) → live ⊆ full articles → outside articles live ≡ false
unfolding outside
within-file articles live h = lt-leb (2 ^ articles) live (part-below articles live (full articles) h (full-below articles))

-- ---- a pass

-- its partition, its live set and its goal are in order; and this is what it leaves, and its sum
abbrev PassMade : Job (List ℕ) → List ℕ → ℕ → ℕ → Passed → Type 0
PassMade job groups live goal p = Partition (network_of job) (λ u. get_or groups u 0) × (live < 2 ^ size job) × (bad_goal (order job) goal ≡ false) × (p ≡ passed_for (network_of job) (λ u. get_or groups u 0) live goal)

pass-made : (file groups : List ℕ) (live goal : ℕ) {p : Passed} → said (pass_of file groups live goal) ≡ answered p → {job : Job (List ℕ)} {end : ℕ} → read_job choices file ≡ got job end → PassMade job groups live goal p
unfolding outside
pass-made file groups live goal {p} told {job} states =
    let N = network_of job in
    let made = value (passed_for N (λ u. get_or groups u 0) live goal) in
    let is : said (pass_in job groups live goal) ≡ answered p = sym (ap (λ g. said (on_job g (λ j. pass_in j groups live goal))) states) ∙ told in
    let (q, r) = both-clear (groups-checks N groups) (pass-checks (size job) (order job) live goal) made (ap accepted is) in
    let (within, good) = pass-passed (size job) (order job) live goal refl (ap verdict_of r) in (
      lent-right N (λ u. get_or groups u 0) (groups-passed N groups refl (ap verdict_of q)).1,
      leb-false (2 ^ size job) live within,
      good,
      one_value (sym is ∙ ap₂ (λ (a b : Answer (Unit {0})). said (after_tests a (after_tests b made))) q r),
    )

-- its sum is a bound: no clash-free set of live articles covers more wishes of its goal
pub pass-bounds : (file groups : List ℕ) (live goal : ℕ) {p : Passed} → said (pass_of file groups live goal) ≡ answered p → {job : Job (List ℕ)} {end : ℕ} → read_job choices file ≡ got job end
    → (x : ℕ) → ClashFree (network_of job) x → x ⊆ live → (wishes : ℕ) → wishes ⊆ goal → Covers (network_of job) x wishes → count wishes ≤ p.sum
pass-bounds file groups live goal told {job} states x free alive wishes w covers =
    let (ok, below, good, is) = pass-made file groups live goal told states in
    omega (arith, ap (λ (p : Passed). p.sum) is, total-bounds (network_of job) (λ u. get_or groups u 0) ok live goal x free alive wishes w covers)

-- it is no greater than it would be if every article were a group and carried the whole goal
pub pass-most : (file groups : List ℕ) (live goal : ℕ) {p : Passed} → said (pass_of file groups live goal) ≡ answered p → {job : Job (List ℕ)} {end : ℕ} → read_job choices file ≡ got job end
    → p.sum ≤ size job * count goal
pass-most file groups live goal told {job} states =
    let (ok, below, good, is) = pass-made file groups live goal told states in
    omega (arith, ap (λ (p : Passed). p.sum) is, total-most (network_of job) (λ u. get_or groups u 0) live goal)

-- a sum below the count of the goal rules out every selection that has no other articles than live ones
pub pass-excludes : (file groups : List ℕ) (live goal : ℕ) {p : Passed} → said (pass_of file groups live goal) ≡ answered p → p.sum < count goal
    → {job : Job (List ℕ)} {end : ℕ} → read_job choices file ≡ got job end → (x : ℕ) → Selection (network_of job) (order job) x → x ⊆ live → ⊥
pass-excludes file groups live goal told short {job} states x s alive =
    let (ok, below, good, is) = pass-made file groups live goal told states in
    falls-short-excludes (network_of job) (λ u. get_or groups u 0) ok live goal (omega (arith, ap (λ (p : Passed). p.sum) is, short)) (good-part (order job) goal good) s alive

-- such a pass leaves no article live, and only such a pass
pub pass-leaves-none : (file groups : List ℕ) (live goal : ℕ) {p : Passed} → said (pass_of file groups live goal) ≡ answered p
    → {job : Job (List ℕ)} {end : ℕ} → read_job choices file ≡ got job end → Exactly (p.sum < count goal) (p.live ≡ 0)
pass-leaves-none file groups live goal told {job} states =
    let (ok, below, good, is) = pass-made file groups live goal told states in
    let sum = ap (λ (p : Passed). p.sum) is in
    let left = ap (λ (p : Passed). p.live) is in (
      λ short. left ∙ short-strikes-all (network_of job) (λ u. get_or groups u 0) ok live goal (omega (arith, sum, short)),
      λ struck. omega (arith, sum, all-struck-short (network_of job) (λ u. get_or groups u 0) ok live goal below (some-wish (order job) goal good) (sym left ∙ struck)),
    )

-- ---- the choice

-- the call on the job of the file, after its tests
abbrev ChoiceMade : Job (List ℕ) → List ℕ → List ℕ → ℕ → Answer Chosen → Type 0
ChoiceMade job groups goals floor a =
    (a ≡ chosen_for (network_of job) (λ u. get_or groups u 0) goals (order job) floor) × (groups_test (network_of job) groups ≡ passed) × Partition (network_of job) (λ u. get_or groups u 0) × (first_bad (order job) goals ≡ none)

choice-made : (file groups goals : List ℕ) (floor : ℕ) → accepted (said (choose_of file groups goals floor)) ≡ true → {job : Job (List ℕ)} {end : ℕ} → read_job choices file ≡ got job end
    → ChoiceMade job groups goals floor (choose_of file groups goals floor)
choice-made file groups goals floor t {job} states =
    let i : choose_of file groups goals floor ≡ choose_in job groups goals floor = ap (λ g. on_job g (λ j. choose_in j groups goals floor)) states in
    let t' = sym (ap (λ a. accepted (said a)) i) ∙ t in
    let (q, ok, right) = choice-lent groups goals floor job t' in
    (i ∙ choice-is groups goals floor job t', q, ok, right)

-- 14 comes exactly if there is no selection at or above the floor; and then at exactly this place, in words: all articles are live at first, and each goal
-- is judged by its own pass
pub choose-place : (file groups goals : List ℕ) (floor : ℕ) → accepted (said (choose_of file groups goals floor)) ≡ true → {job : Job (List ℕ)} {end : ℕ} → read_job choices file ≡ got job end
    → (place : ℕ) → Exactly (said (choose_of file groups goals floor) ≡ refused_by 14 place) (((x : ℕ) → Selection (network_of job) (order job) x → floor ≤ x → ⊥) × FirstShort (network_of job) (λ u. get_or groups u 0) (full (size job)) goals place)
choose-place file groups goals floor t {job} states place =
    let N = network_of job in
    let group : ℕ → ℕ = λ u. get_or groups u 0 in
    let first = first_short N group (full (size job)) goals in
    let is = ap said (choice-made file groups goals floor t states).0 in
    let (to, back) = chosen_none (selection N (order job) floor) (set_aside N group goals) first place in (
      λ e. let (n, p) = to (sym is ∙ e) in (none-exactly N (order job) floor n, subst (FirstShort N group (full (size job)) goals) (sym p) (first_short_lem N group (full (size job)) goals)),
      λ (n, p). is ∙ back (exactly-none N (order job) floor n, short-same N group (full (size job)) goals place p),
    )

-- if the place is that of a goal, there is no selection, whatever its number, and whatever the floor of the call
pub choose-excludes : (file groups goals : List ℕ) (floor : ℕ) {place : ℕ} → said (choose_of file groups goals floor) ≡ refused_by 14 place → place < length goals
    → {job : Job (List ℕ)} {end : ℕ} → read_job choices file ≡ got job end → (x : ℕ) → Selection (network_of job) (order job) x → ⊥
choose-excludes file groups goals floor {place} told l {job} states x s =
    let group : ℕ → ℕ = λ u. get_or groups u 0 in
    let t = ap accepted told in
    let (is, q, ok, right) = choice-made file groups goals floor t states in
    let first = short-same (network_of job) group (full (size job)) goals place ((choose-place file groups goals floor t states place).0 told).1 in
    short-excludes (network_of job) group ok goals (goals-within (order job) goals right) (omega (arith, first, l)) x s

-- if there is a selection, whatever its number, and whatever the floor, no goal falls short
pub choose-none-short : (file groups goals : List ℕ) (floor : ℕ) → accepted (said (choose_of file groups goals floor)) ≡ true → {job : Job (List ℕ)} {end : ℕ} → read_job choices file ≡ got job end
    → (x : ℕ) → Selection (network_of job) (order job) x → (i : ℕ) → Short (network_of job) (λ u. get_or groups u 0) (full (size job)) goals i → ⊥
choose-none-short file groups goals floor t {job} states x s i short = go (dec_lt i (length goals))
  where
    go : Dec (i < length goals) → ⊥
    go (yes l) =
        let (is, q, ok, right) = choice-made file groups goals floor t states in
        let all = none-short (network_of job) (λ u. get_or groups u 0) ok s (full (size job)) goals (goals-within (order job) goals right) (part-full (size job) x s.within) in
        short-first (network_of job) (λ u. get_or groups u 0) (full (size job)) goals i (omega (arith, all, l)) short
    go (no d) = omega (arith, short, ap count (get_or-eq_default goals 0 (let past : length goals ≤ i = omega arith in past)), count-empty)

-- after a goal that falls short every later one does
pub choose-later : (file groups goals : List ℕ) (floor : ℕ) → accepted (said (choose_of file groups goals floor)) ≡ true → {job : Job (List ℕ)} {end : ℕ} → read_job choices file ≡ got job end
    → (i j : ℕ) → i < j → j < length goals → Short (network_of job) (λ u. get_or groups u 0) (full (size job)) goals i → Short (network_of job) (λ u. get_or groups u 0) (full (size job)) goals j
choose-later file groups goals floor t {job} states i j l k short =
    let (is, q, ok, right) = choice-made file groups goals floor t states in
    short-onward (network_of job) (λ u. get_or groups u 0) ok (full (size job)) goals i j l k (some-wish (order job) (get_or goals j 0) (goal-right (order job) goals right j k)) short

-- a caller can follow this by the call for a pass: made for goal i with what is live before it, it tells the sum of that goal, and what is live before the
-- next
pub choose-by-passes : (file groups goals : List ℕ) (floor : ℕ) → accepted (said (choose_of file groups goals floor)) ≡ true → {job : Job (List ℕ)} {end : ℕ} → read_job choices file ≡ got job end
    → (i : ℕ) → i < length goals
    → said (pass_of file groups (live_before (network_of job) (λ u. get_or groups u 0) (full (size job)) goals i) (get_or goals i 0))
    ≡ answered (record { live = live_before (network_of job) (λ u. get_or groups u 0) (full (size job)) goals (suc i); sum = sum_before (network_of job) (λ u. get_or groups u 0) (full (size job)) goals i })
choose-by-passes file groups goals floor t {job} states i l =
    let N = network_of job in
    let group : ℕ → ℕ = λ u. get_or groups u 0 in
    let live = live_before N group (full (size job)) goals i in
    let goal = get_or goals i 0 in
    let (is, q, ok, right) = choice-made file groups goals floor t states in
    let tested : pass_test (size job) (order job) live goal ≡ passed =
    ap₂ (λ (out bad : Bool). unless out LiveOutsideFile (unless bad BadGoal passed)) (within-file (size job) live (passes-part N group (full (size job)) (take i goals))) (goal-right (order job) goals right i l) in
    ap (λ g. said (on_job g (λ j. pass_in j groups live goal))) states
    ∙ ap₂ (λ (a b : Answer (Unit {0})). said (after_tests a (after_tests b (value (passed_for N group live goal))))) q tested
    ∙ ap (λ (x : ℕ). answered (record { live = x; sum = sum_before N group (full (size job)) goals i })) (sym (passes-next N group (full (size job)) goals i l))

-- ---- the program

-- nothing is ordered: there is a selection
none-ordered : (N : Network) → Selection N 0 0
none-ordered N = record { within = pow_pos N.articles; free = λ u v l eu ev. absurd (omega (arith, eu, bit-empty u)); covers = λ i. omega (arith, bit-empty i) }

-- our own partition, and the whole order as the only goal: 14 comes at 0 if the order falls short, and otherwise at 1
pub program-place : (file : List ℕ) {place : ℕ} → said (offer_of file) ≡ refused_by 14 place → {job : Job (List ℕ)} {end : ℕ} → read_job choices file ≡ got job end
    → ((place ≡ 0) × Short (network_of job) (group_of (network_of job)) (full (size job)) (order job ∷ []) 0)
    ⊎ ((place ≡ 1) × (Short (network_of job) (group_of (network_of job)) (full (size job)) (order job ∷ []) 0 → ⊥))
unfolding group_of
program-place file {place} told {job} states = go (eqb (order job) 0) refl ((choose-place file groups (sole_goal (order job)) 0 (ap accepted same) states place).0 same)
  where
    groups : List ℕ
    groups = groups_to (network_of job) (size job)

    group : ℕ → ℕ
    group u = get_or groups u 0

    same : said (choose_of file groups (sole_goal (order job)) 0) ≡ refused_by 14 place
    same = ap (λ g. said (on_job g (λ j. choose_in j groups (sole_goal (order job)) 0))) states ∙ sym (ap (λ g. said (on_job g (λ j. offer_in j))) states) ∙ told

    goals_by : Bool → List ℕ
    goals_by empty = elim empty as (λ t. List ℕ) [ true ↦ [] | false ↦ order job ∷ [] ]

    Falls : Type 0
    Falls = Short (network_of job) group (full (size job)) (order job ∷ []) 0

    one : FirstShort (network_of job) group (full (size job)) (order job ∷ []) place → ((place ≡ 0) × Falls) ⊎ ((place ≡ 1) × (Falls → ⊥))
    one (inl (l, s), before) = let z : place ≡ 0 = omega arith in inl (z, subst (Short (network_of job) group (full (size job)) (order job ∷ [])) z s)
    one (inr k, before) = inr (k, before 0 (omega arith))

    go : (empty : Bool) → eqb (order job) 0 ≡ empty → ((x : ℕ) → Selection (network_of job) (order job) x → 0 ≤ x → ⊥) × FirstShort (network_of job) group (full (size job)) (goals_by empty) place
        → ((place ≡ 0) × Falls) ⊎ ((place ≡ 1) × (Falls → ⊥))
    go true e (nothing, at) = absurd (nothing 0 (subst (λ (o : ℕ). Selection (network_of job) o 0) (sym (eqb-true (order job) 0 e)) (none-ordered (network_of job))) zero-le)
    go false e (nothing, at) = one at
