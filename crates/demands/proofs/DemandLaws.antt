-- The tests of arguments and the ways to join them, each by the faults that it finds; what a call answers after its tests, on a file and with a
-- buffer. proofs/Demands.antt is made of these. Assumes nothing.
use mathlib.Core.Path.{◌≡◌, refl, sym, ap, ap₂, ◌∙◌, subst}
use mathlib.Core.Logic.{◌⊎◌, inl, inr, ⊎_elim}
use mathlib.Core.Bool.{Bool, true, false, not, ◌&&◌, ◌||◌, true≢false, false≢true}
use mathlib.Core.List.{List, [], ◌∷◌, ◌++◌}
use mathlib.Core.Option.{Option, none, some, none-ne-some, some-injective}
use Prim.Native.Nat.{ℕ, zero, suc, ◌+◌, ◌-◌, ◌/◌, ◌^◌, ◌≤◌, ◌<◌, zero-le}
use native.Mathlib.Nat.{le-div_iff_mul-le, one-mul, le_trans, le_antisymm, min-le_left}
use native.Mathlib.Decide.{dec_le}
use native.Mathlib.Omega.{arith}
use lib.Dec.{leb, ltb, eqb}
use lib.ListN.{length, get_or, take, drop, length-take}
use lib.Pow.{pow_pos, pow_mono}
use borrow.Author.Tests.{leb-true, le-leb, ltb-true, lt-ltb, eqb-true, eqb-false, eq-eqb, not-true}
use Rattle.sets.specs.Sets.{◌∈◌, without, part, full}
use Rattle.sets.specs.Ranges.{any_to}
use Rattle.sets.specs.Lists.{same_list}
use Rattle.sets.specs.First.{first_from, LeastFrom, Smallest}
use Rattle.sets.proofs.Ranges.{both_true, true-both, either_true, left-true, right-true, any_at, at-any}
use Rattle.sets.proofs.Lists.{list_same, agree}
use Rattle.sets.proofs.Bits.{bit-shift, in_without, top_in, yes-part, part_in}
use Rattle.sets.proofs.Lowest.{some-member}
use Rattle.sets.proofs.First.{first-none, none_first, first-smallest, smallest-first}
use Rattle.reading.specs.declared.Reason.{Reason}
use Rattle.reading.specs.declared.Reason.TheVariants.{OutOfRange, ShortBuffer, FalsePartition, LiveOutsideFile, BadGoal, NoPlan}
use Rattle.reading.specs.Reasons.{number_of, answers}
use Rattle.reading.specs.Got.{Got, got, refused}
use Rattle.jobfile.specs.Job.{Record, Job, names_of, size, wish_count, order, wishes, clashes, horizon}
use Rattle.jobfile.specs.Read.{read_job}
use Rattle.names.specs.Names.{Equal, same_name, lowest_named}
use Rattle.names.specs.Likeness.{alike}
use Rattle.names.proofs.EqualLaws.{same-equal, equal-same}
use Rattle.network.specs.Network.{Network, network_of, clash}
use Rattle.network.specs.Groups.{Partition, misplaced, first_misplaced}
use Rattle.filter.specs.Filter.{outside, bad_goal, first_bad, set_aside, first_short}
use Rattle.network.proofs.GroupLaws.{lent-right}
use Rattle.filter.proofs.GoalLaws.{goals-within}
use Rattle.choice.specs.Choice.{selection}
use Rattle.choice.proofs.Theorems.{none-exactly, the-smallest, set-aside}
use Rattle.planning.specs.Rounds.{fitting_of, fewest}
use Rattle.planning.proofs.PlanLaws.{fewest-none, fewest-some}
use Rattle.arguments.specs.Answers.{Answer, refusal, value, on_job, unless, unless_at, passed, after_tests, found_or, Said, refused_by, answered, said, accepted, leaving}
use Rattle.arguments.specs.Tests.{room_test, layer_test, groups_test, pass_test, goals_test}
use Rattle.arguments.specs.Meaning.{verdict_of}
use Rattle.arguments.proofs.TestLaws.{groups-passed, goals-passed}
use Rattle.demands.specs.Demands.{Exactly, Refuses, Says, Fault, FirstOf, Off, Wrong, absent_layer, short_buffer, Misplaced, false_partition, absent_article, Bad, wrong_goal, wrong_goals, Has, Alike, ChoiceKept, PlanKept}
use Rattle.calls.specs.Choose.{chosen_or, chosen_for, choose_in}
use Rattle.calls.specs.Plan.{plan_in, WordsIn}
use Rattle.demands.proofs.ReasonLaws.{file-no-answer}

-- ---- one after the other

pub exactly-then : {A B C : Type 0} → Exactly A B → Exactly B C → Exactly A C
exactly-then f g = (λ a. g.0 (f.0 a), λ c. f.1 (g.1 c))

pub same_number : {A : Type 0} {m n p q : ℕ} → ◌≡◌ {A = Said A} (refused_by m p) (refused_by n q) → m ≡ n
same_number e = cc

pub same_place : {A : Type 0} {m n p q : ℕ} → ◌≡◌ {A = Said A} (refused_by m p) (refused_by n q) → p ≡ q
same_place e = cc

pub one_value : {A : Type 0} {x y : A} → ◌≡◌ {A = Said A} (answered x) (answered y) → x ≡ y
one_value e = cc

pub no-refusal : {A : Type 0} {x : A} {n p : ℕ} → answered x ≡ refused_by n p → ⊥
no-refusal e = let z : ◌≡◌ {A = ℕ} 0 1 = cc in omega arith

-- ---- answers by the faults that turn a call down

-- input that is accepted is not turned down
taken_not : {A : Type 0} (s : Said A) → accepted s ≡ true → (number place : ℕ) → Refuses s number place → ⊥
taken_not (refused_by n p) t number place w = true≢false (sym t ∙ ap answers (same_number w.0) ∙ w.1)
taken_not (answered x) t number place w = no-refusal w.0

-- and input that is not turned down is accepted
not-turned-down : {A : Type 0} (s : Said A) → ((number place : ℕ) → Refuses s number place → ⊥) → accepted s ≡ true
not-turned-down (refused_by n p) h = go (answers n) refl
  where
    go : (t : Bool) → answers n ≡ t → answers n ≡ true
    go true e = e
    go false e = absurd (h n p (refl, e))
not-turned-down (answered x) h = refl

-- so it is accepted exactly if none of the ways in which a call is turned down is there
pub accepted-exactly : {A : Type 0} (s : Said A) {W : ℕ → ℕ → Type 0} → ((number place : ℕ) → Exactly (Refuses s number place) (W number place)) → Exactly (accepted s ≡ true) ((number place : ℕ) → W number place → ⊥)
accepted-exactly s h = (λ t number place w. taken_not s t number place ((h number place).1 w), λ none. not-turned-down s (λ number place r. none number place ((h number place).0 r)))

-- a call is turned down exactly for the first of these faults
pub record Tests {A : Type 0} (a : Answer A) (faults : List Fault) : Type 0 where
  pub exactly : (number place : ℕ) → Exactly (Refuses (said a) number place) (FirstOf faults number place)

-- an answer to input that is accepted has no fault
pub tests-end : {A : Type 0} (a : Answer A) → accepted (said a) ≡ true → Tests a []
tests-end a t = record { exactly = λ number place. (λ w. taken_not (said a) t number place w, λ w. absurd w) }

-- Tests taken together look for these faults. If a call accepts its input, they are passed. And it is turned down exactly for the first fault of a
-- list: these faults, and after them those for which what comes after the tests is turned down.
pub record Checks (t : Answer (Unit {0})) (faults : List Fault) : Type 1 where
  pub clear : {A : Type 0} (a : Answer A) → accepted (said (after_tests t a)) ≡ true → t ≡ passed
  pub tests : {A : Type 0} {a : Answer A} {more : List Fault} → Tests a more → Tests (after_tests t a) (faults ++ more)

pub checks-passed : Checks passed []
checks-passed = record { clear = λ a e. refl; tests = λ h. h }

-- a test that finds the place of a fault
pub checks-at : (o : Option ℕ) (At : ℕ → Type 0) (r : Reason) {t : Answer (Unit {0})} {faults : List Fault} → answers (number_of r) ≡ false → ((u : ℕ) → Exactly (o ≡ some u) (At u)) → Checks t faults
    → Checks (unless_at o r t) (record { At = At; number = number_of r } ∷ faults)
checks-at (some u) At r stops h c =
    record {
      clear = λ a e. absurd (true≢false (sym e ∙ stops));
      tests = λ rest. record {
        exactly = λ number place. (
          λ w. inl (sym (same_number w.0), (h place).0 (ap some (same_place w.0))),
          ⊎_elim
              (λ w. (ap₂ refused_by (sym w.0) (some-injective u place ((h place).1 w.1)), ap answers w.0 ∙ stops))
              (λ w. absurd (w.0 u ((h u).0 refl))),
        );
      };
    }
checks-at none At r stops h c =
    record {
      clear = λ a e. c.clear a e;
      tests = λ rest. record {
        exactly = λ number place. (
          λ w. inr (λ p at. none-ne-some p ((h p).1 at), ((c.tests rest).exactly number place).0 w),
          ⊎_elim (λ w. absurd (none-ne-some place ((h place).1 w.1))) (λ w. ((c.tests rest).exactly number place).1 w.1),
        );
      };
    }

-- a test whose fault has place 0
pub checks-unless : (b : Bool) (P : Type 0) (r : Reason) {t : Answer (Unit {0})} {faults : List Fault} → answers (number_of r) ≡ false → Exactly (b ≡ true) P → Checks t faults
    → Checks (unless b r t) (record { At = λ p. (p ≡ 0) × P; number = number_of r } ∷ faults)
checks-unless true P r stops h c = checks-at (some 0) (λ p. (p ≡ 0) × P) r stops (λ u. (λ e. (sym (some-injective 0 u e), h.0 refl), λ w. ap some (sym w.0))) c
checks-unless false P r stops h c = checks-at none (λ p. (p ≡ 0) × P) r stops (λ u. (λ e. absurd (none-ne-some u e), λ w. absurd (false≢true (h.1 w.1)))) c

-- so what comes after them is answered
pub one-pass : {t : Answer (Unit {0})} {faults : List Fault} → Checks t faults → {A : Type 0} (a : Answer A) → accepted (said (after_tests t a)) ≡ true → after_tests t a ≡ a
one-pass c a e = ap (λ t. after_tests t a) (c.clear a e)

-- of two one after the other, each is passed
pub both-clear : {t s : Answer (Unit {0})} {faults more : List Fault} → Checks t faults → Checks s more → {A : Type 0} (a : Answer A) → accepted (said (after_tests t (after_tests s a))) ≡ true → (t ≡ passed) × (s ≡ passed)
both-clear {s = s} c d a e = (c.clear (after_tests s a) e, d.clear a (sym (ap (λ b. accepted (said b)) (one-pass c (after_tests s a) e)) ∙ e))

pub both-pass : {t s : Answer (Unit {0})} {faults more : List Fault} → Checks t faults → Checks s more → {A : Type 0} (a : Answer A) → accepted (said (after_tests t (after_tests s a))) ≡ true → after_tests t (after_tests s a) ≡ a
both-pass c d a e = let (p, q) = both-clear c d a e in ap₂ (λ t s. after_tests t (after_tests s a)) p q

-- ---- each fault, as its test finds it

-- the first number that passes is the lowest that has the property
pub first-exactly : (test : ℕ → Bool) (P : ℕ → Type 0) (n : ℕ) → ((u : ℕ) → Exactly (test u ≡ true) (P u)) → (u : ℕ) → Exactly (first_from test n 0 ≡ some u) ((u < n) × P u × ((v : ℕ) → v < u → P v → ⊥))
first-exactly test P n h u = (to, back)
  where
    Here : ℕ → Type 0
    Here y = (y < n) × P y

    all : n - 0 ≡ n
    all = omega arith

    to : first_from test n 0 ≡ some u → (u < n) × P u × ((v : ℕ) → v < u → P v → ⊥)
    to e =
        let found : LeastFrom Here 0 u = subst (Smallest Here 0) (ap (λ (k : ℕ). first_from test k 0) all ∙ e) (first-smallest Here test n (λ y w. w.0) (λ y l t. (l, (h y).0 t)) (λ y w. (h y).1 w.1) 0) in
        let (l, p) = found.holds in
        (l, p, λ v k q. let f : ⊥ = omega (arith, found.least v (omega arith, q) zero-le) in f)

    back : (u < n) × P u × ((v : ℕ) → v < u → P v → ⊥) → first_from test n 0 ≡ some u
    back (l, p, least) =
        ap (λ (k : ℕ). first_from test k 0) (sym all)
        ∙ sym (smallest-first Here test n (λ y w. w.0) (λ y l t. (l, (h y).0 t)) (λ y w. (h y).1 w.1) 0 (some u) (record { holds = (l, p); above = zero-le; least = λ y w z. go y w.1 (dec_le u y) }))
      where
        go : (y : ℕ) → P y → Dec (u ≤ y) → u ≤ y
        go y q (yes k) = k
        go y q (no k) = absurd (least y (omega arith) q)

either-exactly : {a b : Bool} {P Q : Type 0} → Exactly (a ≡ true) P → Exactly (b ≡ true) Q → Exactly (a || b ≡ true) (P ⊎ Q)
either-exactly {a} {b} f g = (λ e. ⊎_elim (λ p. inl (f.0 p)) (λ q. inr (g.0 q)) (either_true a b e), ⊎_elim (λ p. left-true a b (f.1 p)) (λ q. right-true a b (g.1 q)))

pub below-exactly : (a b : ℕ) → Exactly (ltb a b ≡ true) (a < b)
below-exactly a b = (ltb-true a b, lt-ltb a b)

misplaced-exactly : (N : Network) (group : ℕ → ℕ) (u : ℕ) → Exactly (misplaced N group u ≡ true) (Misplaced N group u)
unfolding misplaced
misplaced-exactly N group u = either-exactly (leb-true N.articles (group u), le-leb N.articles (group u)) (to, back)
  where
    test : ℕ → Bool
    test v = eqb (group v) (group u) && not (clash N v u)

    to : any_to u test ≡ true → (v : ℕ) × (v < u) × (group v ≡ group u) × (clash N v u ≡ false)
    to e =
        let (v, l, t) = any_at u test e in
        let (p, q) = both_true (eqb (group v) (group u)) (not (clash N v u)) t in
        (v, l, eqb-true (group v) (group u) p, not-true (clash N v u) q)

    back : (v : ℕ) × (v < u) × (group v ≡ group u) × (clash N v u ≡ false) → any_to u test ≡ true
    back (v, l, p, q) = at-any u test v l (true-both (eqb (group v) (group u)) (not (clash N v u)) (eq-eqb (group v) (group u) p) (ap not q))

pub outside-exactly : (n live : ℕ) → Exactly (outside n live ≡ true) ((u : ℕ) × (n ≤ u) × (u ∈ live))
unfolding outside
outside-exactly n live = (to, back)
  where
    to : leb (2 ^ n) live ≡ true → (u : ℕ) × (n ≤ u) × (u ∈ live)
    to e =
        let h : 1 ≤ live / 2 ^ n = (le-div_iff_mul-le {k = 2 ^ n} (pow_pos n)).1 (rw (one-mul (2 ^ n)) (leb-true (2 ^ n) live e)) in
        let (i, m) = some-member (live / 2 ^ n) (λ z. let f : ⊥ = omega arith in f) in
        (n + i, omega arith, sym (bit-shift live n i) ∙ m)

    back : (u : ℕ) × (n ≤ u) × (u ∈ live) → leb (2 ^ n) live ≡ true
    back (u, l, m) = le-leb (2 ^ n) live (le_trans (pow_mono l) (top_in live u m))

bad-exactly : (order goal : ℕ) → Exactly (bad_goal order goal ≡ true) (Bad order goal)
unfolding bad_goal part
bad-exactly order goal = either-exactly (eqb-true goal 0, eq-eqb goal 0) (to, back)
  where
    to : not (part goal order) ≡ true → (i : ℕ) × (i ∈ goal) × (i ∈ order → ⊥)
    to e =
        let (i, m) = some-member (without goal order) (eqb-false (without goal order) 0 (not-true (part goal order) e)) in
        let (p, q) = in_without goal order i m in
        (i, p, λ o. let f : ⊥ = omega arith in f)

    back : (i : ℕ) × (i ∈ goal) × (i ∈ order → ⊥) → not (part goal order) ≡ true
    back (i, p, q) = go (part goal order) refl
      where
        go : (b : Bool) → part goal order ≡ b → not b ≡ true
        go true e = absurd (q (part_in goal order (yes-part goal order e) i p))
        go false e = refl

-- ---- the tests of what is lent

pub room-checks : (buffer : List ℕ) (size : ℕ) → Checks (room_test (length buffer) size) (short_buffer buffer size ∷ [])
room-checks buffer size = checks-unless (ltb (length buffer) size) (length buffer < size) ShortBuffer refl (below-exactly (length buffer) size) checks-passed

pub layer-checks : (k lowest highest : ℕ) (buffer : List ℕ) (size : ℕ) → Checks (layer_test k lowest highest (length buffer) size) (absent_layer k lowest highest ∷ short_buffer buffer size ∷ [])
layer-checks k lowest highest buffer size =
    checks-unless (ltb k lowest || ltb highest k) ((k < lowest) ⊎ (highest < k)) OutOfRange refl (either-exactly (below-exactly k lowest) (below-exactly highest k)) (room-checks buffer size)

pub groups-checks : (N : Network) (groups : List ℕ) → Checks (groups_test N groups) (short_buffer groups N.articles ∷ false_partition N groups ∷ [])
unfolding first_misplaced
groups-checks N groups =
    checks-unless (ltb (length groups) N.articles) (length groups < N.articles) ShortBuffer refl (below-exactly (length groups) N.articles)
    (checks-at (first_misplaced N group) (false_partition N groups).At FalsePartition refl (first-exactly (misplaced N group) (Misplaced N group) N.articles (misplaced-exactly N group)) checks-passed)
  where
    group : ℕ → ℕ
    group u = get_or groups u 0

pub pass-checks : (articles order live goal : ℕ) → Checks (pass_test articles order live goal) (absent_article articles live ∷ wrong_goal order goal ∷ [])
pass-checks articles order live goal =
    checks-unless (outside articles live) ((u : ℕ) × (articles ≤ u) × (u ∈ live)) LiveOutsideFile refl (outside-exactly articles live)
    (checks-unless (bad_goal order goal) (Bad order goal) BadGoal refl (bad-exactly order goal) checks-passed)

pub goals-checks : (order : ℕ) (goals : List ℕ) → Checks (goals_test order goals) (wrong_goals order goals ∷ [])
unfolding first_bad
goals-checks order goals =
    checks-at (first_bad order goals) (wrong_goals order goals).At BadGoal refl
    (first-exactly (λ i. bad_goal order (get_or goals i 0)) (λ i. Bad order (get_or goals i 0)) (length goals) (λ i. bad-exactly order (get_or goals i 0))) checks-passed

-- ---- a call on a file

module _ (takes : ℕ → Bool) (file : List ℕ) {A : Type 0} (call : Job (List ℕ) → Answer A) where
  abbrev on : Got (Job (List ℕ)) → Said A
  on g = said (on_job g call)

  -- the file is refused, or the call is turned down on the job that it states
  pub file-exactly : (number place : ℕ) (Found : Job (List ℕ) → Type 0) → ((job : Job (List ℕ)) (end : ℕ) → read_job takes file ≡ got job end → Exactly (Refuses (said (call job)) number place) (Found job))
      → Exactly (Refuses (on (read_job takes file)) number place) (Off takes file number place ⊎ ((job : Job (List ℕ)) × (end : ℕ) × (read_job takes file ≡ got job end) × Found job))
  file-exactly number place Found h = (to (read_job takes file) refl, ⊎_elim off (λ w. back w))
    where
      to : (g : Got (Job (List ℕ))) → read_job takes file ≡ g → Refuses (on g) number place → Off takes file number place ⊎ ((job : Job (List ℕ)) × (end : ℕ) × (read_job takes file ≡ got job end) × Found job)
      to (refused r p) e w = inl (r, e ∙ ap (λ (q : ℕ). refused r q) (same_place w.0), same_number w.0)
      to (got job end) e w = inr (job, end, e, (h job end e).0 w)

      off : Off takes file number place → Refuses (on (read_job takes file)) number place
      off (reason, e, n) = (ap on e ∙ ap (λ (k : ℕ). refused_by k place) n, ap answers (sym n) ∙ file-no-answer takes file e)

      back : (job : Job (List ℕ)) × (end : ℕ) × (read_job takes file ≡ got job end) × Found job → Refuses (on (read_job takes file)) number place
      back (job, end, e, w) = let (r, s) = (h job end e).1 w in (ap on e ∙ r, s)

  pub file-stated-tests : {faults : Job (List ℕ) → List Fault} → ((job : Job (List ℕ)) (end : ℕ) → read_job takes file ≡ got job end → Tests (call job) (faults job)) → (number place : ℕ)
      → Exactly (Refuses (on (read_job takes file)) number place) (Wrong takes file faults number place)
  file-stated-tests {faults} h number place = file-exactly number place (λ job. FirstOf (faults job) number place) (λ job end e. (h job end e).exactly number place)

  pub file-tests : {faults : Job (List ℕ) → List Fault} → ((job : Job (List ℕ)) → Tests (call job) (faults job)) → (number place : ℕ)
      → Exactly (Refuses (on (read_job takes file)) number place) (Wrong takes file faults number place)
  file-tests h = file-stated-tests (λ job end e. h job)

  -- if a call accepts its input, the file states a job, and the call is the one on that job
  pub file-taken : accepted (on (read_job takes file)) ≡ true → (job : Job (List ℕ)) × (end : ℕ) × (read_job takes file ≡ got job end) × (on_job (read_job takes file) call ≡ call job) × (accepted (said (call job)) ≡ true)
  file-taken t = go (read_job takes file) refl t
    where
      go : (g : Got (Job (List ℕ))) → read_job takes file ≡ g → accepted (on g) ≡ true → (job : Job (List ℕ)) × (end : ℕ) × (read_job takes file ≡ got job end) × (on_job (read_job takes file) call ≡ call job) × (accepted (said (call job)) ≡ true)
      go (refused reason place) e t = absurd (false≢true (sym (file-no-answer takes file e) ∙ t))
      go (got job end) e t = (job, end, e, ap (λ g. on_job g call) e, t)

-- a file that is refused is the only fault of a call whose other arguments have none
pub file-only : (takes : ℕ → Bool) (file : List ℕ) (number place : ℕ) → Exactly (Wrong takes file (λ job. []) number place) (Off takes file number place)
file-only takes file number place = (⊎_elim (λ e. e) (λ w. absurd w.3), λ e. inl e)

-- ---- a call that writes

module _ {A B : Type 0} (words : A → List ℕ) (told : A → B) (old : List ℕ) where
  -- it is turned down as what it writes is
  pub left-exactly : (a : Answer A) (number place : ℕ) → Exactly (Refuses (leaving words told old a).answer number place) (Refuses (said a) number place)
  left-exactly (refusal r p) number place = (λ w. (ap₂ refused_by (same_number w.0) (same_place w.0), w.1), λ w. (ap₂ refused_by (same_number w.0) (same_place w.0), w.1))
  left-exactly (value x) number place = (λ w. absurd (no-refusal w.0), λ w. absurd (no-refusal w.0))

  pub left-taken : (a : Answer A) → accepted (leaving words told old a).answer ≡ accepted (said a)
  left-taken (refusal r p) = refl
  left-taken (value x) = refl

  -- if it is turned down, nothing is written
  pub left-kept : (a : Answer A) {number place : ℕ} → (leaving words told old a).answer ≡ refused_by number place → (leaving words told old a).buffer ≡ old
  left-kept (refusal r p) e = refl
  left-kept (value x) e = absurd (no-refusal e)

  -- if it has a value, n words are written in front
  pub left-value : {a : Answer A} {x : A} {n : ℕ} → a ≡ value x → length (words x) ≡ n → ((leaving words told old a).answer ≡ answered (told x)) × ((leaving words told old a).buffer ≡ words x ++ drop n old)
  left-value {x = x} e l = (ap (λ (a : Answer A). (leaving words told old a).answer) e, ap (λ (a : Answer A). (leaving words told old a).buffer) e ∙ ap (λ (n : ℕ). words x ++ drop n old) l)

-- ---- what an accepted file states

-- after its records there is no name
pub name-past : (records : List (Record (List ℕ))) (i : ℕ) → length records ≤ i → get_or (names_of records) i [] ≡ []
name-past [] i l = refl
name-past (r ∷ records) zero l = absurd (omega arith)
name-past (r ∷ records) (suc i) l = name-past records i (omega arith)

-- ---- the choice

-- "no selection" is an answer to input that is accepted, and is never a value
pub chosen-taken : (o : Option ℕ) (aside short : ℕ) → accepted (said (chosen_or o aside short)) ≡ true
chosen-taken none aside short = refl
chosen-taken (some x) aside short = refl

-- it is told with the goal that falls short
pub chosen_none : (o : Option ℕ) (aside short place : ℕ) → Exactly (said (chosen_or o aside short) ≡ refused_by 14 place) ((o ≡ none) × (place ≡ short))
chosen_none none aside short place = (λ e. (refl, sym (same_place e)), λ (e, p). ap (λ (k : ℕ). refused_by 14 k) (sym p))
chosen_none (some x) aside short place = (λ e. absurd (no-refusal e), λ (e, p). absurd (none-ne-some x (sym e)))

module _ (groups goals : List ℕ) (floor : ℕ) where
  abbrev group : ℕ → ℕ
  group u = get_or groups u 0

  pub choice-is : (job : Job (List ℕ)) → accepted (said (choose_in job groups goals floor)) ≡ true
      → choose_in job groups goals floor ≡ chosen_for (network_of job) group goals (order job) floor
  choice-is job t = both-pass (groups-checks (network_of job) groups) (goals-checks (order job) goals) (chosen_for (network_of job) group goals (order job) floor) t

  -- a false partition and a bad goal are not accepted, so the filter and the search have what they ask for
  pub choice-lent : (job : Job (List ℕ)) → accepted (said (choose_in job groups goals floor)) ≡ true → (groups_test (network_of job) groups ≡ passed) × Partition (network_of job) group × (first_bad (order job) goals ≡ none)
  choice-lent job t =
      let N = network_of job in
      let (p, q) = both-clear (groups-checks N groups) (goals-checks (order job) goals) (chosen_for N group goals (order job) floor) t in
      (p, lent-right N group (groups-passed N groups refl (ap verdict_of p)).1, goals-passed (order job) goals refl (ap verdict_of q))

  pub choice-kept : (job : Job (List ℕ)) → accepted (said (choose_in job groups goals floor)) ≡ true → ChoiceKept job group goals floor (said (choose_in job groups goals floor))
  choice-kept job t = subst (λ a. ChoiceKept job group goals floor (said a)) (sym (choice-is job t)) (go (selection (network_of job) (order job) floor) refl)
    where
      short : ℕ
      short = first_short (network_of job) group (full (size job)) goals

      go : (s : Option ℕ) → selection (network_of job) (order job) floor ≡ s → ChoiceKept job group goals floor (said (chosen_or s (set_aside (network_of job) group goals) short))
      go none e = (refl, refl, none-exactly (network_of job) (order job) floor e)
      go (some x) e =
          let (p, ok, right) = choice-lent job t in
          (the-smallest (network_of job) (order job) floor x e, refl, set-aside (network_of job) group ok goals (goals-within (order job) goals right))

-- ---- the planner, and finding by name

pub found-taken : {A : Type 0} (o : Option A) (r : Reason) → answers (number_of r) ≡ true → accepted (said (found_or o r)) ≡ true
found-taken none r t = t
found-taken (some x) r t = refl

-- the reason is told exactly if nothing is found, and then at place 0
pub found_none : {A : Type 0} (o : Option A) (r : Reason) → (Says (said (found_or o r)) (number_of r) → o ≡ none) × (o ≡ none → said (found_or o r) ≡ refused_by (number_of r) 0)
found_none none r = (λ w. refl, λ e. refl)
found_none (some x) r = (λ w. absurd (no-refusal w.1), λ e. absurd (none-ne-some x (sym e)))

pub found_some : {A : Type 0} (o : Option A) (r : Reason) (x : A) → Exactly (said (found_or o r) ≡ answered x) (o ≡ some x)
found_some none r x = (λ e. absurd (no-refusal (sym e)), λ e. absurd (none-ne-some x e))
found_some (some y) r x = (λ e. ap some (one_value e), λ e. ap answered (some-injective y x e))

-- the lowest number with a name
pub lowest-exactly : (name : List ℕ) (job : Job (List ℕ)) (i : ℕ)
    → Exactly (lowest_named name (size job) (λ i. get_or (names_of job.records) i []) ≡ some i) (Has job name i × ((j : ℕ) → j < i → Has job name j → ⊥))
lowest-exactly [] job i = (λ e. absurd (none-ne-some i e), λ w. absurd (w.0.0 refl))
lowest-exactly (b ∷ bs) job i = (to, back)
  where
    names : ℕ → List ℕ
    names j = get_or (names_of job.records) j []

    some_byte : (b ∷ bs) ≡ [] → ⊥
    some_byte e = let z : ◌≡◌ {A = ℕ} 0 1 = cc in omega arith

    first : Exactly (first_from (λ j. same_name (names j) (b ∷ bs)) (size job) 0 ≡ some i) ((i < size job) × Equal (names i) (b ∷ bs) × ((j : ℕ) → j < i → Equal (names j) (b ∷ bs) → ⊥))
    first = first-exactly (λ j. same_name (names j) (b ∷ bs)) (λ j. Equal (names j) (b ∷ bs)) (size job) (λ j. (same-equal (names j) (b ∷ bs), equal-same (names j) (b ∷ bs))) i

    to : first_from (λ j. same_name (names j) (b ∷ bs)) (size job) 0 ≡ some i → Has job (b ∷ bs) i × ((j : ℕ) → j < i → Has job (b ∷ bs) j → ⊥)
    to e = let (l, p, least) = first.0 e in ((some_byte, l, p), λ j k w. least j k w.2)

    back : Has job (b ∷ bs) i × ((j : ℕ) → j < i → Has job (b ∷ bs) j → ⊥) → first_from (λ j. same_name (names j) (b ∷ bs)) (size job) 0 ≡ some i
    back ((s, l, p), least) = first.1 (l, p, λ j k q. least j k (some_byte, omega arith, q))

-- nobody has the name
pub nobody-exactly : (name : List ℕ) (job : Job (List ℕ)) → Exactly (lowest_named name (size job) (λ i. get_or (names_of job.records) i []) ≡ none) ((i : ℕ) → Has job name i → ⊥)
nobody-exactly [] job = (λ e i w. w.0 refl, λ h. refl)
nobody-exactly (b ∷ bs) job = (to, back)
  where
    named : ℕ → Bool
    named i = same_name (get_or (names_of job.records) i []) (b ∷ bs)

    to : first_from named (size job) 0 ≡ none → (i : ℕ) → Has job (b ∷ bs) i → ⊥
    to e i (s, l, p) = true≢false (sym (equal-same (get_or (names_of job.records) i []) (b ∷ bs) p) ∙ first-none named (size job) 0 e i (omega arith) (omega arith))

    back : ((i : ℕ) → Has job (b ∷ bs) i → ⊥) → first_from named (size job) 0 ≡ none
    back h = none_first named (size job) 0 (λ i l u. go i (omega arith) (named i) refl)
      where
        some_byte : (b ∷ bs) ≡ [] → ⊥
        some_byte e = let z : ◌≡◌ {A = ℕ} 0 1 = cc in omega arith

        go : (i : ℕ) → i < size job → (t : Bool) → named i ≡ t → named i ≡ false
        go i l true e = absurd (h i (some_byte, l, same-equal (get_or (names_of job.records) i []) (b ∷ bs) e))
        go i l false e = e

-- ---- comparing

pub alike-exactly : (a b : Job (List ℕ)) → Exactly (alike a b ≡ true) (Alike a b)
alike-exactly a b = (to, back)
  where
    to : alike a b ≡ true → Alike a b
    to e =
        let (p, e1) = both_true (eqb (size a) (size b)) _ e in
        let (q, e2) = both_true (eqb (wish_count a) (wish_count b)) _ e1 in
        let (r, e3) = both_true (eqb (order a) (order b)) _ e2 in
        let (s, t) = both_true (same_list (wishes a) (wishes b)) _ e3 in
        (eqb-true _ _ p, eqb-true _ _ q, eqb-true _ _ r, list_same (wishes a) (wishes b) s, list_same (clashes a) (clashes b) t)

    back : Alike a b → alike a b ≡ true
    back (p, q, r, s, t) =
        true-both (eqb (size a) (size b)) _ (eq-eqb _ _ p)
        (true-both (eqb (wish_count a) (wish_count b)) _ (eq-eqb _ _ q)
        (true-both (eqb (order a) (order b)) _ (eq-eqb _ _ r)
        (true-both (same_list (wishes a) (wishes b)) _ (sym (agree (wishes a) (wishes b) s)) (sym (agree (clashes a) (clashes b) t)))))

pub plan-is : (buffer : List ℕ) (job : Job (List ℕ)) → accepted (said (plan_in job buffer)) ≡ true → plan_in job buffer ≡ found_or (fewest (fitting_of job) (horizon job)) NoPlan
plan-is buffer job t = one-pass (room-checks buffer (horizon job)) (found_or (fewest (fitting_of job) (horizon job)) NoPlan) t

-- a front that has as many elements as were asked for
front-whole : (k : ℕ) (l : List ℕ) → k ≤ length (take k l) → length (take k l) ≡ k
front-whole k l h = le_antisymm (subst (λ (n : ℕ). n ≤ k) (sym (length-take k l)) (min-le_left k (length l))) h

module _ (old new : List ℕ) where
  -- a short buffer is not accepted; no plan has fewer rounds, so there are as many words as are answered
  pub plan-kept : (job : Job (List ℕ)) → accepted (said (plan_in job old)) ≡ true → WordsIn (fitting_of job) old new (plan_in job old) → PlanKept job old new (said (plan_in job old))
  plan-kept job t w = go (ltb (length old) (horizon job)) (fewest (fitting_of job) (horizon job)) refl t w
    where
      answer : Bool → Option ℕ → Answer ℕ
      answer short k = after_tests (unless short ShortBuffer passed) (found_or k NoPlan)

      go : (short : Bool) (k : Option ℕ) → fewest (fitting_of job) (horizon job) ≡ k → accepted (said (answer short k)) ≡ true → WordsIn (fitting_of job) old new (answer short k) → PlanKept job old new (said (answer short k))
      go true k e t w = absurd (false≢true t)
      go false none e t w = (refl, refl, fewest-none (fitting_of job) (horizon job) e, w)
      go false (some k) e t (plan, keep) = let (l, made, least) = fewest-some (fitting_of job) (horizon job) k e in (l, front-whole k new (least (take k new) plan), plan, least, keep)
