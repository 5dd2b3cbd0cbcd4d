-- What the verdict on tests tells a call: if it refuses, its refusal is the answer; if it accepts, the tests are passed and the answer is what
-- comes after them. Assumes nothing.
use mathlib.Core.Path.{◌≡◌, refl, sym, ap, ap₂, ◌∙◌}
use mathlib.Core.Bool.{Bool, true, false, ◌||◌}
use mathlib.Core.List.{List}
use mathlib.Core.Option.{Option, none, some}
use Prim.Native.Nat.{ℕ, ◌≤◌}
use native.Mathlib.Omega.{arith}
use lib.Dec.{leb, ltb}
use lib.ListN.{length, get_or, length-map}
use borrow.Author.Tests.{ltb-false}
use Rattle.sets.proofs.Ranges.{neither}
use Rattle.reading.specs.declared.Reason.{Reason}
use Rattle.reading.specs.declared.Reason.TheVariants.{OutOfRange, ShortBuffer, FalsePartition, LiveOutsideFile, BadGoal}
use Rattle.reading.specs.declared.Refusal.{Refusal}
use Rattle.reading.specs.declared.Spot.{Spot}
use Rattle.reading.specs.Got.{got}
use Rattle.std.specs.Prelude.{Result, Ok, Err}
use Rattle.jobfile.specs.Job.{Job, column, size, wishes, clashes, prices}
use Rattle.jobfile.specs.Meaning.{as_choice, Few}
use Rattle.jobfile.proofs.NamingLaws.{job_by, column-by, after-by}
use Rattle.jobfile.proofs.StatedLaws.{column-length}
use Rattle.jobfile.proofs.ReadLaws.{padded-at}
use Rattle.network.specs.Network.{Network, listed, network_of}
use Rattle.network.specs.Groups.{first_misplaced}
use Rattle.filter.specs.Filter.{outside, bad_goal, first_bad}
use Rattle.network.proofs.ListedLaws.{padded-network}
use Rattle.arguments.specs.Answers.{Answer, refusal, value, unless, unless_at, passed, after_tests}
use Rattle.arguments.specs.Tests.{article_test, room_test, layer_test, groups_test, pass_test, goals_test}
use Rattle.arguments.specs.Meaning.{verdict_of, network_in}

-- ---- what a call answers

pub test-refused : {A : Type 0} (t : Answer (Unit {0})) {v : Result (Unit {0}) Refusal} {x : Refusal} (a : Answer A) → v ≡ verdict_of t → v ≡ Err x → refusal x.reason x.place ≡ after_tests t a
test-refused {A} (refusal reason place) {v} {x} a h k =
    let told : Refusal = record { reason = reason; place = place } in
    let p : x ≡ told = cc in
    ap {B = Answer A} (λ (y : Refusal). refusal y.reason y.place) p
test-refused (value u) a h k = let z : ◌≡◌ {A = ℕ} 0 1 = cc in absurd (omega arith)

pub through : {A : Type 0} (t : Answer (Unit {0})) {v : Result (Unit {0}) Refusal} (a : Answer A) → v ≡ verdict_of t → v ≡ Ok tt → a ≡ after_tests t a
through (refusal reason place) a h k = let z : ◌≡◌ {A = ℕ} 0 1 = cc in absurd (omega arith)
through (value u) a h k = refl

-- ---- what is true if the tests are passed

-- one test is passed, and so are those after it
unless-passed : (fault : Bool) (reason : Reason) (t : Answer (Unit {0})) {v : Result (Unit {0}) Refusal} → v ≡ verdict_of (unless fault reason t) → v ≡ Ok tt → (fault ≡ false) × (v ≡ verdict_of t)
unless-passed true reason t h k = let z : ◌≡◌ {A = ℕ} 0 1 = cc in absurd (omega arith)
unless-passed false reason t h k = (refl, h)

at-passed : (place : Option ℕ) (reason : Reason) (t : Answer (Unit {0})) {v : Result (Unit {0}) Refusal} → v ≡ verdict_of (unless_at place reason t) → v ≡ Ok tt → place ≡ none
at-passed none reason t h k = refl
at-passed (some i) reason t h k = let z : ◌≡◌ {A = ℕ} 0 1 = cc in absurd (omega arith)

pub article-passed : (article articles : ℕ) {v : Result (Unit {0}) Refusal} → v ≡ verdict_of (article_test article articles) → v ≡ Ok tt → leb articles article ≡ false
article-passed article articles h k = (unless-passed (leb articles article) OutOfRange passed h k).0

pub room-passed : (len size : ℕ) {v : Result (Unit {0}) Refusal} → v ≡ verdict_of (room_test len size) → v ≡ Ok tt → size ≤ len
room-passed len size h k = ltb-false len size (unless-passed (ltb len size) ShortBuffer passed h k).0

pub layer-passed : (k lowest highest len size : ℕ) {v : Result (Unit {0}) Refusal} → v ≡ verdict_of (layer_test k lowest highest len size) → v ≡ Ok tt → (lowest ≤ k) × (k ≤ highest) × (size ≤ len)
layer-passed k lowest highest len size h a =
    let (fine, rest) = unless-passed (ltb k lowest || ltb highest k) OutOfRange (room_test len size) h a in
    let (low, high) = neither (ltb k lowest) (ltb highest k) fine in
    (ltb-false k lowest low, ltb-false highest k high, room-passed len size rest a)

pub groups-passed : (N : Network) (groups : List ℕ) {v : Result (Unit {0}) Refusal} → v ≡ verdict_of (groups_test N groups) → v ≡ Ok tt → (N.articles ≤ length groups) × (first_misplaced N (λ u. get_or groups u 0) ≡ none)
groups-passed N groups h a =
    let misplaced = first_misplaced N (λ u. get_or groups u 0) in
    let (long, rest) = unless-passed (ltb (length groups) N.articles) ShortBuffer (unless_at misplaced FalsePartition passed) h a in
    (ltb-false (length groups) N.articles long, at-passed misplaced FalsePartition passed rest a)

pub goals-passed : (order : ℕ) (goals : List ℕ) {v : Result (Unit {0}) Refusal} → v ≡ verdict_of (goals_test order goals) → v ≡ Ok tt → first_bad order goals ≡ none
goals-passed order goals h a = at-passed (first_bad order goals) BadGoal passed h a

pub pass-passed : (articles order live goal : ℕ) {v : Result (Unit {0}) Refusal} → v ≡ verdict_of (pass_test articles order live goal) → v ≡ Ok tt → (outside articles live ≡ false) × (bad_goal order goal ≡ false)
pass-passed articles order live goal h a =
    let (within, rest) = unless-passed (outside articles live) LiveOutsideFile (unless (bad_goal order goal) BadGoal passed) h a in
    (within, (unless-passed (bad_goal order goal) BadGoal passed rest a).0)

-- ---- the network that the code has of a choice file

-- it is that of the job: zeros after the articles are not looked at, nor is what names are taken for
pub network-same : (f : List ℕ) (job : Job Spot) (end : ℕ) → Few 64 (got job end) → network_in (as_choice job) ≡ network_of (job_by f job)
network-same f job end few =
    let room : (k : ℕ) → length (column k job.records) ≤ 64 = λ k. omega (arith, column-length k job.records, few.0, few.1) in
    padded-network (size job) 64 (wishes job) (clashes job) (room 0) (room 1)
    ∙ sym (ap₂ (listed (size job)) (column-by f 0 job.records) (column-by f 1 job.records))

-- and its prices are those of the job
pub price-same : (f : List ℕ) (job : Job Spot) (end : ℕ) → Few 64 (got job end) → (i : ℕ) → get_or (as_choice job).prices i 0 ≡ get_or (prices (job_by f job)) i 0
price-same f job end few i =
    padded-at 64 (prices job) (omega (arith, length-map job.records (λ r. get_or r.after 0 0), few.0, few.1)) i ∙ sym (ap (λ (l : List ℕ). get_or l i 0) (after-by f 0 job.records))
