-- The user's demands, clause by clause and in the user's order, over file bytes, arguments, answers and buffers of the open calls. What a call says
-- is what its contract states (`said (pass_of ..)`, `partition_of .. .answer`, ..: each call's contract is an equation with it). Assumes nothing.
use mathlib.Core.Path.{◌≡◌, refl, sym, ap, ◌∙◌, subst}
use mathlib.Core.Logic.{◌⊎◌}
use mathlib.Core.Bool.{Bool, true}
use mathlib.Core.List.{List, [], ◌∷◌, ◌++◌}
use Prim.Native.Nat.{ℕ, ◌*◌, ◌≤◌, ◌<◌}
use native.Mathlib.Omega.{arith}
use lib.ListN.{length, get_or, take, drop}
use Rattle.sets.specs.Sets.{full}
use Rattle.reading.specs.declared.Reason.{Reason}
use Rattle.reading.specs.declared.Reason.TheVariants.{WrongKind, EndsEarly, OverLimit, ForbiddenBit, EmptyField, AbsentMember, LongName, TrailingBytes, OutOfRange, ShortBuffer, FalsePartition, LiveOutsideFile, BadGoal, NoSelection, NoPlan, NameNotFound, HighRate, OrderOutsideFile}
use Rattle.reading.specs.Reasons.{number_of}
use Rattle.reading.specs.Got.{Got, got, refused}
use Rattle.reading.proofs.Reasons.{number-tells}
use Rattle.jobfile.specs.Job.{Job, names_of, size, order, horizon}
use Rattle.jobfile.specs.Read.{read, read_job, choices, fittings, either}
use Rattle.jobfile.specs.Write.{write}
use Rattle.jobfile.specs.Valid.{Bytes, Valid}
use Rattle.jobfile.specs.Meaning.{spot_in, name_in}
use Rattle.jobfile.proofs.NamingLaws.{name-at-spot}
use Rattle.reading.specs.Items.{spots}
use Rattle.jobfile.proofs.Theorems.{exact-and-valid, kind-taken, read_back, one-writing}
use Rattle.jobfile.proofs.StatedLaws.{choice-stated}
use Rattle.names.specs.Names.{lowest_named}
use Rattle.names.specs.Likeness.{alike}
use Rattle.network.specs.Network.{Selection, network_of}
use Rattle.network.specs.Groups.{Partition, groups_to, group_of}
use Rattle.filter.specs.Filter.{total, pass, set_aside, first_short}
use Rattle.network.proofs.GroupLaws.{groups-length, groups-right}
use Rattle.choice.specs.Choice.{selection}
use Rattle.choice.proofs.Theorems.{none-exactly, exactly-none}
use Rattle.planning.specs.Rounds.{fitting_of, Plan, fewest}
use Rattle.planning.specs.Layers.{fact_layer, round_layer}
use Rattle.planning.proofs.PlanLaws.{fewest-none, none-fewest}
use Rattle.layers.proofs.LayerCode.{facts-length, rounds-length}
use Rattle.arguments.specs.Answers.{Answer, refusal, value, on_job, refused_by, answered, said, accepted}
use Rattle.changes.specs.Change.{Change, is_absent, new_file}
use Rattle.drafts.specs.Draft.{draft_in, draft_of, room_for}
use Rattle.pricing.specs.Prices.{cheapest}
use Rattle.bill.specs.Price.{price_by, billed, price_in, price_of, price_words_of}
use Rattle.calls.specs.Partition.{partition_in, partition_of}
use Rattle.calls.specs.Pass.{passed_for, pass_in, pass_of}
use Rattle.calls.specs.Choose.{chosen_or, choose_in, choose_of}
use Rattle.calls.specs.Layers.{fact_layer_in, fact_layer_of, round_layer_in, round_layer_of}
use Rattle.calls.specs.Plan.{plan_in, plan_of, WordsIn, Buffer}
use Rattle.calls.specs.Name.{name_of}
use Rattle.calls.specs.Find.{find_in, find_of}
use Rattle.calls.specs.Compare.{compare_of}
use Rattle.calls.specs.Save.{save_of}
use Rattle.fair.specs.Fair.{order_in, entries, fair_in, fair_of}
use Rattle.fair.proofs.EntryLaws.{entries-length}
use Rattle.demands.specs.Demands.{Exactly, Refuses, Says, Off, Wrong, absent_layer, short_buffer, false_partition, absent_article, wrong_goal, wrong_goals, high_rate, Has, Alike, ChoiceKept, PlanKept}
use Rattle.demands.specs.Saving.{Given, wrong_saving}
use Rattle.demands.proofs.ReasonLaws.{file-reason}
use Rattle.demands.proofs.DemandLaws.{exactly-then, tests-end, accepted-exactly, one-pass, both-pass, room-checks, layer-checks, groups-checks, pass-checks, goals-checks, file-exactly, file-tests, file-stated-tests, file-taken, file-only, left-exactly, left-taken, left-kept, left-value, name-past, chosen-taken, chosen_none, choice-is, choice-kept, found-taken, found_none, found_some, lowest-exactly, nobody-exactly, alike-exactly, plan-is, plan-kept}
use Rattle.demands.proofs.PriceLaws.{words-refused, rate-checks, bill-taken}
use Rattle.demands.proofs.SaveLaws.{change-tests, room-on, saved-value}

-- ---- demand 1

-- the numbers of the rules, and no two reasons have one
pub demand-1-numbers : (number_of WrongKind ≡ 1) × (number_of EndsEarly ≡ 2) × (number_of OverLimit ≡ 3) × (number_of ForbiddenBit ≡ 4) × (number_of EmptyField ≡ 5) × (number_of AbsentMember ≡ 6) × (number_of LongName ≡ 7) × (number_of TrailingBytes ≡ 8) × (number_of OutOfRange ≡ 9) × (number_of ShortBuffer ≡ 10) × (number_of FalsePartition ≡ 11) × (number_of LiveOutsideFile ≡ 12) × (number_of BadGoal ≡ 13) × (number_of NoSelection ≡ 14) × (number_of NoPlan ≡ 15) × (number_of NameNotFound ≡ 16) × (number_of HighRate ≡ 17) × (number_of OrderOutsideFile ≡ 18)
demand-1-numbers = (refl, refl, refl, refl, refl, refl, refl, refl, refl, refl, refl, refl, refl, refl, refl, refl, refl, refl)

pub demand-1-one-number : (r s : Reason) → number_of r ≡ number_of s → r ≡ s
demand-1-one-number r s e = number-tells r s e

-- files that are turned down: those that are not the writing of a valid job of a kind that the call takes
pub demand-1-files : (takes : ℕ → Bool) (file : List ℕ) → Bytes file
    → Exactly ((reason : Reason) × (place : ℕ) × (read_job takes file ≡ refused reason place)) ((job : Job (List ℕ)) → Valid job → takes job.kind ≡ true → file ≡ write job → ⊥)
demand-1-files takes file bytes = (λ w job ok t e. absurd (no_value (sym w.2 ∙ ap (read_job takes) e ∙ read_back takes job ok t)), λ h. go h (read_job takes file) refl)
  where
    no_value : {reason : Reason} {place : ℕ} {job : Job (List ℕ)} {end : ℕ} → refused reason place ≡ got job end → ⊥
    no_value e = let z : ◌≡◌ {A = ℕ} 0 1 = cc in omega arith

    go : ((job : Job (List ℕ)) → Valid job → takes job.kind ≡ true → file ≡ write job → ⊥) → (g : Got (Job (List ℕ))) → read_job takes file ≡ g → (reason : Reason) × (place : ℕ) × (read_job takes file ≡ refused reason place)
    go h (refused reason place) e = (reason, place, e)
    go h (got job end) e = let (w, ok) = exact-and-valid takes file bytes e in absurd (h job ok (kind-taken takes file bytes e) w)

-- by reasons 1 to 8
pub demand-1-file-numbers : (takes : ℕ → Bool) (file : List ℕ) {reason : Reason} {place : ℕ} → read_job takes file ≡ refused reason place → number_of reason ≤ 8
demand-1-file-numbers takes file e = file-reason takes file e

-- what else is turned down: a layer or an article that the file does not have, a buffer that is too short, a wrong partition, a wrong goal. A call
-- turns its input down exactly for the first of these, the file before the arguments, and the arguments by the numbers
pub demand-1-partition : (file buffer : List ℕ) (number place : ℕ) → Exactly (Refuses (partition_of file buffer).answer number place) (Wrong choices file (λ job. short_buffer buffer (size job) ∷ []) number place)
demand-1-partition file buffer number place =
    exactly-then (left-exactly (λ groups. groups) (λ groups. tt) buffer (on_job (read_job choices file) (λ job. partition_in job buffer)) number place)
    (file-tests choices file (λ job. partition_in job buffer) (λ job. (room-checks buffer (size job)).tests (tests-end (value (groups_to (network_of job) (size job))) refl)) number place)

pub demand-1-pass : (file groups : List ℕ) (live goal : ℕ) (number place : ℕ)
    → Exactly (Refuses (said (pass_of file groups live goal)) number place) (Wrong choices file (λ job. short_buffer groups (size job) ∷ false_partition (network_of job) groups ∷ absent_article (size job) live ∷ wrong_goal (order job) goal ∷ []) number place)
demand-1-pass file groups live goal =
    file-tests choices file (λ job. pass_in job groups live goal) (λ job.
    (groups-checks (network_of job) groups).tests
    ((pass-checks (size job) (order job) live goal).tests (tests-end (value (passed_for (network_of job) (λ u. get_or groups u 0) live goal)) refl)))

pub demand-1-choose : (file groups goals : List ℕ) (floor : ℕ) (number place : ℕ)
    → Exactly (Refuses (said (choose_of file groups goals floor)) number place) (Wrong choices file (λ job. short_buffer groups (size job) ∷ false_partition (network_of job) groups ∷ wrong_goals (order job) goals ∷ []) number place)
demand-1-choose file groups goals floor =
    file-tests choices file (λ job. choose_in job groups goals floor) (λ job.
    (groups-checks (network_of job) groups).tests ((goals-checks (order job) goals).tests (tests-end _ (chosen-taken (selection (network_of job) (order job) floor) _ _))))

pub demand-1-fair : (file orders buffer : List ℕ) (number place : ℕ) → Exactly (Refuses (fair_of file orders buffer).answer number place) (Wrong choices file (λ job. short_buffer buffer (3 * length orders) ∷ []) number place)
demand-1-fair file orders buffer number place =
    exactly-then (left-exactly (λ words. words) (λ words. tt) buffer (on_job (read_job choices file) (λ job. fair_in job orders buffer)) number place)
    (file-tests choices file (λ job. fair_in job orders buffer) (λ job. (room-checks buffer (3 * length orders)).tests (tests-end (value (entries (order_in job) orders)) refl)) number place)

pub demand-1-fact-layer : (file buffer : List ℕ) (k : ℕ) (number place : ℕ)
    → Exactly (Refuses (fact_layer_of file k buffer).answer number place) (Wrong fittings file (λ job. absent_layer k 0 (horizon job) ∷ short_buffer buffer 32 ∷ []) number place)
demand-1-fact-layer file buffer k number place =
    exactly-then (left-exactly (λ layer. layer.words) (λ layer. layer.members) buffer (on_job (read_job fittings file) (λ job. fact_layer_in job k buffer)) number place)
    (file-tests fittings file (λ job. fact_layer_in job k buffer) (λ job. (layer-checks k 0 (horizon job) buffer 32).tests (tests-end (value (fact_layer 32 (fitting_of job) k)) refl)) number place)

pub demand-1-round-layer : (file buffer : List ℕ) (k : ℕ) (number place : ℕ)
    → Exactly (Refuses (round_layer_of file k buffer).answer number place) (Wrong fittings file (λ job. absent_layer k 1 (horizon job) ∷ short_buffer buffer 64 ∷ []) number place)
demand-1-round-layer file buffer k number place =
    exactly-then (left-exactly (λ layer. layer.words) (λ layer. layer.members) buffer (on_job (read_job fittings file) (λ job. round_layer_in job k buffer)) number place)
    (file-tests fittings file (λ job. round_layer_in job k buffer) (λ job. (layer-checks k 1 (horizon job) buffer 64).tests (tests-end (value (round_layer 32 (fitting_of job) k)) refl)) number place)

pub demand-1-plan : (file buffer : List ℕ) (number place : ℕ) → Exactly (Refuses (said (plan_of file buffer)) number place) (Wrong fittings file (λ job. short_buffer buffer (horizon job) ∷ []) number place)
demand-1-plan file buffer =
    file-tests fittings file (λ job. plan_in job buffer) (λ job. (room-checks buffer (horizon job)).tests (tests-end _ (found-taken (fewest (fitting_of job) (horizon job)) NoPlan refl)))

pub demand-1-find : (file name : List ℕ) (number place : ℕ) → Exactly (Refuses (said (find_of file name)) number place) (Wrong either file (λ job. []) number place)
demand-1-find file name = file-tests either file (λ job. find_in job name) (λ job. tests-end _ (found-taken (lowest_named name (size job) (λ i. get_or (names_of job.records) i [])) NameNotFound refl))

pub demand-1-price : (file : List ℕ) (rate : ℕ) (number place : ℕ) → Exactly (Refuses (said (price_words_of file rate)) number place) (Wrong choices file (λ job. high_rate rate ∷ []) number place)
demand-1-price file rate number place =
    exactly-then (words-refused (price_of file rate) number place)
    (file-tests choices file (λ job. price_in job rate) (λ job. (rate-checks rate).tests (tests-end _ (bill-taken (cheapest (network_of job) (price_by job) (order job)) (billed (size job) (price_by job) rate)))) number place)

-- saving: the old file, then what is wrong with the change, then the buffer for the new file
pub demand-1-save : (file : List ℕ) (change : Change) (buffer : List ℕ) → Bytes file → Given change → (number place : ℕ)
    → Exactly (Refuses (save_of file change buffer).answer number place) (Wrong choices file (wrong_saving change buffer) number place)
demand-1-save file change buffer bytes given number place =
    exactly-then (left-exactly (λ new. new) (λ new. length new) buffer (room_for buffer (draft_of file change)) number place)
    (subst (λ a. Exactly (Refuses (said a) number place) (Wrong choices file (wrong_saving change buffer) number place)) (sym (room-on buffer (read_job choices file) (draft_in change)))
    (file-stated-tests choices file (λ job. room_for buffer (draft_in change job)) (λ job end e. change-tests job (choice-stated file bytes e) buffer change given) number place))

-- the comparison: the first file, then the second
pub demand-1-compare : (first second : List ℕ) (number place : ℕ)
    → Exactly (Refuses (said (compare_of first second)) number place) (Off choices first number place ⊎ ((job : Job (List ℕ)) × (end : ℕ) × (read_job choices first ≡ got job end) × Off choices second number place))
demand-1-compare first second number place =
    file-exactly choices first (λ a. on_job (read_job choices second) (λ b. value (alike a b))) number place (λ job. Off choices second number place) (λ a end e.
    exactly-then (file-tests choices second (λ b. value (alike a b)) (λ b. tests-end (value (alike a b)) refl) number place) (file-only choices second number place))

-- a refusal leaves the buffer as it was, 14 to 16 included
pub demand-1-partition-kept : (file buffer : List ℕ) {number place : ℕ} → (partition_of file buffer).answer ≡ refused_by number place → (partition_of file buffer).buffer ≡ buffer
demand-1-partition-kept file buffer e = left-kept (λ groups. groups) (λ groups. tt) buffer (on_job (read_job choices file) (λ job. partition_in job buffer)) e

pub demand-1-fair-kept : (file orders buffer : List ℕ) {number place : ℕ} → (fair_of file orders buffer).answer ≡ refused_by number place → (fair_of file orders buffer).buffer ≡ buffer
demand-1-fair-kept file orders buffer e = left-kept (λ words. words) (λ words. tt) buffer (on_job (read_job choices file) (λ job. fair_in job orders buffer)) e

pub demand-1-fact-layer-kept : (file buffer : List ℕ) (k : ℕ) {number place : ℕ} → (fact_layer_of file k buffer).answer ≡ refused_by number place → (fact_layer_of file k buffer).buffer ≡ buffer
demand-1-fact-layer-kept file buffer k e = left-kept (λ layer. layer.words) (λ layer. layer.members) buffer (on_job (read_job fittings file) (λ job. fact_layer_in job k buffer)) e

pub demand-1-round-layer-kept : (file buffer : List ℕ) (k : ℕ) {number place : ℕ} → (round_layer_of file k buffer).answer ≡ refused_by number place → (round_layer_of file k buffer).buffer ≡ buffer
demand-1-round-layer-kept file buffer k e = left-kept (λ layer. layer.words) (λ layer. layer.members) buffer (on_job (read_job fittings file) (λ job. round_layer_in job k buffer)) e

pub demand-1-plan-kept : (file old new : List ℕ) {number place : ℕ} → Buffer (read_job fittings file) old new (plan_of file old) → said (plan_of file old) ≡ refused_by number place → new ≡ old
demand-1-plan-kept file old new {number} {place} b e = go (read_job fittings file) (plan_of file old) b e
  where
    go : (g : Got (Job (List ℕ))) (a : Answer ℕ) → Buffer g old new a → said a ≡ refused_by number place → new ≡ old
    go (refused r p) a b e = b
    go (got job end) (refusal r p) b e = b
    go (got job end) (value k) b e = let z : ◌≡◌ {A = ℕ} 0 1 = cc in absurd (omega arith)

pub demand-1-save-kept : (file : List ℕ) (change : Change) (buffer : List ℕ) {number place : ℕ} → (save_of file change buffer).answer ≡ refused_by number place → (save_of file change buffer).buffer ≡ buffer
demand-1-save-kept file change buffer e = left-kept (λ new. new) (λ new. length new) buffer (room_for buffer (draft_of file change)) e

-- the call for a name never refuses: it answers the empty name
pub demand-1-name : (file : List ℕ) (number : ℕ) {reason : Reason} {place : ℕ} → read_job either file ≡ refused reason place → name_of file number ≡ []
demand-1-name file number e = ap (λ g. name_in g number) e

pub demand-1-name-absent : (file : List ℕ) (number : ℕ) → Bytes file → {job : Job (List ℕ)} {end : ℕ} → read_job either file ≡ got job end → size job ≤ number → name_of file number ≡ []
demand-1-name-absent file number bytes {job} e l =
    let ok : Valid job = (exact-and-valid either file bytes e).1 in
    ap (λ g. name_in g number) e ∙ name-past job.records number (omega (arith, ok.size))

-- otherwise it gives the name of that article or step, empty if there is none, and always a part of the file's own bytes
pub demand-1-name-result : (file : List ℕ) (number : ℕ) {job : Job (List ℕ)} {end : ℕ} → read_job either file ≡ got job end → name_of file number ≡ get_or (names_of job.records) number []
demand-1-name-result file number e = ap (λ g. name_in g number) e

pub demand-1-name-part : (file : List ℕ) (number : ℕ) → (start len : ℕ) × (name_of file number ≡ take len (drop start file))
demand-1-name-part file number = let spot = spot_in (read spots either file) number in (spot.start, spot.len, name-at-spot file either number)

-- accepted is exactly the input that a call does not turn down; 14 to 16 are answers to accepted input
pub demand-1-partition-else : (file buffer : List ℕ) → Exactly (accepted (partition_of file buffer).answer ≡ true) ((number place : ℕ) → Wrong choices file (λ job. short_buffer buffer (size job) ∷ []) number place → ⊥)
demand-1-partition-else file buffer = accepted-exactly (partition_of file buffer).answer (demand-1-partition file buffer)

pub demand-1-pass-else : (file groups : List ℕ) (live goal : ℕ)
    → Exactly (accepted (said (pass_of file groups live goal)) ≡ true) ((number place : ℕ) → Wrong choices file (λ job. short_buffer groups (size job) ∷ false_partition (network_of job) groups ∷ absent_article (size job) live ∷ wrong_goal (order job) goal ∷ []) number place → ⊥)
demand-1-pass-else file groups live goal = accepted-exactly (said (pass_of file groups live goal)) (demand-1-pass file groups live goal)

pub demand-1-choose-else : (file groups goals : List ℕ) (floor : ℕ)
    → Exactly (accepted (said (choose_of file groups goals floor)) ≡ true) ((number place : ℕ) → Wrong choices file (λ job. short_buffer groups (size job) ∷ false_partition (network_of job) groups ∷ wrong_goals (order job) goals ∷ []) number place → ⊥)
demand-1-choose-else file groups goals floor = accepted-exactly (said (choose_of file groups goals floor)) (demand-1-choose file groups goals floor)

pub demand-1-price-else : (file : List ℕ) (rate : ℕ) → Exactly (accepted (said (price_words_of file rate)) ≡ true) ((number place : ℕ) → Wrong choices file (λ job. high_rate rate ∷ []) number place → ⊥)
demand-1-price-else file rate = accepted-exactly (said (price_words_of file rate)) (demand-1-price file rate)

pub demand-1-fair-else : (file orders buffer : List ℕ) → Exactly (accepted (fair_of file orders buffer).answer ≡ true) ((number place : ℕ) → Wrong choices file (λ job. short_buffer buffer (3 * length orders) ∷ []) number place → ⊥)
demand-1-fair-else file orders buffer = accepted-exactly (fair_of file orders buffer).answer (demand-1-fair file orders buffer)

pub demand-1-fact-layer-else : (file buffer : List ℕ) (k : ℕ)
    → Exactly (accepted (fact_layer_of file k buffer).answer ≡ true) ((number place : ℕ) → Wrong fittings file (λ job. absent_layer k 0 (horizon job) ∷ short_buffer buffer 32 ∷ []) number place → ⊥)
demand-1-fact-layer-else file buffer k = accepted-exactly (fact_layer_of file k buffer).answer (demand-1-fact-layer file buffer k)

pub demand-1-round-layer-else : (file buffer : List ℕ) (k : ℕ)
    → Exactly (accepted (round_layer_of file k buffer).answer ≡ true) ((number place : ℕ) → Wrong fittings file (λ job. absent_layer k 1 (horizon job) ∷ short_buffer buffer 64 ∷ []) number place → ⊥)
demand-1-round-layer-else file buffer k = accepted-exactly (round_layer_of file k buffer).answer (demand-1-round-layer file buffer k)

pub demand-1-plan-else : (file buffer : List ℕ) → Exactly (accepted (said (plan_of file buffer)) ≡ true) ((number place : ℕ) → Wrong fittings file (λ job. short_buffer buffer (horizon job) ∷ []) number place → ⊥)
demand-1-plan-else file buffer = accepted-exactly (said (plan_of file buffer)) (demand-1-plan file buffer)

pub demand-1-find-else : (file name : List ℕ) → Exactly (accepted (said (find_of file name)) ≡ true) ((number place : ℕ) → Wrong either file (λ job. []) number place → ⊥)
demand-1-find-else file name = accepted-exactly (said (find_of file name)) (demand-1-find file name)

pub demand-1-compare-else : (first second : List ℕ)
    → Exactly (accepted (said (compare_of first second)) ≡ true) ((number place : ℕ) → Off choices first number place ⊎ ((job : Job (List ℕ)) × (end : ℕ) × (read_job choices first ≡ got job end) × Off choices second number place) → ⊥)
demand-1-compare-else first second = accepted-exactly (said (compare_of first second)) (demand-1-compare first second)

pub demand-1-save-else : (file : List ℕ) (change : Change) (buffer : List ℕ) → Bytes file → Given change
    → Exactly (accepted (save_of file change buffer).answer ≡ true) ((number place : ℕ) → Wrong choices file (wrong_saving change buffer) number place → ⊥)
demand-1-save-else file change buffer bytes given = accepted-exactly (save_of file change buffer).answer (demand-1-save file change buffer bytes given)

-- what finding and comparing answer; the other calls are those of demands 2 and 3
pub demand-1-find-result : (file name : List ℕ) → accepted (said (find_of file name)) ≡ true → (job : Job (List ℕ)) × (end : ℕ) × (read_job either file ≡ got job end) × (said (find_of file name) ≡ said (find_in job name))
demand-1-find-result file name t = let (job, end, e, i, s) = file-taken either file (λ job. find_in job name) t in (job, end, e, ap said i)

-- the lowest number with a name
pub demand-1-find-lowest : (file name : List ℕ) {job : Job (List ℕ)} {end : ℕ} → read_job either file ≡ got job end → (i : ℕ) → Exactly (said (find_of file name) ≡ answered i) (Has job name i × ((j : ℕ) → j < i → Has job name j → ⊥))
demand-1-find-lowest file name {job} e i =
    let is : said (find_of file name) ≡ said (find_in job name) = ap (λ g. said (on_job g (λ job. find_in job name))) e in
    let some = found_some (lowest_named name (size job) (λ i. get_or (names_of job.records) i [])) NameNotFound i in
    exactly-then (λ r. some.0 (sym is ∙ r), λ s. is ∙ some.1 s) (lowest-exactly name job i)

-- and 16 exactly if nobody has it
pub demand-1-find-none : (file name : List ℕ) {job : Job (List ℕ)} {end : ℕ} → read_job either file ≡ got job end → Exactly (said (find_of file name) ≡ refused_by 16 0) ((i : ℕ) → Has job name i → ⊥)
demand-1-find-none file name {job} e =
    let is : said (find_of file name) ≡ said (find_in job name) = ap (λ g. said (on_job g (λ job. find_in job name))) e in
    let (to, back) = found_none (lowest_named name (size job) (λ i. get_or (names_of job.records) i [])) NameNotFound in
    exactly-then (λ r. to (0, sym is ∙ r), λ s. is ∙ back s) (nobody-exactly name job)

pub demand-1-alike : (a b : Job (List ℕ)) → Exactly (alike a b ≡ true) (Alike a b)
demand-1-alike a b = alike-exactly a b

pub demand-1-compare-result : (first second : List ℕ) → accepted (said (compare_of first second)) ≡ true
    → (a b : Job (List ℕ)) × (m n : ℕ) × (read_job choices first ≡ got a m) × (read_job choices second ≡ got b n) × (said (compare_of first second) ≡ answered (alike a b))
demand-1-compare-result first second t =
    let (a, m, e, i, s) = file-taken choices first (λ a. on_job (read_job choices second) (λ b. value (alike a b))) t in
    let (b, n, h, j, r) = file-taken choices second (λ b. value (alike a b)) s in
    (a, b, m, n, e, h, ap said (i ∙ j))

-- ---- demand 2: on accepted input, each result is its definition on the job that the file states

-- reading: an accepted file is the writing of its job, which is valid
pub demand-2-reading : (takes : ℕ → Bool) (file : List ℕ) → Bytes file → {job : Job (List ℕ)} {end : ℕ} → read_job takes file ≡ got job end → (file ≡ write job) × Valid job
demand-2-reading takes file bytes e = exact-and-valid takes file bytes e

-- and the writing of every valid job is accepted and reads back as that job
pub demand-2-read-back : (takes : ℕ → Bool) (job : Job (List ℕ)) → Valid job → takes job.kind ≡ true → read_job takes (write job) ≡ got job (length (write job))
demand-2-read-back takes job ok t = read_back takes job ok t

-- our partition, at the front of the buffer, with the later bytes as they were; it is one
pub demand-2-partition : (file buffer : List ℕ) → accepted (partition_of file buffer).answer ≡ true
    → (job : Job (List ℕ)) × (end : ℕ) × (read_job choices file ≡ got job end) × ((partition_of file buffer).answer ≡ answered tt) × ((partition_of file buffer).buffer ≡ groups_to (network_of job) (size job) ++ drop (size job) buffer) × Partition (network_of job) (group_of (network_of job))
demand-2-partition file buffer t =
    let a = on_job (read_job choices file) (λ job. partition_in job buffer) in
    let (job, end, e, i, s) = file-taken choices file (λ job. partition_in job buffer) (sym (left-taken (λ groups. groups) (λ groups. tt) buffer a) ∙ t) in
    let (p, q) = left-value (λ groups. groups) (λ groups. tt) buffer (i ∙ one-pass (room-checks buffer (size job)) _ s) (groups-length (network_of job) (size job)) in
    (job, end, e, p, q, groups-right (network_of job))

-- a pass of the filter: what it leaves live, and the sum of all contributions before it
pub demand-2-pass : (file groups : List ℕ) (live goal : ℕ) → accepted (said (pass_of file groups live goal)) ≡ true
    → (job : Job (List ℕ)) × (end : ℕ) × (read_job choices file ≡ got job end) × (said (pass_of file groups live goal) ≡ answered (record { live = pass (network_of job) (λ u. get_or groups u 0) live goal; sum = total (network_of job) (λ u. get_or groups u 0) live goal }))
demand-2-pass file groups live goal t =
    let (job, end, e, i, s) = file-taken choices file (λ job. pass_in job groups live goal) t in
    (job, end, e, ap said (i ∙ both-pass (groups-checks (network_of job) groups) (pass-checks (size job) (order job) live goal) _ s))

-- the choice: the smallest selection with the set aside; or 14, with its place
pub demand-2-choose : (file groups goals : List ℕ) (floor : ℕ) → accepted (said (choose_of file groups goals floor)) ≡ true
    → (job : Job (List ℕ)) × (end : ℕ) × (read_job choices file ≡ got job end) × (said (choose_of file groups goals floor) ≡ said (chosen_or (selection (network_of job) (order job) floor) (set_aside (network_of job) (λ u. get_or groups u 0) goals) (first_short (network_of job) (λ u. get_or groups u 0) (full (size job)) goals)))
demand-2-choose file groups goals floor t =
    let (job, end, e, i, s) = file-taken choices file (λ job. choose_in job groups goals floor) t in
    (job, end, e, ap said (i ∙ choice-is groups goals floor job s))

-- a fair's orders: an entry for each, in its order, with the later words as they were
pub demand-2-fair : (file orders buffer : List ℕ) → accepted (fair_of file orders buffer).answer ≡ true
    → (job : Job (List ℕ)) × (end : ℕ) × (read_job choices file ≡ got job end) × ((fair_of file orders buffer).answer ≡ answered tt) × ((fair_of file orders buffer).buffer ≡ entries (order_in job) orders ++ drop (3 * length orders) buffer)
demand-2-fair file orders buffer t =
    let a = on_job (read_job choices file) (λ job. fair_in job orders buffer) in
    let (job, end, e, i, s) = file-taken choices file (λ job. fair_in job orders buffer) (sym (left-taken (λ words. words) (λ words. tt) buffer a) ∙ t) in
    let (p, q) = left-value (λ words. words) (λ words. tt) buffer (i ∙ one-pass (room-checks buffer (3 * length orders)) _ s) (entries-length (order_in job) orders) in
    (job, end, e, p, q)

-- the layers
pub demand-2-fact-layer : (file buffer : List ℕ) (k : ℕ) → accepted (fact_layer_of file k buffer).answer ≡ true
    → (job : Job (List ℕ)) × (end : ℕ) × (read_job fittings file ≡ got job end) × ((fact_layer_of file k buffer).answer ≡ answered (fact_layer 32 (fitting_of job) k).members) × ((fact_layer_of file k buffer).buffer ≡ (fact_layer 32 (fitting_of job) k).words ++ drop 32 buffer)
demand-2-fact-layer file buffer k t =
    let a = on_job (read_job fittings file) (λ job. fact_layer_in job k buffer) in
    let (job, end, e, i, s) = file-taken fittings file (λ job. fact_layer_in job k buffer) (sym (left-taken (λ layer. layer.words) (λ layer. layer.members) buffer a) ∙ t) in
    let (p, q) = left-value (λ layer. layer.words) (λ layer. layer.members) buffer (i ∙ one-pass (layer-checks k 0 (horizon job) buffer 32) _ s) (facts-length 32 (fitting_of job) k) in
    (job, end, e, p, q)

pub demand-2-round-layer : (file buffer : List ℕ) (k : ℕ) → accepted (round_layer_of file k buffer).answer ≡ true
    → (job : Job (List ℕ)) × (end : ℕ) × (read_job fittings file ≡ got job end) × ((round_layer_of file k buffer).answer ≡ answered (round_layer 32 (fitting_of job) k).members) × ((round_layer_of file k buffer).buffer ≡ (round_layer 32 (fitting_of job) k).words ++ drop 64 buffer)
demand-2-round-layer file buffer k t =
    let a = on_job (read_job fittings file) (λ job. round_layer_in job k buffer) in
    let (job, end, e, i, s) = file-taken fittings file (λ job. round_layer_in job k buffer) (sym (left-taken (λ layer. layer.words) (λ layer. layer.members) buffer a) ∙ t) in
    let (p, q) = left-value (λ layer. layer.words) (λ layer. layer.members) buffer (i ∙ one-pass (layer-checks k 1 (horizon job) buffer 64) _ s) (rounds-length 32 (fitting_of job) k) in
    (job, end, e, p, q)

-- the new file of the job with a change, at the front of the buffer, with the later bytes as they were
pub demand-2-save : (file : List ℕ) (change : Change) (buffer : List ℕ) → accepted (save_of file change buffer).answer ≡ true
    → (job : Job (List ℕ)) × (end : ℕ) × (read_job choices file ≡ got job end) × ((save_of file change buffer).answer ≡ answered (length (new_file change job))) × ((save_of file change buffer).buffer ≡ new_file change job ++ drop (length (new_file change job)) buffer)
demand-2-save file change buffer t =
    let call : Job (List ℕ) → Answer (List ℕ) = λ job. room_for buffer (draft_in change job) in
    let same = room-on buffer (read_job choices file) (draft_in change) in
    let (job, end, e, i, s) = file-taken choices file call (sym (ap (λ a. accepted (said a)) same) ∙ sym (left-taken (λ new. new) (λ new. length new) buffer (room_for buffer (draft_of file change))) ∙ t) in
    let (p, q) = left-value (λ new. new) (λ new. length new) buffer (same ∙ i ∙ saved-value buffer (is_absent change job) (new_file change job) s) refl in
    (job, end, e, p, q)

-- accepted files of one job are one file
pub demand-2-one-writing : (takes takes' : ℕ → Bool) (f g : List ℕ) → Bytes f → Bytes g → {job : Job (List ℕ)} {m n : ℕ} → read_job takes f ≡ got job m → read_job takes' g ≡ got job n → f ≡ g
demand-2-one-writing takes takes' f g bf bg p q = one-writing takes takes' f g bf bg p q

-- ---- demand 3

-- the choice, on accepted input: the clauses of `ChoiceKept`
pub demand-3-choice : (file groups goals : List ℕ) (floor : ℕ) → accepted (said (choose_of file groups goals floor)) ≡ true
    → (job : Job (List ℕ)) × (end : ℕ) × (read_job choices file ≡ got job end) × ChoiceKept job (λ u. get_or groups u 0) goals floor (said (choose_of file groups goals floor))
demand-3-choice file groups goals floor t =
    let (job, end, e, i, s) = file-taken choices file (λ job. choose_in job groups goals floor) t in
    (job, end, e, subst (λ a. ChoiceKept job (λ u. get_or groups u 0) goals floor (said a)) (sym i) (choice-kept groups goals floor job s))

-- it says that there is none exactly if there is none
pub demand-3-no-selection : (file groups goals : List ℕ) (floor : ℕ) → accepted (said (choose_of file groups goals floor)) ≡ true → {job : Job (List ℕ)} {end : ℕ} → read_job choices file ≡ got job end
    → Exactly (Says (said (choose_of file groups goals floor)) 14) ((x : ℕ) → Selection (network_of job) (order job) x → floor ≤ x → ⊥)
demand-3-no-selection file groups goals floor t {job} e =
    let i : choose_of file groups goals floor ≡ choose_in job groups goals floor = ap (λ g. on_job g (λ job. choose_in job groups goals floor)) e in
    let is = i ∙ choice-is groups goals floor job (sym (ap (λ a. accepted (said a)) i) ∙ t) in
    let short = first_short (network_of job) (λ u. get_or groups u 0) (full (size job)) goals in
    let told = chosen_none (selection (network_of job) (order job) floor) (set_aside (network_of job) (λ u. get_or groups u 0) goals) short in
    (λ (place, r). none-exactly (network_of job) (order job) floor ((told place).0 (sym (ap said is) ∙ r)).0, λ h. (short, ap said is ∙ (told short).1 (exactly-none (network_of job) (order job) floor h, refl)))

-- the planner, on accepted input: the clauses of `PlanKept`. `Buffer` is what the contract says of the words, old before the call and new after it
pub demand-3-plan : (file old new : List ℕ) → accepted (said (plan_of file old)) ≡ true → Buffer (read_job fittings file) old new (plan_of file old)
    → (job : Job (List ℕ)) × (end : ℕ) × (read_job fittings file ≡ got job end) × PlanKept job old new (said (plan_of file old))
demand-3-plan file old new t b =
    let (job, end, e, i, s) = file-taken fittings file (λ job. plan_in job old) t in
    let w : WordsIn (fitting_of job) old new (plan_in job old) = subst (λ g. Buffer g old new (on_job g (λ job. plan_in job old))) e b in
    (job, end, e, subst (λ a. PlanKept job old new (said a)) (sym i) (plan-kept old new job s w))

-- it says that there is none exactly if there is none within the horizon
pub demand-3-no-plan : (file buffer : List ℕ) → accepted (said (plan_of file buffer)) ≡ true → {job : Job (List ℕ)} {end : ℕ} → read_job fittings file ≡ got job end
    → Exactly (Says (said (plan_of file buffer)) 15) ((rs : List ℕ) → Plan (fitting_of job) rs → length rs ≤ horizon job → ⊥)
demand-3-no-plan file buffer t {job} e =
    let i : plan_of file buffer ≡ plan_in job buffer = ap (λ g. on_job g (λ job. plan_in job buffer)) e in
    let is = i ∙ plan-is buffer job (sym (ap (λ a. accepted (said a)) i) ∙ t) in
    let (to, back) = found_none (fewest (fitting_of job) (horizon job)) NoPlan in
    (λ (place, r). fewest-none (fitting_of job) (horizon job) (to (place, sym (ap said is) ∙ r)), λ h. (0, ap said is ∙ back (none-fewest (fitting_of job) (horizon job) h)))
