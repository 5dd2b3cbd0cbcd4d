-- What the user's demands say of the open calls, in words that no code computes with. proofs/Demands.antt proves them, clause by clause.
use Rattle.std.specs.Prelude.{◌≡◌, ◌⊎◌, Bool, false, List, [], ◌∷◌, ℕ, ◌≤◌, ◌<◌, length, get_or, take, drop}
use Rattle.sets.specs.Sets.{◌∈◌, full}
use Rattle.sets.specs.First.{LeastFrom}
use Rattle.reading.specs.declared.Reason.{Reason}
use Rattle.reading.specs.Reasons.{number_of, answers}
use Rattle.reading.specs.Got.{got, refused}
use Rattle.jobfile.specs.Job.{Job, names_of, size, wish_count, order, wishes, clashes, horizon}
use Rattle.jobfile.specs.Read.{read_job}
use Rattle.names.specs.Names.{Equal}
use Rattle.network.specs.Network.{Network, Selection, network_of, clash}
use Rattle.filter.specs.Filter.{set_aside, first_short}
use Rattle.planning.specs.Rounds.{fitting_of, Plan}
use Rattle.arguments.specs.Answers.{Said, refused_by, answered}
use Rattle.calls.specs.Choose.{Chosen}

-- the one exactly when the other
abbrev pub Exactly : Type 0 → Type 0 → Type 0
Exactly A B = (A → B) × (B → A)

-- ---- demand 1: what is refused

-- a call turns its input down by this number, at this place: 14 to 16 are answers to input that is accepted
abbrev pub Refuses : {A : Type 0} → Said A → ℕ → ℕ → Type 0
Refuses s number place = (s ≡ refused_by number place) × (answers number ≡ false)

-- a call answers in the form of a refusal by this number, at some place
abbrev pub Says : {A : Type 0} → Said A → ℕ → Type 0
Says s number = (place : ℕ) × (s ≡ refused_by number place)

-- one way in which an argument can be wrong: at which place, and the number of the reason
pub record Fault : Type 1 where
  pub At : ℕ → Type 0
  pub number : ℕ

-- the first fault of a list that there is has this number, at this place
abbrev pub FirstOf : List Fault → ℕ → ℕ → Type 0
FirstOf [] number place = ⊥
FirstOf (fault ∷ faults) number place = ((number ≡ fault.number) × fault.At place) ⊎ (((p : ℕ) → fault.At p → ⊥) × FirstOf faults number place)

-- a file is off the layout of the kinds that the call takes, by this number and at this place
abbrev pub Off : (ℕ → Bool) → List ℕ → ℕ → ℕ → Type 0
Off takes file number place = (reason : Reason) × (read_job takes file ≡ refused reason place) × (number_of reason ≡ number)

-- a file is off the layout; or it states a job, and the first fault of the other arguments has this number and place
abbrev pub Wrong : (ℕ → Bool) → List ℕ → (Job (List ℕ) → List Fault) → ℕ → ℕ → Type 0
Wrong takes file faults number place = Off takes file number place ⊎ ((job : Job (List ℕ)) × (end : ℕ) × (read_job takes file ≡ got job end) × FirstOf (faults job) number place)

-- 9: a layer that the file lacks
abbrev pub absent_layer : ℕ → ℕ → ℕ → Fault
absent_layer k lowest highest = record { At = λ p. (p ≡ 0) × ((k < lowest) ⊎ (highest < k)); number = 9 }

-- 10: a short buffer
abbrev pub short_buffer : List ℕ → ℕ → Fault
short_buffer buffer size = record { At = λ p. (p ≡ 0) × (length buffer < size); number = 10 }

-- 11: a false partition; the place is the lowest article whose group is n or more, or that shares a group with a lower article with which it does
-- not clash
abbrev pub Misplaced : Network → (ℕ → ℕ) → ℕ → Type 0
Misplaced N group u = (N.articles ≤ group u) ⊎ ((v : ℕ) × (v < u) × (group v ≡ group u) × (clash N v u ≡ false))

abbrev pub false_partition : Network → List ℕ → Fault
false_partition N groups = record {
  At = λ u. (u < N.articles) × Misplaced N (λ v. get_or groups v 0) u × ((v : ℕ) → v < u → Misplaced N (λ v. get_or groups v 0) v → ⊥);
  number = 11;
}

-- 12: an article that the file lacks is live
abbrev pub absent_article : ℕ → ℕ → Fault
absent_article articles live = record { At = λ p. (p ≡ 0) × ((u : ℕ) × (articles ≤ u) × (u ∈ live)); number = 12 }

-- 13: a projection goal that is empty or outside the order; of a list, the first
abbrev pub Bad : ℕ → ℕ → Type 0
Bad order goal = (goal ≡ 0) ⊎ ((i : ℕ) × (i ∈ goal) × (i ∈ order → ⊥))

abbrev pub wrong_goal : ℕ → ℕ → Fault
wrong_goal order goal = record { At = λ p. (p ≡ 0) × Bad order goal; number = 13 }

abbrev pub wrong_goals : ℕ → List ℕ → Fault
wrong_goals order goals = record {
  At = λ i. (i < length goals) × Bad order (get_or goals i 0) × ((j : ℕ) → j < i → Bad order (get_or goals j 0) → ⊥);
  number = 13;
}

-- 17: a tax rate above 10,000 hundredths of a percent
abbrev pub high_rate : ℕ → Fault
high_rate rate = record { At = λ p. (p ≡ 0) × (10000 < rate); number = 17 }

-- ---- demand 1: what finding and comparing give

-- article or step i has this name, or one that is equal to it; it is not empty
abbrev pub Has : Job (List ℕ) → List ℕ → ℕ → Type 0
Has job name i = (name ≡ [] → ⊥) × (i < size job) × Equal (get_or (names_of job.records) i []) name

-- n, w, order, wishes and clashes agree
abbrev pub Alike : Job (List ℕ) → Job (List ℕ) → Type 0
Alike a b = (size a ≡ size b) × (wish_count a ≡ wish_count b) × (order a ≡ order b) × (wishes a ≡ wishes b) × (clashes a ≡ clashes b)

-- ---- demand 3: what the choice and the planner answer if their input is accepted

-- On a refusal: it is 14, at its place, the first goal that falls short or the list's length; and every selection is below the floor. On a value: it is
-- the smallest selection that is not below the floor; the set aside is the one that is defined; and it shares no article with any selection, above the
-- floor or below it.
abbrev pub ChoiceKept : Job (List ℕ) → (ℕ → ℕ) → List ℕ → ℕ → Said Chosen → Type 0
ChoiceKept job group goals floor (refused_by number place) =
    (number ≡ 14) × (place ≡ first_short (network_of job) group (full (size job)) goals) × ((x : ℕ) → Selection (network_of job) (order job) x → floor ≤ x → ⊥)
ChoiceKept job group goals floor (answered c) =
    LeastFrom (Selection (network_of job) (order job)) floor c.selection × (c.aside ≡ set_aside (network_of job) group goals) × ((x u : ℕ) → Selection (network_of job) (order job) x → u ∈ c.aside → u ∈ x → ⊥)

-- On a refusal: it is 15, every plan is longer than the horizon, and nothing was written. On a value k: the first k words are the rounds of a
-- plan, one after the other; it is within the horizon, and no plan is shorter; and the later words are as they were.
abbrev pub PlanKept : Job (List ℕ) → List ℕ → List ℕ → Said ℕ → Type 0
PlanKept job old new (refused_by number place) = (number ≡ 15) × (place ≡ 0) × ((rs : List ℕ) → Plan (fitting_of job) rs → length rs ≤ horizon job → ⊥) × (new ≡ old)
PlanKept job old new (answered k) =
    (k ≤ horizon job) × (length (take k new) ≡ k) × Plan (fitting_of job) (take k new) × ((rs : List ℕ) → Plan (fitting_of job) rs → k ≤ length rs) × (drop k new ≡ drop k old)
