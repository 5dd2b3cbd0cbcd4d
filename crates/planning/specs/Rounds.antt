-- Rounds of steps, and plans (docs/RULES.md, "Rounds"). Sets of facts and of steps are numbers by their bits; no definition knows a width.
use Rattle.std.specs.Prelude.{◌≡◌, Bool, false, not, ◌&&◌, ◌||◌, List, [], ◌∷◌, ℕ, zero, suc, ◌^◌, ◌<◌, ltb, get_or}
use Rattle.std.proofs.Math.Option.{Option}
use Rattle.std.specs.Int.Bits.{bit_or}
use Rattle.sets.specs.Ranges.{any_to}
use Rattle.sets.specs.Sets.{◌∈◌, ◌⊆◌, without, part, meets, every_pair, gathered}
use Rattle.sets.specs.First.{first_from}
use Rattle.jobfile.specs.Job.{Job, size, fact_count, horizon, start, goal, needs, gives, takes}

-- what each step needs, gives and takes: sets of facts
pub record Steps : Type 0 where
  pub needs : ℕ → ℕ
  pub gives : ℕ → ℕ
  pub takes : ℕ → ℕ

-- how many steps and facts there are, the steps, the facts at the start and those wanted, and how many rounds a plan may have
pub record Fitting : Type 0 where
  pub count : ℕ
  pub facts : ℕ
  pub steps : Steps
  pub start : ℕ
  pub goal : ℕ
  pub horizon : ℕ

-- the steps that three lists state, step by step
abbrev pub listed_steps : List ℕ → List ℕ → List ℕ → Steps
listed_steps needs gives takes = record { needs = λ a. get_or needs a 0; gives = λ a. get_or gives a 0; takes = λ a. get_or takes a 0 }

-- the fitting that a job states
abbrev pub fitting_of : {N : Type 0} → Job N → Fitting
fitting_of job =
    record { count = size job; facts = fact_count job; steps = listed_steps (needs job) (gives job) (takes job); start = start job; goal = goal job; horizon = horizon job }

-- ---- rounds

-- whether two different steps disturb each other: some fact is taken by one, and needed or given by the other (000, definition 7)
unfoldable pub disturb : Steps → ℕ → ℕ → Bool
disturb S a b = meets (S.takes a) (bit_or (S.needs b) (S.gives b)) || meets (S.takes b) (bit_or (S.needs a) (S.gives a))

-- the facts after a round: what its steps take is gone, then what they give is there
unfoldable pub after : Fitting → ℕ → ℕ → ℕ
after F s r = bit_or (without s (gathered F.count r F.steps.takes)) (gathered F.count r F.steps.gives)

-- a round that may follow the facts s: steps of the file, no two of which disturb each other, each with its needs in s; the same as a test
pub record Round (F : Fitting) (s r : ℕ) : Type 0 where
  pub within : r < 2 ^ F.count
  pub calm : (a b : ℕ) → a < b → a ∈ r → b ∈ r → disturb F.steps a b ≡ false
  pub ready : (a : ℕ) → a ∈ r → F.steps.needs a ⊆ s

unfoldable pub is_round : Fitting → ℕ → ℕ → Bool
is_round F s r = ltb r (2 ^ F.count) && (every_pair F.count r (λ a b. not (disturb F.steps a b)) && part (gathered F.count r F.steps.needs) s)

-- ---- plans

-- the facts after a list of rounds
unfoldable pub run : Fitting → ℕ → List ℕ → ℕ
run F s [] = s
run F s (r ∷ rs) = run F (after F s r) rs

-- each round of the list may follow the facts before it
abbrev pub Rounds : Fitting → ℕ → List ℕ → Type 0
Rounds F s [] = Unit {0}
Rounds F s (r ∷ rs) = Round F s r × Rounds F (after F s r) rs

-- a plan, of any length: rounds from the start, after the last of which the goal holds; the same as a test
pub record Plan (F : Fitting) (rs : List ℕ) : Type 0 where
  pub rounds : Rounds F F.start rs
  pub reached : F.goal ⊆ run F F.start rs

unfoldable pub leads : Fitting → ℕ → List ℕ → Bool
leads F s [] = part F.goal s
leads F s (r ∷ rs) = is_round F s r && leads F (after F s r) rs

abbrev pub is_plan : Fitting → List ℕ → Bool
is_plan F rs = leads F F.start rs

-- whether some list of k rounds leads from the facts s to the goal
unfoldable pub leads_in : Fitting → ℕ → ℕ → Bool
leads_in F zero s = part F.goal s
leads_in F (suc k) s = any_to (2 ^ F.count) (λ r. is_round F s r && leads_in F k (after F s r))

-- the fewest rounds of a plan within a horizon
unfoldable pub fewest : Fitting → ℕ → Option ℕ
fewest F horizon = first_from (λ k. leads_in F k F.start) (suc horizon) 0
