-- What is promised of the list of states that steps lead to. A state is a set of facts; the first n of a list count.
use Rattle.std.specs.Prelude.{◌≡◌, Bool, true, false, List, ℕ, ◌≤◌, ◌<◌, length, get_or, Option, Some, None}
use Rattle.std.specs.Int.Bits.{bit_or}
use Rattle.sets.specs.Sets.{◌⊆◌, without}
use Rattle.planning.specs.Rounds.{Steps, Fitting, Plan}
use Rattle.reachability.specs.declared.Place.{Place}

-- the answer: there is no plan of any length; or nothing is said
abbrev pub Hopeless : Fitting → Bool → Type 0
Hopeless F true = (rs : List ℕ) → Plan F rs → ⊥
Hopeless F false = Unit {0}

-- s is one of the first n states
abbrev pub Among : List ℕ → ℕ → ℕ → Type 0
Among states n s = (j : ℕ) × (j < n) × (get_or states j 0 ≡ s)

-- if step a can be made after the facts s, it leads to one of the first n states
abbrev pub Leads : Steps → List ℕ → ℕ → ℕ → ℕ → Type 0
Leads S states n s a = S.needs a ⊆ s → Among states n (bit_or (without s (S.takes a)) (S.gives a))

-- s is one of the first n states; or it may be entered at a slot, one of `size`; or nothing is said
abbrev pub Placed : List ℕ → ℕ → ℕ → ℕ → Place → Type 0
Placed states size n s Place.Known = Among states n s
Placed states size n s (Place.Free at) = at < size
Placed states size n s Place.Crowded = Unit {0}

-- the first n states have become the first r: they stay as they were, and there is room for those after them
pub record Grown (old new : List ℕ) (n r : ℕ) : Type 0 where
  pub more : n ≤ r
  pub room : r ≤ length new
  pub same : (j : ℕ) → j < n → get_or new j 0 ≡ get_or old j 0

-- ---- what the functions give: the count of states r; `None` says that there was no room, and nothing else

-- s is listed
abbrev pub Entered : List ℕ → List ℕ → ℕ → ℕ → Option ℕ → Type 0
Entered old new n s (Some r) = Grown old new n r × Among new r s
Entered old new n s None = Unit {0}

-- what one step leads to is listed
abbrev pub Tried : List ℕ → List ℕ → ℕ → ℕ → ℕ → ℕ → ℕ → Option ℕ → Type 0
Tried old new n s needs gives takes (Some r) = Grown old new n r × (needs ⊆ s → Among new r (bit_or (without s takes) gives))
Tried old new n s needs gives takes None = Unit {0}

-- what each of the first k steps leads to from state i is listed
abbrev pub Expanded : List ℕ → List ℕ → ℕ → ℕ → Steps → ℕ → Option ℕ → Type 0
Expanded old new n i S k (Some r) = Grown old new n r × ((a : ℕ) → a < k → Leads S new r (get_or new i 0) a)
Expanded old new n i S k None = Unit {0}
