-- Plan extraction: working back over tables of round layers, one round at a time. `planning` says what rounds and plans are; here a round
-- for a goal is a selection of a round layer.
use Rattle.std.specs.Prelude.{◌≡◌, Bool, true, false, List, ◌⊎◌, ℕ, zero, suc, ◌+◌, ◌*◌, ◌/◌, ◌%◌, ◌^◌, ◌≤◌, ◌<◌, length, get_or, Option, Some, None, Result, Ok, Err}
use Rattle.sets.specs.Sets.{◌⊆◌, full, gathered}
use Rattle.network.specs.Network.{listed, Cover}
use Rattle.network.specs.Tables.{Tabled}
use Rattle.supports.specs.Supports.{row_of}

-- the 32 facts
abbrev pub all_facts : ℕ
all_facts = full 32

-- the facts at the start; what each of 64 vertices needs and gives; of each round layer its vertices and 64 mutex words
pub record Graph : Type 0 where
  pub start : ℕ
  pub needs : List ℕ
  pub gives : List ℕ
  pub members : List ℕ
  pub words : List ℕ

abbrev pub graph : List ℕ → List ℕ → List ℕ → List ℕ → ℕ → Graph
graph needs gives members words start = record { start = start; needs = needs; gives = gives; members = members; words = words }

-- x is a selection of round layer j + 1 for the facts g
abbrev pub Picks : Graph → ℕ → ℕ → ℕ → Type 0
Picks T j g x = Cover (listed 64 T.gives (row_of T.words j)) (get_or T.members j 0) g x

-- what the vertices of x need
abbrev pub needs_of : Graph → ℕ → ℕ
needs_of T x = gathered 64 x (λ v. get_or T.needs v 0)

-- g can be worked back k times
unfoldable pub Back : Graph → ℕ → ℕ → Type 0
Back T zero g = g ⊆ T.start
Back T (suc j) g = (x : ℕ) × Picks T j g x × Back T j (needs_of T x)

-- the words 0 to k - 1 of p are the steps of selections by which g is worked back k times
unfoldable pub Held : Graph → ℕ → ℕ → List ℕ → Type 0
Held T zero g p = g ⊆ T.start
Held T (suc j) g p = (x : ℕ) × Picks T j g x × (get_or p j 0 ≡ x / 2 ^ 32) × Held T j (needs_of T x) p

-- needs are facts, there are at most 16 layers, the carriers are those of what is given and mutexes are said at both vertices, and what k
-- rounds reach more rounds reach
pub record Fine (T : Graph) (carriers : List ℕ) : Type 0 where
  pub inside : (v : ℕ) → get_or T.needs v 0 ⊆ all_facts
  pub short : length T.members ≤ 16
  pub rows : 64 * length T.members ≤ length T.words
  pub tabled : (j : ℕ) → j < length T.members → Tabled 64 T.gives (row_of T.words j) carriers
  pub grows : (k r g : ℕ) → k ≤ r → r ≤ length T.members → Back T k g → Back T r g

-- facts of g that no k rounds reach
abbrev pub Unreached : Graph → ℕ → ℕ → ℕ → Type 0
Unreached T k g e = (e ⊆ g) × (Back T k e → ⊥)

-- ---- nogoods

-- an entry of the table, from 1 on, is a count of rounds r and a set of facts, packed as r * 2 ^ 32 + set; if r is not 0, no r rounds reach the set
unfoldable pub Nogoods : Graph → List ℕ → Type 0
Nogoods T table = (i : ℕ) → 0 < i → 0 < get_or table i 0 / 2 ^ 32 → (get_or table i 0 / 2 ^ 32 ≤ length T.members) × (Back T (get_or table i 0 / 2 ^ 32) (get_or table i 0 % 2 ^ 32) → ⊥)

-- an entry for k rounds or more whose set is a part of g, or nothing
abbrev pub Noted : List ℕ → ℕ → ℕ → Option ℕ → Type 0
Noted table k g None = Unit {0}
Noted table k g (Some c) = (c ⊆ g) × ((i : ℕ) × (0 < i) × (k ≤ get_or table i 0 / 2 ^ 32) × (c ≡ get_or table i 0 % 2 ^ 32))

-- each entry of the new table is one of the old, or the pair of k and e
abbrev pub Stored : ℕ → ℕ → List ℕ → List ℕ → Type 0
Stored k e old new = (i : ℕ) → 0 < i → (get_or new i 0 ≡ get_or old i 0) ⊎ (get_or new i 0 ≡ k * 2 ^ 32 + e)

-- as Stored if the test passed, and else the old table
abbrev pub StoredIf : Bool → ℕ → ℕ → List ℕ → List ℕ → Type 0
StoredIf true k e old new = Stored k e old new
StoredIf false k e old new = new ≡ old

-- ---- boxes: of the selections for a goal, those whose needs lie in `may` and include `must`

-- e, between why and g: no selection of round layer j + 1 for e in the box has needs that j rounds reach
pub record Blocked (T : Graph) (j g may must why e : ℕ) : Type 0 where
  pub keeps : why ⊆ e
  pub part : e ⊆ g
  pub blocked : (x : ℕ) → Picks T j e x → must ⊆ needs_of T x → needs_of T x ⊆ may → Back T j (needs_of T x) → ⊥

-- e, between why and g, which the start does not hold
pub record Lacking (T : Graph) (g why e : ℕ) : Type 0 where
  pub keeps : why ⊆ e
  pub part : e ⊆ g
  pub lacks : e ⊆ T.start → ⊥

abbrev pub Refutes : Graph → ℕ → ℕ → ℕ → ℕ → ℕ → ℕ → Type 0
Refutes T zero g may must why e = Lacking T g why e
Refutes T (suc j) g may must why e = Blocked T j g may must why e

-- a plan of k rounds for g is in p; or facts of g, with those of why, that the selections of the box cannot be worked back for
abbrev pub Extracted : Graph → ℕ → ℕ → ℕ → ℕ → ℕ → List ℕ → Result (Unit {0}) ℕ → Type 0
Extracted T k g may must why p (Ok made) = Held T k g p
Extracted T k g may must why p (Err e) = Refutes T k g may must why e
