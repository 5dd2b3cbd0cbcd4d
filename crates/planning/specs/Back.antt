-- Working back from a goal, one round at a time (docs/RULES.md, "Planner"): a round layer is a mutex network, and a round for a goal
-- is a selection in it; and when there is room for a fitting.
use Rattle.std.specs.Prelude.{◌≡◌, List, ℕ, ◌+◌, ◌/◌, ◌^◌, ◌≤◌, ◌<◌, length, get_or}
use Rattle.sets.specs.Sets.{◌⊆◌, gathered}
use Rattle.network.specs.Network.{Network, Cover}
use Rattle.planning.specs.Rounds.{Fitting, run, Rounds}
use Rattle.planning.specs.Layers.{Layer, vertices}

-- its vertices carry what they give, and clash if they are mutex
abbrev pub layer_network : ℕ → Fitting → Layer → Network
layer_network w F R = record { articles = w + w; wishes = (vertices w F).gives; clashes = λ x. get_or R.words x 0 }

-- x is a selection of the layer's vertices for the facts g
abbrev pub Selects : ℕ → Fitting → Layer → ℕ → ℕ → Type 0
Selects w F R g x = Cover (layer_network w F R) R.members g x

-- what the vertices of x need
unfoldable pub needed : ℕ → Fitting → ℕ → ℕ
needed w F x = gathered (w + w) x (vertices w F).needs

-- the steps among the vertices of x, keepers left out
abbrev pub steps_of : ℕ → ℕ → ℕ
steps_of w x = x / 2 ^ w

-- these are k rounds from the start after which all of g holds
pub record Reaches (F : Fitting) (k g : ℕ) (rs : List ℕ) : Type 0 where
  pub rounds : Rounds F F.start rs
  pub reached : g ⊆ run F F.start rs
  pub many : length rs ≡ k

-- there is room for the facts and the steps, all sets are of facts that there are, and no further step needs, gives or takes anything
pub record Sized (w : ℕ) (F : Fitting) : Type 0 where
  pub few : F.count ≤ w
  pub room : F.facts ≤ w
  pub start : F.start < 2 ^ F.facts
  pub goal : F.goal < 2 ^ F.facts
  pub needs : (a : ℕ) → a < F.count → F.steps.needs a < 2 ^ F.facts
  pub gives : (a : ℕ) → a < F.count → F.steps.gives a < 2 ^ F.facts
  pub takes : (a : ℕ) → a < F.count → F.steps.takes a < 2 ^ F.facts
  pub past : (a : ℕ) → F.count ≤ a → (F.steps.needs a ≡ 0) × (F.steps.gives a ≡ 0) × (F.steps.takes a ≡ 0)
