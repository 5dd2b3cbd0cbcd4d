-- The round layers of a fitting in tables, as plan extraction works on them; and what is promised of words that are copied.
use Rattle.std.specs.Prelude.{◌≡◌, List, ℕ, ◌+◌, ◌*◌, ◌≤◌, ◌<◌, length, get_or, drop}
use Rattle.sets.specs.Ranges.{list_to}
use Rattle.planning.specs.Rounds.{Fitting}
use Rattle.planning.specs.Layers.{Layer, vertices, fact_layer, round_over}
use Rattle.supports.specs.Supports.{row_of}

-- round layer j + 1
abbrev pub round_after : Fitting → ℕ → Layer
round_after F j = round_over 32 (vertices 32 F) (32 + F.count) (fact_layer 32 F j)

-- the vertices and words lent are those of the round layers 1 to h
pub record Layered (F : Fitting) (h : ℕ) (members words : List ℕ) : Type 0 where
  pub vertices : members ≡ list_to h (λ j. (round_after F j).members)
  pub rows : (j : ℕ) → j < h → row_of words j ≡ (round_after F j).words
  pub long : 64 * h ≤ length words

-- the words of layers 1 to h are in front
pub record Laid (F : Fitting) (h : ℕ) (members words : List ℕ) : Type 0 where
  pub few : length members ≡ 16
  pub many : length words ≡ 1024
  pub vertices : (j : ℕ) → j < h → get_or members j 0 ≡ (round_after F j).members
  pub rows : (j : ℕ) → j < h → row_of words j ≡ (round_after F j).words

-- the words 0 to k - 1 are copied, and the others stay as they are
abbrev pub Copied : ℕ → List ℕ → List ℕ → List ℕ → Type 0
Copied k words old new = ((i : ℕ) → i < k → get_or new i 0 ≡ get_or words i 0) × (drop k new ≡ drop k old)
