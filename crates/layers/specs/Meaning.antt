-- What the code's types mean.
use Rattle.std.specs.Prelude.{◌≡◌, Bool, cond, List, [], ℕ, ◌-◌, ◌^◌, ltb, get_or}
use Rattle.std.specs.Int.Bits.{bit_or}
use Rattle.sets.specs.Ranges.{given, list_to}
use Rattle.jobfile.specs.Meaning.{padded}
use Rattle.sets.specs.Tables.{transposed}
use Rattle.planning.specs.Rounds.{Steps, listed_steps}
use Rattle.planning.specs.Layers.{Layer}

-- a layer in words
abbrev pub layer : ℕ → List ℕ → Layer
layer members words = record { members = members; words = words }

-- a layer, its words in an array of this size
abbrev pub roomy : ℕ → Layer → Layer
roomy size L = record { members = L.members; words = padded size L.words }

-- a table of steps as one of vertices: a keeper has its own fact, or nothing
abbrev pub vertex_words : ℕ → Bool → List ℕ → ℕ → ℕ
vertex_words w kept steps x = cond (ltb x w) (given kept (2 ^ x)) (get_or steps (x - w) 0)

-- what a vertex needs or gives
abbrev pub uses : Steps → ℕ → ℕ
uses S x = bit_or (S.needs x) (S.gives x)

-- for each fact the vertices that need or give it, those that take it, and those that need it
pub record Turned (needs gives takes us ts ns : List ℕ) : Type 0 where
  pub users : us ≡ transposed 64 (list_to 64 (uses (listed_steps needs gives [])))
  pub takers : ts ≡ transposed 64 takes
  pub needers : ns ≡ transposed 64 needs
