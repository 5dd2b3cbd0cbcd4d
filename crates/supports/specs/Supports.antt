-- What plan extraction asks of one round layer: of its tables, its vertices and the facts.
use Rattle.std.specs.Prelude.{List, ℕ, ◌*◌, get_or, take, drop}
use Rattle.sets.specs.Sets.{◌∈◌, ◌⊆◌}
use Rattle.network.specs.Network.{listed, Cover}

-- the mutex words of round layer j + 1
unfoldable pub row_of : List ℕ → ℕ → List ℕ
row_of words j = take 64 (drop (64 * j) words)

-- v has the vertices of m whose needs lie in may
pub record Opens (needs : List ℕ) (m may v : ℕ) : Type 0 where
  pub within : v ⊆ m
  pub inside : (i : ℕ) → i ∈ v → get_or needs i 0 ⊆ may
  pub whole : (i : ℕ) → i ∈ m → get_or needs i 0 ⊆ may → i ∈ v

-- e, between why and g, which no selection of the vertices v covers
pub record Uncovered (gives row : List ℕ) (v g why e : ℕ) : Type 0 where
  pub keeps : why ⊆ e
  pub part : e ⊆ g
  pub uncovered : (x : ℕ) → Cover (listed 64 gives row) v e x → ⊥
