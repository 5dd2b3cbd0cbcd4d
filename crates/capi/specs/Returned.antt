-- What the C interface hands back of an answer: a status, and the words of `out`, two of them, and three of the call that prices. 0 is the status of a
-- value; that of a refusal is its number.
use Rattle.std.specs.Prelude.{Bool, true, false, List, [], ◌∷◌, ℕ}
use Rattle.reading.specs.declared.Spot.{Spot}
use Rattle.arguments.specs.Answers.{Said, refused_by, answered}
use Rattle.bill.specs.Price.{Bill}
use Rattle.calls.specs.Pass.{Passed}
use Rattle.calls.specs.Choose.{Chosen}

pub record Returned : Type 0 where
  pub status : ℕ
  pub words : List ℕ

-- the words of a refusal are its place and 0, those of a value are given
abbrev pub returned : {A : Type 0} → (A → List ℕ) → Said A → Returned
returned words (refused_by number place) = record { status = number; words = place ∷ 0 ∷ [] }
returned words (answered x) = record { status = 0; words = words x }

-- the same with three words
abbrev pub returned_three : {A : Type 0} → (A → List ℕ) → Said A → Returned
returned_three words (refused_by number place) = record { status = number; words = place ∷ 0 ∷ 0 ∷ [] }
returned_three words (answered x) = record { status = 0; words = words x }

-- the words of each sort of value; unused words are 0
abbrev pub nothing : Unit {0} → List ℕ
nothing x = 0 ∷ 0 ∷ []

abbrev pub alone : ℕ → List ℕ
alone x = x ∷ 0 ∷ []

abbrev pub passed_words : Passed → List ℕ
passed_words p = p.live ∷ p.sum ∷ []

abbrev pub both : Chosen → List ℕ
both c = c.selection ∷ c.aside ∷ []

abbrev pub bill_words : Bill ℕ → List ℕ
bill_words b = b.selection ∷ b.total ∷ b.tax ∷ []

abbrev pub test : Bool → List ℕ
test true = 1 ∷ 0 ∷ []
test false = 0 ∷ 0 ∷ []

-- a name: where it starts in the file and how many bytes it has; 0 and 0 if there is none
abbrev pub spotted : Spot → Returned
spotted spot = record { status = 0; words = spot.start ∷ spot.len ∷ [] }
