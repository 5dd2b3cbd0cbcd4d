-- When two names are equal, and the search for a name (docs/RULES.md, "Names and comparison").
use Rattle.std.specs.Prelude.{◌≡◌, ◌⊎◌, Bool, true, ◌||◌, List, [], ◌∷◌, ℕ}
use Rattle.std.proofs.Math.Option.{Option, none}
use Rattle.sets.specs.First.{first_from}
use Rattle.sets.specs.Lists.{same_list}
use Rattle.unicode_forms.specs.Utf8.{utf8, covers_all}
use Rattle.unicode_forms.specs.Canonical.{Equivalent}
use Rattle.unicode_forms.specs.Forms.{form, same_form}

-- two names are the UTF-8 of texts with covered characters only, and these are canonically equivalent
abbrev pub SameText : List ℕ → List ℕ → Type 0
SameText a b = (x y : List ℕ) × (a ≡ utf8 x) × (b ≡ utf8 y) × (covers_all x ≡ true) × (covers_all y ≡ true) × Equivalent x y

-- two names are equal: their bytes are, or they are the same text; so a name that is not covered equals only its own bytes
abbrev pub Equal : List ℕ → List ℕ → Type 0
Equal a b = (a ≡ b) ⊎ SameText a b

-- the same as a test
unfoldable pub same_name : List ℕ → List ℕ → Bool
same_name a b = same_list a b || same_form (form a) (form b)

-- the lowest of n numbers whose name is equal; an empty name is nobody's
abbrev pub lowest_named : List ℕ → ℕ → (ℕ → List ℕ) → Option ℕ
lowest_named [] n names = none
lowest_named (b ∷ bs) n names = first_from (λ i. same_name (names i) (b ∷ bs)) n 0
