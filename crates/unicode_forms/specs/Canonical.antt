-- Canonical equivalence as it reads (Unicode Standard Annex 15; the numbers D.. are those of The Unicode Standard, chapter 3), for covered characters.
use Rattle.std.specs.Prelude.{◌≡◌, Bool, true, false, cond, ◌&&◌, List, [], ◌∷◌, ◌++◌, ℕ, zero, suc, ◌+◌, ◌-◌, ◌/◌, ◌%◌, ltb, eqb, get_or}
use Rattle.unicode_forms.specs.Table.{table}

-- ---- the table by characters

-- where the entry of a character is: U+00C0 to U+017F first, then U+0300 to U+036F
abbrev pub place_of : ℕ → ℕ
place_of c = cond (ltb c 0x180) (c - 0xc0) (192 + (c - 0x300))

abbrev pub entry_of : ℕ → ℕ
entry_of c = get_or table (place_of c) 0

-- an entry is 0xCC_SSS_FFF: class, second character, first character
abbrev pub first_of : ℕ → ℕ
first_of e = e % 0x1000

abbrev pub second_of : ℕ → ℕ
second_of e = e / 0x1000 % 0x1000

abbrev pub class_in : ℕ → ℕ
class_in e = e / 0x1000000

-- what an entry maps its character to; 0 is no second character
abbrev pub parts_in : ℕ → List ℕ
parts_in e = first_of e ∷ cond (eqb (second_of e) 0) [] (second_of e ∷ [])

-- ---- what the Unicode Character Database says of a character

-- its canonical mapping; a character that has none, and every character below U+00C0, stands for itself
abbrev pub parts : ℕ → List ℕ
parts c = cond (ltb c 0xc0) (c ∷ []) (parts_in (entry_of c))

-- its combining class
abbrev pub class : ℕ → ℕ
class c = cond (ltb c 0xc0) 0 (class_in (entry_of c))

-- ---- steps, and many of them

-- y comes of x by k steps, each of which is an R
abbrev pub Times : (List ℕ → List ℕ → Type 0) → ℕ → List ℕ → List ℕ → Type 0
Times R zero x y = x ≡ y
Times R (suc k) x y = (z : List ℕ) × R x z × Times R k z y

-- y comes of x by steps, however many
abbrev pub Many : (List ℕ → List ℕ → Type 0) → List ℕ → List ℕ → Type 0
Many R x y = (k : ℕ) × Times R k x y

-- ---- canonical decomposition

-- one character of a text, wherever it stands, gives way to its canonical mapping
abbrev pub Mapped : List ℕ → List ℕ → Type 0
Mapped x y = (front back : List ℕ) × (c : ℕ) × (x ≡ front ++ (c ∷ back)) × (y ≡ front ++ (parts c ++ back))

-- no character can be taken apart further
abbrev pub Apart : List ℕ → Type 0
Apart [] = Unit {0}
Apart (c ∷ cs) = (parts c ≡ c ∷ []) × Apart cs

-- a reorderable pair (D108): the class of the first is above that of the second, which is above 0
unfoldable pub reorderable : ℕ → ℕ → Bool
reorderable a b = ltb (class b) (class a) && ltb 0 (class b)

-- one reorderable pair of a text, wherever it stands, is exchanged
abbrev pub Exchanged : List ℕ → List ℕ → Type 0
Exchanged x y = (front back : List ℕ) × (a b : ℕ) × (reorderable a b ≡ true) × (x ≡ front ++ (a ∷ b ∷ back)) × (y ≡ front ++ (b ∷ a ∷ back))

-- there is no reorderable pair
abbrev pub InOrder : List ℕ → Type 0
InOrder [] = Unit {0}
InOrder (a ∷ []) = Unit {0}
InOrder (a ∷ b ∷ l) = (reorderable a b ≡ false) × InOrder (b ∷ l)

-- d is the canonical decomposition of x (D68): characters give way to their mappings until none can be taken apart further, and then
-- reorderable pairs are exchanged until there is none (D109)
abbrev pub Decomposition : List ℕ → List ℕ → Type 0
Decomposition x d = (y : List ℕ) × Many Mapped x y × Apart y × Many Exchanged y d × InOrder d

-- two texts are canonically equivalent (D70) if they have one canonical decomposition
abbrev pub Equivalent : List ℕ → List ℕ → Type 0
Equivalent x y = (d : List ℕ) × Decomposition x d × Decomposition y d
