-- The same as functions that compute: the text of bytes, its normalization form D, and whether two forms are the same.
use Rattle.std.specs.Prelude.{◌≡◌, Bool, true, false, cond, ◌&&◌, List, [], ◌∷◌, ◌++◌, ℕ, ◌+◌, ◌-◌, ◌*◌, ◌≤◌, leb, ltb}
use Rattle.std.proofs.Math.Option.{Option, none, some}
use Rattle.sets.specs.Lists.{same_list}
use Rattle.unicode_forms.specs.Utf8.{covers, covers_all}
use Rattle.unicode_forms.specs.Canonical.{parts, reorderable}

-- ---- the text of bytes that are UTF-8 and all of whose characters are covered; other bytes have none

-- the character of two bytes
abbrev pub joined : ℕ → ℕ → ℕ
joined a b = 64 * (a - 0xc0) + (b - 0x80)

-- two bytes are those of a covered character
abbrev pub is_pair : ℕ → ℕ → Bool
is_pair a b = leb 0xc2 a && (leb 0x80 b && (ltb b 0xc0 && covers (joined a b)))

-- a character in front of a text
abbrev pub before : ℕ → Option (List ℕ) → Option (List ℕ)
before c none = none
before c (some cs) = some (c ∷ cs)

unfoldable pub text_of : List ℕ → Option (List ℕ)
text_of [] = some []
text_of (a ∷ []) = cond (ltb a 0x80) (some (a ∷ [])) none
text_of (a ∷ b ∷ s) = cond (ltb a 0x80) (before a (text_of (b ∷ s))) (cond (is_pair a b) (before (joined a b) (text_of s)) none)

-- ---- normalization form D (D118)

-- every character of a text gives way to its mapping; by the rule over the table once is enough
unfoldable pub apart : List ℕ → List ℕ
apart [] = []
apart (c ∷ cs) = parts c ++ apart cs

-- a character in front of a text in order goes behind those with which it is a reorderable pair
unfoldable pub inserted : ℕ → List ℕ → List ℕ
inserted c [] = c ∷ []
inserted c (d ∷ ds) = cond (reorderable c d) (d ∷ inserted c ds) (c ∷ d ∷ ds)

-- canonical order, from the last character to the first
unfoldable pub ordered : List ℕ → List ℕ
ordered [] = []
ordered (c ∷ cs) = inserted c (ordered cs)

abbrev pub nfd : List ℕ → List ℕ
nfd cs = ordered (apart cs)

-- the form of bytes that have a text
abbrev pub form_of : Option (List ℕ) → Option (List ℕ)
form_of none = none
form_of (some cs) = some (nfd cs)

abbrev pub form : List ℕ → Option (List ℕ)
form bytes = form_of (text_of bytes)

-- what holds of the characters of a form that there is room for: so many they may be, they are covered, and they are in order
abbrev pub Sound : ℕ → ℕ → List ℕ → Type 0
Sound room count l = (count ≤ room) × (covers_all l ≡ true) × (ordered l ≡ l)

-- both have a form, and it is the same
abbrev pub same_form : Option (List ℕ) → Option (List ℕ) → Bool
same_form none y = false
same_form (some x) none = false
same_form (some x) (some y) = same_list x y
