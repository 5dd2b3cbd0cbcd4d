-- An answer and what the C interface hands back of it. Assumes nothing.
use mathlib.Core.Path.{◌≡◌, sym, ap, ap₂, ◌∙◌}
use mathlib.Core.List.{List, [], ◌∷◌}
use Prim.Native.Nat.{ℕ}
use lib.ListN.{get_or}
use Rattle.reading.specs.declared.Spot.{Spot}
use Rattle.arguments.specs.Answers.{Said, refused_by, answered}
use Rattle.capi.specs.Returned.{Returned, returned, returned_three, spotted}

abbrev handed : ℕ → List ℕ → Returned
handed status words = record { status = status; words = words }

abbrev pair : ℕ → ℕ → List ℕ
pair first second = first ∷ second ∷ []

-- ---- the words that were written, one by one

pub words_are : {a b p q : ℕ} → a ≡ p → b ≡ q → a ∷ b ∷ [] ≡ p ∷ q ∷ []
words_are first second = ap₂ pair first second

module _ {out : List ℕ} {a b : ℕ} (o : out ≡ a ∷ b ∷ []) where
  pub first_word : get_or out 0 0 ≡ a
  first_word = ap (λ l. get_or l 0 0) o

  pub second_word : get_or out 1 0 ≡ b
  second_word = ap (λ l. get_or l 1 0) o

  by-words : {p q : ℕ} → get_or out 0 0 ≡ p → get_or out 1 0 ≡ q → out ≡ p ∷ q ∷ []
  by-words first second = o ∙ words_are (sym first_word ∙ first) (sym second_word ∙ second)

-- ---- what is handed back, from its status and its two words

module _ {A : Type 0} (words : A → List ℕ) {s : Said A} {status a b : ℕ} {out : List ℕ} where
  pub value-handed : {x : A} {p q : ℕ} → s ≡ answered x → words x ≡ p ∷ q ∷ [] → out ≡ a ∷ b ∷ [] → status ≡ 0 → get_or out 0 0 ≡ p → get_or out 1 0 ≡ q → record { status = status; words = out } ≡ returned words s
  value-handed e w o t first second = ap₂ handed t (by-words o first second ∙ sym w) ∙ sym (ap (returned words) e)

  pub refusal-handed : {number place : ℕ} → s ≡ refused_by number place → out ≡ a ∷ b ∷ [] → status ≡ number → get_or out 0 0 ≡ place → get_or out 1 0 ≡ 0 → record { status = status; words = out } ≡ returned words s
  refusal-handed e o t first second = ap₂ handed t (by-words o first second) ∙ sym (ap (returned words) e)

pub spot-handed : {x spot : Spot} {status a b : ℕ} {out : List ℕ} → x ≡ spot → out ≡ a ∷ b ∷ [] → status ≡ 0 → get_or out 0 0 ≡ x.start → get_or out 1 0 ≡ x.len → record { status = status; words = out } ≡ spotted spot
spot-handed e o t first second = ap₂ handed t (by-words o first second) ∙ ap spotted e

-- ---- three words

abbrev triple : ℕ → ℕ → ℕ → List ℕ
triple first second third = first ∷ second ∷ third ∷ []

pub three-are : {a b c p q r : ℕ} → a ≡ p → b ≡ q → c ≡ r → a ∷ b ∷ c ∷ [] ≡ p ∷ q ∷ r ∷ []
three-are first second third = λ i. triple (first i) (second i) (third i)

module _ {out : List ℕ} {a b c : ℕ} (o : out ≡ a ∷ b ∷ c ∷ []) where
  pub first-of-three : get_or out 0 0 ≡ a
  first-of-three = ap (λ l. get_or l 0 0) o

  pub second-of-three : get_or out 1 0 ≡ b
  second-of-three = ap (λ l. get_or l 1 0) o

  pub third-of-three : get_or out 2 0 ≡ c
  third-of-three = ap (λ l. get_or l 2 0) o

  by_three : {p q r : ℕ} → get_or out 0 0 ≡ p → get_or out 1 0 ≡ q → get_or out 2 0 ≡ r → out ≡ p ∷ q ∷ r ∷ []
  by_three first second third = o ∙ three-are (sym first-of-three ∙ first) (sym second-of-three ∙ second) (sym third-of-three ∙ third)

module _ {A : Type 0} (words : A → List ℕ) {s : Said A} {status a b c : ℕ} {out : List ℕ} where
  pub three-handed : {x : A} {p q r : ℕ} → s ≡ answered x → words x ≡ p ∷ q ∷ r ∷ [] → out ≡ a ∷ b ∷ c ∷ [] → status ≡ 0 → get_or out 0 0 ≡ p → get_or out 1 0 ≡ q → get_or out 2 0 ≡ r
      → record { status = status; words = out } ≡ returned_three words s
  three-handed e w o t first second third = ap₂ handed t (by_three o first second third ∙ sym w) ∙ sym (ap (returned_three words) e)

  pub three-refused : {number place : ℕ} → s ≡ refused_by number place → out ≡ a ∷ b ∷ c ∷ [] → status ≡ number → get_or out 0 0 ≡ place → get_or out 1 0 ≡ 0 → get_or out 2 0 ≡ 0
      → record { status = status; words = out } ≡ returned_three words s
  three-refused e o t first second third = ap₂ handed t (by_three o first second third) ∙ sym (ap (returned_three words) e)
