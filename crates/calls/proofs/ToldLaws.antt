-- What an answer says, as numbers: they are compared one by one. Assumes nothing.
use mathlib.Core.Path.{◌≡◌, refl, ap, ap₂, sym, ◌∙◌}
use mathlib.Core.Bool.{Bool}
use Prim.Native.Nat.{ℕ}
use native.Mathlib.Omega.{arith}
use Rattle.std.specs.Prelude.{Option, Some}
use Rattle.sets.specs.Ranges.{num}
use Rattle.sets.proofs.Ranges.{num-same}
use Rattle.reading.specs.declared.Reason.{Reason}
use Rattle.arguments.specs.Answers.{found_or, Said, refused_by, answered, said}
use Rattle.names.specs.Meaning.{holder_of}
use Rattle.std.specs.Prelude.{Ok, Err}
use Rattle.choice.specs.Meaning.{Choice}
use Rattle.choice.specs.declared.Chosen as choice
use Rattle.choice.specs.declared.NoSelection.{NoSelection}
use Rattle.calls.specs.Choose.{Chosen, searched}

-- a number that is computed is looked at as any n that is equal to it, so that a comparison that fails names it
pub seen : {a b : ℕ} → ((n : ℕ) → n ≡ a → n ≡ b) → a ≡ b
seen {a} same = same a refl

-- how many values are said: none by a refusal
abbrev pub values : {A : Type 0} → Said A → ℕ
values (refused_by number place) = 0
values (answered x) = 1

-- a test that is said, as 1 or 0
abbrev pub tested : Said Bool → ℕ
tested (refused_by reason place) = 0
tested (answered b) = num b

-- the number that is said, a selection, and what is set aside
abbrev pub number : Said ℕ → ℕ
number (refused_by reason place) = 0
number (answered x) = x

abbrev pub selected : Said Chosen → ℕ
selected (refused_by reason place) = 0
selected (answered c) = c.selection

abbrev pub set_by : Said Chosen → ℕ
set_by (refused_by reason place) = 0
set_by (answered c) = c.aside

pub number-said : (t : Said ℕ) {x : ℕ} → values t ≡ 1 → number t ≡ x → t ≡ answered x
number-said (refused_by reason place) v e = absurd (omega arith)
number-said (answered y) v e = ap (λ (i : ℕ). answered i) e

choice-is : (t : Said Chosen) {x aside : ℕ} → values t ≡ 1 → selected t ≡ x → set_by t ≡ aside → t ≡ answered (record { selection = x; aside = aside })
choice-is (refused_by reason place) v e h = absurd (omega arith)
choice-is (answered c) v e h = ap₂ (λ (x aside : ℕ). answered (record { selection = x; aside = aside })) e h

pub test-said : (t : Said Bool) (b : Bool) → values t ≡ 1 → tested t ≡ num b → t ≡ answered b
test-said (refused_by reason place) b v e = absurd (omega arith)
test-said (answered a) b v e = ap (λ (x : Bool). answered x) (num-same a b e)

-- what was found, and what the search chose
pub found-said : (reason : Reason) {t : Said ℕ} {named : Option ℕ} {i : ℕ} → named ≡ Some i → values t ≡ 1 → number t ≡ i → t ≡ said (found_or (holder_of named) reason)
found-said reason {t} e v n = number-said t v n ∙ sym (ap (λ x. said (found_or (holder_of x) reason)) e)

pub chosen-said : {t : Said Chosen} {chosen : Choice} {c : choice.Chosen} → chosen ≡ Ok c → values t ≡ 1 → selected t ≡ c.selection → set_by t ≡ c.aside → t ≡ said (searched chosen)
chosen-said {t} e v n h = choice-is t v n h ∙ sym (ap (λ c. said (searched c)) e)

-- or that it chose nothing, and which goal falls short
pub none_said : {chosen : Choice} {n : NoSelection} {place : ℕ} → chosen ≡ Err n → place ≡ n.place → refused_by 14 place ≡ said (searched chosen)
none_said e h = ap (λ (p : ℕ). refused_by 14 p) h ∙ sym (ap (λ c. said (searched c)) e)
