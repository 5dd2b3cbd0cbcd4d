-- What the program does with a file, and what it prints (docs/RULES.md, "The program").
use Rattle.std.specs.Prelude.{◌≡◌, cond, List, ℕ, ◌≤◌, eqb, get_or}
use Rattle.sets.specs.Ranges.{list_to}
use Rattle.jobfile.specs.Read.{read_job, fittings}
use Rattle.arguments.specs.Answers.{Said, refused_by, answered, said, result_said}
use Rattle.calls.specs.Choose.{Chosen}
use Rattle.calls.specs.Offer.{offer_of}
use Rattle.calls.specs.Plan.{plan_of, Buffer}
use Rattle.text.specs.Text.{refused_text, chosen_text, rounds_text}
use Rattle.report.specs.declared.Answer as code
use Rattle.reading.specs.declared.Refusal.{Refusal}
use Rattle.std.specs.Prelude as Prelude

-- what comes of a file: a selection with the set aside, or how many rounds a plan has
pub data Result : Type 0 where
  selected : Chosen → Result
  planned : ℕ → Result

abbrev pub mapped : {A B : Type 0} → (A → B) → Said A → Said B
mapped f (refused_by number place) = refused_by number place
mapped f (answered x) = answered (f x)

-- ---- any file, by its first byte: a plan, its rounds in the words that are lent, or the choice of `offer_of`

abbrev pub outcome_of : List ℕ → List ℕ → Said Result
outcome_of file words = cond (eqb (get_or file 0 0) 70) (mapped planned (said (plan_of file words))) (mapped selected (said (offer_of file)))

-- which of the shortest plans is in the words afterwards is left free, and nothing else; of any other file the words are as they were
abbrev pub RoundWords : List ℕ → List ℕ → List ℕ → Type 0
RoundWords file old new = Buffer (read_job fittings file) old new (plan_of file old)

-- no more rounds than there are words
abbrev pub RoundsFit : Said Result → ℕ → Type 0
RoundsFit (refused_by number place) size = Unit {0}
RoundsFit (answered (selected c)) size = Unit {0}
RoundsFit (answered (planned k)) size = k ≤ size

-- the text of an outcome and its round words
abbrev pub text_of : Said Result → List ℕ → List ℕ
text_of (refused_by number place) words = refused_text number place
text_of (answered (selected c)) words = chosen_text 64 c.selection c.aside
text_of (answered (planned k)) words = rounds_text 32 k words

-- what the program prints of a file: it lends 16 words, all 0, and prints the text of the outcome and of some round words
abbrev pub blank_words : List ℕ
blank_words = list_to 16 (λ i. 0)

abbrev pub Prints : List ℕ → List ℕ → Type 0
Prints file text = (words : List ℕ) × RoundWords file blank_words words × (text ≡ text_of (outcome_of file blank_words) words)

-- what the code's outcome says
abbrev pub result_of : code.Answer → Result
result_of (code.Answer.Chosen c) = selected (record { selection = c.selection.bits; aside = c.aside.bits })
result_of (code.Answer.Rounds k) = planned k

abbrev pub outcome_told : Prelude.Result code.Answer Refusal → Said Result
outcome_told = result_said result_of
