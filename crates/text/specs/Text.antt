-- The text that the program prints, in bytes (docs/RULES.md, "The program").
use Rattle.std.specs.Prelude.{cond, List, [], ◌∷◌, ◌++◌, ℕ, zero, suc, ◌+◌, ◌/◌, ◌%◌, ltb, get_or}
use Rattle.sets.specs.Sets.{member}

-- ---- numbers and sets

-- the decimal digits of a number: the last one comes after those of its tenth. A number n has at most n + 1 digits
unfoldable pub digits : ℕ → ℕ → List ℕ
digits zero n = []
digits (suc most) n = cond (ltb n 10) ((48 + n) ∷ []) (digits most (n / 10) ++ ((48 + n % 10) ∷ []))

abbrev pub decimal : ℕ → List ℕ
decimal n = digits (suc n) n

-- the members of a set below n, ascending, with a space before each
unfoldable pub members : ℕ → ℕ → List ℕ
members zero s = []
members (suc i) s = members i s ++ cond (member s i) (32 ∷ decimal i) []

-- ---- lines; each ends with a newline, 10

-- "refused 2 at 45"
abbrev pub refused_text : ℕ → ℕ → List ℕ
refused_text number place =
    (114 ∷ 101 ∷ 102 ∷ 117 ∷ 115 ∷ 101 ∷ 100 ∷ 32 ∷ []) ++ decimal number ++ (32 ∷ 97 ∷ 116 ∷ 32 ∷ []) ++ decimal place ++ (10 ∷ [])

-- "chosen" and "aside", each with its articles, of w at most
abbrev pub chosen_text : ℕ → ℕ → ℕ → List ℕ
chosen_text w selection aside =
    (99 ∷ 104 ∷ 111 ∷ 115 ∷ 101 ∷ 110 ∷ []) ++ members w selection ++ (10 ∷ 97 ∷ 115 ∷ 105 ∷ 100 ∷ 101 ∷ []) ++ members w aside ++ (10 ∷ [])

-- "2: 1 2", round i + 1 and its steps, of w at most
abbrev pub round_text : ℕ → ℕ → ℕ → List ℕ
round_text w i round = decimal (suc i) ++ (58 ∷ []) ++ members w round ++ (10 ∷ [])

-- the first k rounds
unfoldable pub round_texts : ℕ → ℕ → List ℕ → List ℕ
round_texts w zero words = []
round_texts w (suc i) words = round_texts w i words ++ round_text w i (get_or words i 0)

-- "rounds 2", and these rounds
abbrev pub rounds_text : ℕ → ℕ → List ℕ → List ℕ
rounds_text w k words = (114 ∷ 111 ∷ 117 ∷ 110 ∷ 100 ∷ 115 ∷ 32 ∷ []) ++ decimal k ++ (10 ∷ []) ++ round_texts w k words
