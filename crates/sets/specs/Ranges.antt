-- Tests, and what is computed over the numbers 0, 1, .. n - 1. Every definition over a range takes its length n, and makes what it gives
-- for k + 1 from what it gives for k and the number k: the shape of a loop that counts up.
use Rattle.std.specs.Prelude.{Bool, true, false, List, [], ◌∷◌, ◌++◌, ℕ, zero, suc, ◌+◌, max}

-- ---- tests

-- the bit of a test: 1 if it passes, 0 if it fails
abbrev pub num : Bool → ℕ
num true = 1
num false = 0

-- x if the test passes, and 0 if it fails
abbrev pub given : Bool → ℕ → ℕ
given true x = x
given false x = 0

-- whether every number below n passes
unfoldable pub every_to : ℕ → (ℕ → Bool) → Bool
every_to zero test = true
every_to (suc k) test = elim (test k) [ true ↦ every_to k test | false ↦ false ]

-- whether some number below n passes
unfoldable pub any_to : ℕ → (ℕ → Bool) → Bool
any_to zero test = false
any_to (suc k) test = elim (test k) [ true ↦ true | false ↦ any_to k test ]

-- ---- ranges

-- f 0 + f 1 + .. + f (n - 1)
unfoldable pub sum_to : ℕ → (ℕ → ℕ) → ℕ
sum_to zero f = 0
sum_to (suc k) f = sum_to k f + f k

-- the greatest of f 0, f 1, .. f (n - 1); 0 if n is 0
unfoldable pub max_to : ℕ → (ℕ → ℕ) → ℕ
max_to zero f = 0
max_to (suc k) f = max (max_to k f) (f k)

-- the list f 0, f 1, .. f (n - 1)
unfoldable pub list_to : {A : Type 0} → ℕ → (ℕ → A) → List A
list_to zero f = []
list_to (suc k) f = list_to k f ++ (f k ∷ [])
