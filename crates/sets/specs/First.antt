-- The smallest number that has a property: as a function that computes, and as a statement.
use Rattle.std.specs.Prelude.{Bool, true, false, ℕ, zero, suc, ◌≤◌}
use Rattle.std.proofs.Math.Option.{Option, none, some}

-- the first of the n numbers from x on that passes the test
unfoldable pub first_from : (ℕ → Bool) → ℕ → ℕ → Option ℕ
first_from test zero x = none
first_from test (suc n) x = elim (test x) [ true ↦ some x | false ↦ first_from test n (suc x) ]

-- x has the property P and is at or above the floor, and every other such number is greater
pub record LeastFrom (P : ℕ → Type 0) (floor x : ℕ) : Type 0 where
  pub holds : P x
  pub above : floor ≤ x
  pub least : (y : ℕ) → P y → floor ≤ y → x ≤ y

-- the right answer to "which is the smallest number at or above the floor that has P": that number, or none exactly if there is none
abbrev pub Smallest : (ℕ → Type 0) → ℕ → Option ℕ → Type 0
Smallest P floor (some x) = LeastFrom P floor x
Smallest P floor none = (y : ℕ) → P y → floor ≤ y → ⊥
