-- Sets of numbers as numbers (docs/RULES.md, "Job files"): i is a member of s exactly if bit i of s is 1.
-- A bit is a number, 0 or 1, so that linear arithmetic does the reasoning on sets. No definition here knows a width:
-- a number has as many bits as one asks for, and if a range is meant, its length n is a parameter.
use Rattle.std.specs.Prelude.{◌≡◌, Bool, not, ◌||◌, ℕ, zero, suc, ◌+◌, ◌-◌, ◌*◌, ◌/◌, ◌%◌, ◌^◌, ◌≤◌, eqb}
use Rattle.std.specs.Int.Bits.{bit_and, bit_or}
use Rattle.std.specs.Int.Count.{count_trailing_zeros}
use Rattle.sets.specs.Ranges.{num, given, every_to, sum_to}

infix 40 ◌∈◌ ◌⊆◌
-- ---- members

-- bit i of s: 1 if i is a member, and 0 if it is not
unfoldable pub bit : ℕ → ℕ → ℕ
bit s i = s / 2 ^ i % 2

-- i is a member of s; the same as a test
abbrev pub ◌∈◌ : ℕ → ℕ → Type 0
i ∈ s = bit s i ≡ 1

abbrev pub member : ℕ → ℕ → Bool
member s i = eqb (bit s i) 1

-- the members of a that b lacks
unfoldable pub without : ℕ → ℕ → ℕ
without a b = a - bit_and a b

-- a is a part of b: every member of a is one of b; the same as a test
abbrev pub ◌⊆◌ : ℕ → ℕ → Type 0
a ⊆ b = (i : ℕ) → bit a i ≤ bit b i

unfoldable pub part : ℕ → ℕ → Bool
part a b = eqb (without a b) 0

-- whether a and b have a member in common
unfoldable pub meets : ℕ → ℕ → Bool
meets a b = not (eqb (bit_and a b) 0)

-- whether every two members u < v of s below n pass the test
unfoldable pub every_pair : ℕ → ℕ → (ℕ → ℕ → Bool) → Bool
every_pair n s test = every_to n (λ v. not (member s v) || every_to v (λ u. not (member s u) || test u v))

-- ---- sets that are made

-- all numbers below n
abbrev pub full : ℕ → ℕ
full n = 2 ^ n - 1

-- those numbers below n that pass the test: the sum of 2 ^ i over them
unfoldable pub set_of : ℕ → (ℕ → Bool) → ℕ
set_of n test = sum_to n (λ i. num (test i) * 2 ^ i)

-- the union of f 0, f 1, .. f (n - 1)
unfoldable pub union_to : ℕ → (ℕ → ℕ) → ℕ
union_to zero f = 0
union_to (suc k) f = bit_or (union_to k f) (f k)

-- what the members of s below n have together, if each i has the set f i
unfoldable pub gathered : ℕ → ℕ → (ℕ → ℕ) → ℕ
gathered n s f = union_to n (λ i. given (member s i) (f i))

-- ---- what a set tells

-- how many of the d lowest bits of s are 1. It stops when no bit is left, so that it computes at any width
unfoldable pub count_in : ℕ → ℕ → ℕ
count_in zero s = 0
count_in (suc d) zero = 0
count_in (suc d) (suc s) = suc s % 2 + count_in d (suc s / 2)

-- how many members s has: the bits of s from bit s on are 0
unfoldable pub count : ℕ → ℕ
count s = count_in s s

-- the lowest member of s below n, and n if there is none
abbrev pub lowest : ℕ → ℕ → ℕ
lowest n s = count_trailing_zeros n s
