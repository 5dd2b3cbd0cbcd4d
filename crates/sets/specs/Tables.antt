-- Tables: a list has a set for each number. No definition knows a width.
use Rattle.std.specs.Prelude.{List, ℕ, ◌^◌, get_or}
use Rattle.std.specs.Int.Bits.{bit_or}
use Rattle.sets.specs.Ranges.{given, list_to}
use Rattle.sets.specs.Sets.{member, set_of}

-- the table turned round: row i has the numbers below the width whose row has i
unfoldable pub transposed : ℕ → List ℕ → List ℕ
transposed width table = list_to width (λ i. set_of width (λ j. member (get_or table j 0) i))

-- the rows, with j put into those at the members of s
unfoldable pub marked : ℕ → List ℕ → ℕ → ℕ → List ℕ
marked width rows s j = list_to width (λ i. bit_or (get_or rows i 0) (given (member s i) (2 ^ j)))
