-- The definitions compute by themselves, past the width of a word too. Assumes nothing.
use mathlib.Core.Path.{◌≡◌, refl}
use mathlib.Core.Bool.{true}
use mathlib.Core.List.{[], ◌∷◌}
use mathlib.Core.Option.{some}
use Prim.Native.Nat.{◌+◌, ◌-◌, ◌*◌, ◌^◌}
use lib.Count.{count_trailing_zeros}
use lib.Dec.{leb, ltb}
use Rattle.sets.specs.Ranges.{every_to, sum_to, list_to}
use Rattle.sets.specs.Sets.{bit, without, part, every_pair, full, set_of, union_to, gathered, count_in, count, lowest}
use Rattle.sets.specs.First.{first_from}

-- how many members the full sets of 0, 100 and 200 numbers have, and the lowest member of what is left of the last without its first 150
pub counts : list_to 3 (λ i. count (full (100 * i))) ≡ 0 ∷ 100 ∷ 200 ∷ []
unfolding list_to count count_in
counts = refl

pub left_over : lowest 200 (without (full 200) (full 150)) ≡ 150
unfolding count_trailing_zeros without
left_over = refl

-- those of the first 300 numbers that are at least 3; and what the members 0, 2 and 299 have together, if each has itself
pub tested : set_of 300 (leb 3) ≡ 2 ^ 300 - 8
unfolding set_of sum_to
tested = refl

pub gathers : gathered 300 (2 ^ 299 + 5) (λ i. 2 ^ i) ≡ 2 ^ 299 + 5
unfolding gathered union_to bit
gathers = refl

-- every two members are tested in their order
pub pairs : every_pair 300 (2 ^ 299 + 5) ltb ≡ true
unfolding every_pair every_to bit
pairs = refl

-- the first number from 3 on of which 12 is a part, among as many as one likes
pub first : first_from (part 12) (2 ^ 300) 3 ≡ some 12
unfolding first_from part without
first = refl
