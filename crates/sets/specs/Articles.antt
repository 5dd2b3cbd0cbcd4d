-- What becomes of a set of articles (docs/RULES.md, "Sets, groups and filter"). The empty set is the number 0, and its count is that of Sets.
-- proofs/Articles.antt shows that a set stays as it is whenever the rules say so.
use Rattle.std.specs.Prelude.{cond, ℕ, ◌^◌, ltb}
use Rattle.std.specs.Int.Bits.{bit_or}
use Rattle.sets.specs.Sets.{without}

-- the set s after taking article i: a number at or above the capacity leaves it alone
unfoldable pub taking : ℕ → ℕ → ℕ → ℕ
taking capacity s i = cond (ltb i capacity) (bit_or s (2 ^ i)) s

-- the set s after giving article i up, likewise
unfoldable pub giving_up : ℕ → ℕ → ℕ → ℕ
giving_up capacity s i = cond (ltb i capacity) (without s (2 ^ i)) s
