-- The laws of the count of members. A count is the sum of the bits, so a law on counts is a law on sums. Assumes nothing.
use mathlib.Core.Path.{◌≡◌, refl, sym, ap, ap₂, ◌∙◌}
use mathlib.Core.Bool.{Bool, true, false}
use Prim.Native.Nat.{ℕ, zero, suc, ◌+◌, ◌/◌, ◌%◌, ◌^◌, ◌≤◌, ◌<◌}
use native.Mathlib.Nat.{le_refl, le_trans, le_of_eq, pow-suc}
use native.Mathlib.Omega.{arith}
use lib.Arith.{half_le, lt-one}
use lib.Bits.{bit_and, bit_or, or_lt, and_le_l, and_zero_l}
use lib.Count.{ones, ones_step, ones-le, ones-ones}
use Rattle.sets.specs.Ranges.{given, sum_to}
use Rattle.sets.specs.Sets.{bit, ◌∈◌, member, without, ◌⊆◌, full, union_to, gathered, count_in, count}
use Rattle.sets.proofs.Ranges.{sum_low, sum_mono, sum-cong, sum-add}
use Rattle.sets.proofs.Bits.{bit-low, bit-suc, bit-and, bit-or, bit-without, half-below, below-pow, below_left, below_right, without-le, one-alone, in-apart, member-differs, less-same, less-more}

-- ---- two other forms of the count

-- what `u64::count_ones` gives, at every width
count-in : (d s : ℕ) → s ≤ d → count_in d s ≡ ones s
unfolding count_in ones
count-in zero zero h = refl
count-in zero (suc s) h = omega arith
count-in (suc d) zero h = refl
count-in (suc d) (suc s) h = ap (λ (x : ℕ). suc s % 2 + x) (count-in d (suc s / 2) (half_le h)) ∙ sym (ones_step (suc s))

pub count_ones : (s : ℕ) → count s ≡ ones s
unfolding count
count_ones s = count-in s s (le_refl s)

-- the sum of the bits
ones-sum : (w s : ℕ) → s < 2 ^ w → ones s ≡ sum_to w (bit s)
unfolding ones sum_to
ones-sum zero s h = ap ones (lt-one h)
ones-sum (suc w) s h =
    ones_step s
    ∙ ap₂ (λ (x y : ℕ). x + y) (sym (bit-low s)) (ones-sum w (s / 2) (half-below s w h) ∙ sum-cong w (bit (s / 2)) (λ i. bit s (suc i)) (λ i l. sym (bit-suc s i)))
    ∙ sym (sum_low w (bit s))

pub count-sum : (w s : ℕ) → s < 2 ^ w → count s ≡ sum_to w (bit s)
count-sum w s h = count_ones s ∙ ones-sum w s h

-- ---- counts of sets

pub count-empty : count 0 ≡ 0
unfolding count count_in
count-empty = refl

pub count-le : (w s : ℕ) → s < 2 ^ w → count s ≤ w
count-le w s h = omega (arith, count_ones s, ones-le w s h)

pub count-full : (w : ℕ) → count (full w) ≡ w
count-full w = count_ones (full w) ∙ ones-ones w

-- a part has no more members
pub count-part : (a b : ℕ) → a ⊆ b → count a ≤ count b
count-part a b h =
    omega (arith, count-sum (a + b) a (below_left a b), count-sum (a + b) b (below_right a b), sum_mono (a + b) (bit a) (bit b) (λ i l. h i))

-- a union and what its two sets share count as the two sets
pub count-or-and : (a b : ℕ) → count (bit_or a b) + count (bit_and a b) ≡ count a + count b
count-or-and a b =
    let w = a + b in
    omega (
      arith,
      count-sum w (bit_or a b) (or_lt w a b (below_left a b) (below_right a b)),
      count-sum w (bit_and a b) (omega (arith, and_le_l a b, below_left a b)),
      count-sum w a (below_left a b),
      count-sum w b (below_right a b),
      sum-add w (bit (bit_or a b)) (bit (bit_and a b)),
      sum-add w (bit a) (bit b),
      sum-cong w (λ i. bit (bit_or a b) i + bit (bit_and a b) i) (λ i. bit a i + bit b i) (λ i l. omega (arith, bit-or a b i, bit-and a b i)),
    )

pub count-or : (a b : ℕ) → count (bit_or a b) ≤ count a + count b
count-or a b = omega (arith, count-or-and a b)

-- a union of sets that share no member
pub count-apart : (a b : ℕ) → bit_and a b ≡ 0 → count (bit_or a b) ≡ count a + count b
count-apart a b e = omega (arith, count-or-and a b, ap count e, count-empty)

-- the rest, and what was taken off
pub count-without : (a b : ℕ) → count (without a b) + count (bit_and a b) ≡ count a
count-without a b =
    omega (
      arith,
      count-sum a (without a b) (omega (arith, without-le a b, below-pow a)),
      count-sum a (bit_and a b) (omega (arith, and_le_l a b, below-pow a)),
      count-sum a a (below-pow a),
      sum-add a (bit (without a b)) (bit (bit_and a b)),
      sum-cong a (λ i. bit (without a b) i + bit (bit_and a b) i) (bit a) (λ i l. omega (arith, bit-without a b i, bit-and a b i)),
    )

-- q is counted by its rest without s and by what of s lies in p, if q is a part of p
pub count-split : (q p s : ℕ) → q ⊆ p → count q ≤ count (without q s) + count (bit_and s p)
count-split q p s h =
    omega (arith, count-without q s, count-part (bit_and q s) (bit_and s p) (λ i. omega (arith, h i, bit-and q s i, bit-and s p i)))

-- ---- one member more, one member less

pub count-one : (t : ℕ) → count (2 ^ t) ≡ 1
count-one zero = count-full 1
count-one (suc t) =
    let half : 2 ^ suc t / 2 ≡ 2 ^ t = omega (arith, pow-suc 2 t) in
    omega (arith, count_ones (2 ^ suc t), ones_step (2 ^ suc t), ap ones half, count_ones (2 ^ t), count-one t, pow-suc 2 t)

pub count-more : (s t : ℕ) → bit s t ≡ 0 → count (bit_or s (2 ^ t)) ≡ count s + 1
count-more s t z =
    omega (arith, count-apart s (2 ^ t) (in-apart s (2 ^ t) (λ i e o. member-differs s i t e z (one-alone t i o))), count-one t)

pub count_less : (s t : ℕ) → t ∈ s → count (without s (2 ^ t)) + 1 ≡ count s
count_less s t e = sym (count-more (without s (2 ^ t)) t (less-same s t)) ∙ ap count (less-more s t e)

-- ---- unions over a range

-- what of a union lies in q is counted by its parts
pub count-union : (n : ℕ) (f : ℕ → ℕ) (q : ℕ) → count (bit_and (union_to n f) q) ≤ sum_to n (λ u. count (bit_and (f u) q))
unfolding union_to sum_to
count-union zero f q = omega (arith, count-part (bit_and 0 q) 0 (λ i. omega (arith, bit-and 0 q i)), count-empty)
count-union (suc k) f q =
    let a = union_to k f in
    omega (
      arith,
      count-union k f q,
      count-or (bit_and a q) (bit_and (f k) q),
      count-part (bit_and (bit_or a (f k)) q) (bit_or (bit_and a q) (bit_and (f k) q))
          (λ i. omega (arith, bit-and (bit_or a (f k)) q i, bit-or a (f k) i, bit-or (bit_and a q) (bit_and (f k) q) i, bit-and a q i, bit-and (f k) q i)),
    )

-- a part of a union is counted by the parts of the union
pub count-covered : (n : ℕ) (f : ℕ → ℕ) (q : ℕ) → q ⊆ union_to n f → count q ≤ sum_to n (λ u. count (bit_and (f u) q))
count-covered n f q h =
    omega (arith, count-union n f q, count-part q (bit_and (union_to n f) q) (λ i. omega (arith, h i, bit-and (union_to n f) q i)))

-- a part of what members have together is counted by what each member has of it
pub count-gathered : (n : ℕ) (f : ℕ → ℕ) (s q : ℕ) → q ⊆ gathered n s f → count q ≤ sum_to n (λ u. given (member s u) (count (bit_and (f u) q)))
unfolding gathered
count-gathered n f s q h =
    le_trans (count-covered n (λ u. given (member s u) (f u)) q h)
    (le_of_eq (sum-cong n (λ u. count (bit_and (given (member s u) (f u)) q)) (λ u. given (member s u) (count (bit_and (f u) q))) (λ u l. inside (member s u) (f u))))
  where
    inside : (t : Bool) (x : ℕ) → count (bit_and (given t x) q) ≡ given t (count (bit_and x q))
    inside true x = refl
    inside false x = ap count (and_zero_l q) ∙ count-empty
