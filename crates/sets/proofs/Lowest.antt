-- The laws of the lowest member. Assumes nothing.
use mathlib.Core.Path.{◌≡◌, refl, ap, ap₂, ◌∙◌}
use mathlib.Core.Logic.{◌⊎◌, inl, inr, ⊎_elim, ◌≢◌}
use Prim.Native.Nat.{ℕ, zero, suc, ◌-◌, ◌/◌, ◌%◌, ◌^◌, ◌≤◌, ◌<◌, min, max}
use native.Mathlib.Decide.{dec_lt, ℕ_discrete}
use native.Mathlib.Omega.{arith}
use lib.Pow.{pow_pos}
use lib.Bits.{bit_and, bit_or}
use lib.Count.{count_trailing_zeros, under}
use Rattle.sets.specs.Sets.{bit, ◌∈◌, without, full, gathered, lowest}
use Rattle.sets.proofs.Bits.{bit-low, bit-suc, bit_high, bit-and, bit-or, ext, below-pow, member_below, no_member, full-below, apart-add, in-apart, in-less, less-same, less_other, less-add}
use Rattle.sets.proofs.Made.{gathered-turn}

-- the lowest bit tells whether 0 is the lowest member
under-cases : (d t : ℕ) → d ≤ 1 → ((d ≡ 0) × (under d t ≡ suc t)) ⊎ ((d ≡ 1) × (under d t ≡ 0))
under-cases zero t h = inl (refl, refl)
under-cases (suc d) t h = inr (omega arith, refl)

step : (n s : ℕ) → ((s % 2 ≡ 0) × (lowest (suc n) s ≡ suc (lowest n (s / 2)))) ⊎ ((s % 2 ≡ 1) × (lowest (suc n) s ≡ 0))
unfolding count_trailing_zeros
step n s = under-cases (s % 2) (count_trailing_zeros n (s / 2)) (omega arith)

-- no member is below it
pub lowest-first : (n s i : ℕ) → i < lowest n s → bit s i ≡ 0
unfolding count_trailing_zeros
lowest-first zero s i h = absurd (omega arith)
lowest-first (suc n) s zero h = bit-low s ∙ ⊎_elim (λ c. c.0) (λ c. absurd (omega (arith, c.1))) (step n s)
lowest-first (suc n) s (suc i) h =
    bit-suc s i ∙ ⊎_elim (λ c. lowest-first n (s / 2) i (omega (arith, c.1))) (λ c. absurd (omega (arith, c.1))) (step n s)

-- if it is below n, it is a member
pub lowest-in : (n s : ℕ) → lowest n s < n → lowest n s ∈ s
unfolding count_trailing_zeros
lowest-in zero s h = absurd (omega arith)
lowest-in (suc n) s h =
    ⊎_elim
    (λ c. ap (bit s) c.1 ∙ bit-suc s (lowest n (s / 2)) ∙ lowest-in n (s / 2) (omega (arith, c.1)))
    (λ c. ap (bit s) c.1 ∙ bit-low s ∙ c.0)
    (step n s)

-- and so it is in a set of n bits that has a member
pub lowest-below : (n s : ℕ) → s < 2 ^ n → s ≢ 0 → lowest n s < n
lowest-below n s h d = go (dec_lt (lowest n s) n)
  where
    go : Dec (lowest n s < n) → lowest n s < n
    go (yes l) = l
    go (no l) = absurd (d (no_member s (λ i e. omega (arith, member_below s n i h e, lowest-first n s i (omega (arith, member_below s n i h e))))))

pub lowest-member : (n s : ℕ) → s < 2 ^ n → s ≢ 0 → lowest n s ∈ s
lowest-member n s h d = lowest-in n s (lowest-below n s h d)

-- a set that is not empty has a member
pub some-member : (s : ℕ) → s ≢ 0 → (i : ℕ) × (i ∈ s)
some-member s d = (lowest s s, lowest-member s s (below-pow s) d)

-- `s & (s - 1)` is s less its lowest member: s - 1 is the rest, with all numbers below that member
pub lowest-off : (n s : ℕ) → s < 2 ^ n → s ≢ 0 → bit_and s (s - 1) ≡ without s (2 ^ lowest n s)
lowest-off n s h d = ext (bit_and s (s - 1)) rest (λ i. same i (dec_lt i low) (ℕ_discrete i low))
  where
    low : ℕ
    low = lowest n s

    rest : ℕ
    rest = without s (2 ^ low)

    above : (i : ℕ) → i ∈ rest → i ∈ full low → ⊥
    above i e f = let (m, k) = in-less s low i e in omega (arith, lowest-first n s i (member_below (full low) low i (full-below low) f))

    one_less : s - 1 ≡ bit_or rest (full low)
    one_less = omega (arith, less-add s low (lowest-member n s h d), pow_pos low, apart-add rest (full low) (in-apart rest (full low) above))

    parts : (i : ℕ) → bit (bit_and s (s - 1)) i ≡ min (bit s i) (max (bit rest i) (bit (full low) i))
    parts i = bit-and s (s - 1) i ∙ ap (λ (b : ℕ). min (bit s i) b) (ap (λ (x : ℕ). bit x i) one_less ∙ bit-or rest (full low) i)

    same : (i : ℕ) → Dec (i < low) → Dec (i ≡ low) → bit (bit_and s (s - 1)) i ≡ bit rest i
    same i (yes l) (yes q) = absurd (omega arith)
    same i (yes l) (no k) = omega (arith, parts i, lowest-first n s i l, less_other s low i k)
    same i (no l) (yes q) =
        omega (arith, parts i, bit_high (full low) low i (full-below low) (omega arith), ap (bit rest) q, less-same s low)
    same i (no l) (no k) = omega (arith, parts i, bit_high (full low) low i (full-below low) (omega arith), less_other s low i k)

-- One turn of a loop that visits the members of s from the lowest up, as the code has it: a is the lowest member, r the rest,
-- and `all` is what the members visited before have together.
pub gathered-visit : (n : ℕ) (f : ℕ → ℕ) (all s a r : ℕ) → s < 2 ^ n → s ≢ 0 → a ≡ lowest n s → r ≡ without s (2 ^ lowest n s)
    → bit_or (bit_or all (f a)) (gathered n r f) ≡ bit_or all (gathered n s f)
gathered-visit n f all s a r h d ea er =
    ap₂ (λ (x y : ℕ). bit_or (bit_or all (f x)) (gathered n y f)) ea er
    ∙ gathered-turn n f all s (lowest n s) (lowest-below n s h d) (lowest-member n s h d)
