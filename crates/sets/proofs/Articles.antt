-- What a set of articles keeps to, at any capacity (docs/RULES.md, "Sets, groups and filter"). Assumes nothing.
use mathlib.Core.Path.{◌≡◌, refl, ap, ◌∙◌}
use mathlib.Core.Bool.{Bool, true, false, cond}
use mathlib.Core.Logic.{◌≢◌}
use Prim.Native.Nat.{ℕ, ◌+◌, ◌^◌, ◌≤◌, ◌<◌}
use native.Mathlib.Omega.{arith}
use lib.Pow.{pow-lt}
use lib.Bits.{bit_or, or_lt, or_zero_r, and_zero_r}
use lib.Dec.{ltb}
use borrow.Author.Tests.{lt-ltb, le-ltb, ltb-true}
use Rattle.sets.specs.Sets.{bit, ◌∈◌, without, count}
use Rattle.sets.specs.Articles.{taking, giving_up}
use Rattle.sets.proofs.Bits.{more_same, more-other, more-again, less-same, less_other, less-again, without-le}
use Rattle.sets.proofs.Counts.{count-more, count_less}

module _ (capacity s i : ℕ) where
  -- What holds of s, and below the capacity of x, holds of "x below the capacity, else s": the form of both definitions.
  below-or-same : (P : ℕ → Type 0) (x : ℕ) → (i < capacity → P x) → P s → P (cond (ltb i capacity) x s)
  below-or-same P x inside same = go (ltb i capacity) refl
    where
      go : (b : Bool) → ltb i capacity ≡ b → P (cond b x s)
      go true e = inside (ltb-true i capacity e)
      go false e = same

  -- ---- a number at or above the capacity changes nothing

  pub taking-beyond : capacity ≤ i → taking capacity s i ≡ s
  unfolding taking
  taking-beyond l = rw (le-ltb i capacity l)

  pub giving-beyond : capacity ≤ i → giving_up capacity s i ≡ s
  unfolding giving_up
  giving-beyond l = rw (le-ltb i capacity l)

  -- ---- taking what it has and giving up what it lacks change nothing

  pub taking-again : i ∈ s → taking capacity s i ≡ s
  unfolding taking
  taking-again e = below-or-same (λ y. y ≡ s) (bit_or s (2 ^ i)) (λ l. more-again s i e) refl

  pub giving-again : bit s i ≡ 0 → giving_up capacity s i ≡ s
  unfolding giving_up
  giving-again z = below-or-same (λ y. y ≡ s) (without s (2 ^ i)) (λ l. less-again s i z) refl

  -- ---- the members after

  pub taking-is : i < capacity → taking capacity s i ≡ bit_or s (2 ^ i)
  unfolding taking
  taking-is l = rw (lt-ltb i capacity l)

  pub giving-is : i < capacity → giving_up capacity s i ≡ without s (2 ^ i)
  unfolding giving_up
  giving-is l = rw (lt-ltb i capacity l)

  pub taking-in : i < capacity → i ∈ taking capacity s i
  taking-in l = ap (λ (x : ℕ). bit x i) (taking-is l) ∙ more_same s i

  pub giving-out : i < capacity → bit (giving_up capacity s i) i ≡ 0
  giving-out l = ap (λ (x : ℕ). bit x i) (giving-is l) ∙ less-same s i

  pub taking-other : (j : ℕ) → j ≢ i → bit (taking capacity s i) j ≡ bit s j
  unfolding taking
  taking-other j d = below-or-same (λ y. bit y j ≡ bit s j) (bit_or s (2 ^ i)) (λ l. more-other s i j d) refl

  pub giving-other : (j : ℕ) → j ≢ i → bit (giving_up capacity s i) j ≡ bit s j
  unfolding giving_up
  giving-other j d = below-or-same (λ y. bit y j ≡ bit s j) (without s (2 ^ i)) (λ l. less_other s i j d) refl

  -- no set gets a member at or above its capacity
  pub taking-below : s < 2 ^ capacity → taking capacity s i < 2 ^ capacity
  unfolding taking
  taking-below h = below-or-same (λ y. y < 2 ^ capacity) (bit_or s (2 ^ i)) (λ l. or_lt capacity s (2 ^ i) h (pow-lt l)) h

  pub giving-below : s < 2 ^ capacity → giving_up capacity s i < 2 ^ capacity
  unfolding giving_up
  giving-below h = below-or-same (λ y. y < 2 ^ capacity) (without s (2 ^ i)) (λ l. omega (arith, without-le s (2 ^ i))) h

  -- ---- the count after

  pub taking-counts : i < capacity → bit s i ≡ 0 → count (taking capacity s i) ≡ count s + 1
  taking-counts l z = ap count (taking-is l) ∙ count-more s i z

  pub giving-counts : i < capacity → i ∈ s → count (giving_up capacity s i) + 1 ≡ count s
  giving-counts l e = ap (λ (x : ℕ). count x + 1) (giving-is l) ∙ count_less s i e

  -- ---- the code's way: it takes in or gives up the set of one article, or of none

  pub taking-alone : bit_or s (cond (ltb i capacity) (2 ^ i) 0) ≡ taking capacity s i
  unfolding taking
  taking-alone = go (ltb i capacity)
    where
      go : (b : Bool) → bit_or s (cond b (2 ^ i) 0) ≡ cond b (bit_or s (2 ^ i)) s
      go true = refl
      go false = or_zero_r s

  pub giving-alone : without s (cond (ltb i capacity) (2 ^ i) 0) ≡ giving_up capacity s i
  unfolding giving_up without
  giving-alone = go (ltb i capacity)
    where
      go : (b : Bool) → without s (cond b (2 ^ i) 0) ≡ cond b (without s (2 ^ i)) s
      go true = refl
      go false = omega (arith, and_zero_r s)
