-- The laws of sets that are made: by a test, as a union, from the members of another set, as a complement. Assumes nothing.
use mathlib.Core.Path.{◌≡◌, refl, sym, ap, ap₂, ◌∙◌}
use mathlib.Core.Logic.{◌⊎◌, inl, inr}
use mathlib.Core.Bool.{Bool, true, false}
use Prim.Native.Nat.{ℕ, zero, suc, ◌+◌, ◌-◌, ◌*◌, ◌/◌, ◌%◌, ◌^◌, ◌≤◌, ◌<◌}
use native.Mathlib.Nat.{le_refl, pow-suc, mul_assoc, one-mul, zero-mul, mod-eq_of_lt}
use native.Mathlib.Decide.{dec_lt, ℕ_discrete}
use native.Mathlib.Numerals.{add-one}
use native.Mathlib.Omega.{arith}
use lib.Arith.{digits_mod, digits_div}
use lib.Pow.{pow_pos, pow-lt}
use lib.Bits.{bit_and, bit_or, or_lt, or_zero_r}
use Rattle.sets.specs.Ranges.{num, given, sum_to}
use Rattle.sets.specs.Sets.{bit, ◌∈◌, member, without, ◌⊆◌, full, set_of, union_to, gathered}
use Rattle.sets.proofs.Ranges.{below-cases, test-cases, num-le, num-true, true-num, sum-cong, given_yes, given-no}
use Rattle.sets.proofs.Bits.{member-yes, yes-member, bit_le, bit-cases, bit-low, bit-suc, bit_high, bit-empty, ext, bit-and, bit-or, bit-without, bit-minus, bit-full, part_in, in-part, part-full, member_below, no_member, more-add, less-in}

-- ---- those that pass a test

pub set_below : (n : ℕ) (test : ℕ → Bool) → set_of n test < 2 ^ n
unfolding set_of sum_to
set_below zero test = omega arith
set_below (suc k) test = go (test k) (set_below k test)
  where
    go : (b : Bool) → set_of k test < 2 ^ k → set_of k test + num b * 2 ^ k < 2 ^ suc k
    go true r = omega (arith, pow-suc 2 k, one-mul (2 ^ k))
    go false r = omega (arith, pow-suc 2 k, zero-mul (2 ^ k))

shift-up : (b k : ℕ) → b * 2 ^ suc k ≡ b * 2 ^ k * 2
shift-up b k = ap (λ (x : ℕ). b * x) (pow-suc 2 k) ∙ sym (mul_assoc b (2 ^ k) 2)

-- the lowest number apart
set-low : (n : ℕ) (test : ℕ → Bool) → set_of (suc n) test ≡ set_of n (λ i. test (suc i)) * 2 + num (test 0)
unfolding set_of sum_to
set-low zero test = omega arith
set-low (suc n) test = omega (arith, set-low n test, shift-up (num (test (suc n))) n)

pub set-bit : (n : ℕ) (test : ℕ → Bool) (i : ℕ) → i < n → bit (set_of n test) i ≡ num (test i)
set-bit zero test i l = omega arith
set-bit (suc n) test zero l =
    bit-low (set_of (suc n) test) ∙ ap (λ (x : ℕ). x % 2) (set-low n test) ∙ digits_mod (set_of n (λ i. test (suc i))) (omega (arith, num-le (test 0)))
set-bit (suc n) test (suc i) l =
    bit-suc (set_of (suc n) test) i
    ∙ ap (λ (x : ℕ). bit x i) (ap (λ (x : ℕ). x / 2) (set-low n test) ∙ digits_div (set_of n (λ i. test (suc i))) (omega (arith, num-le (test 0))))
    ∙ set-bit n (λ i. test (suc i)) i (omega arith)

pub set_past : (n : ℕ) (test : ℕ → Bool) (i : ℕ) → n ≤ i → bit (set_of n test) i ≡ 0
set_past n test i l = bit_high (set_of n test) n i (set_below n test) l

pub set-in : (n : ℕ) (test : ℕ → Bool) (i : ℕ) → i < n → test i ≡ true → i ∈ set_of n test
set-in n test i l e = set-bit n test i l ∙ num-true (test i) e

pub in-set : (n : ℕ) (test : ℕ → Bool) (i : ℕ) → i ∈ set_of n test → (i < n) × (test i ≡ true)
in-set n test i e = go (dec_lt i n)
  where
    go : Dec (i < n) → (i < n) × (test i ≡ true)
    go (yes l) = (l, true-num (test i) (sym (set-bit n test i l) ∙ e))
    go (no l) = absurd (omega (arith, set_past n test i (omega arith)))

-- whenever the one test passes, the other does
pub set-mono : (n : ℕ) (test other : ℕ → Bool) → ((i : ℕ) → i < n → test i ≡ true → other i ≡ true) → set_of n test ⊆ set_of n other
set-mono n test other h = in-part (set_of n test) (set_of n other) (λ i e. let (l, t) = in-set n test i e in set-in n other i l (h i l t))

-- a set of numbers below n that all pass is a part
pub part-set : (n s : ℕ) (test : ℕ → Bool) → s < 2 ^ n → ((i : ℕ) → i < n → i ∈ s → test i ≡ true) → s ⊆ set_of n test
part-set n s test h pass = in-part s (set_of n test) (λ i e. let l = member_below s n i h e in set-in n test i l (pass i l e))

pub set-cong : (n : ℕ) (test other : ℕ → Bool) → ((i : ℕ) → i < n → test i ≡ other i) → set_of n test ≡ set_of n other
unfolding set_of
set-cong n test other h = sum-cong n (λ i. num (test i) * 2 ^ i) (λ i. num (other i) * 2 ^ i) (λ i l. ap (λ (t : Bool). num t * 2 ^ i) (h i l))

-- one turn of a loop that counts up by `u + 1` and takes u in if it passes
pub set-take : (u : ℕ) (test : ℕ → Bool) → test u ≡ true → set_of (u + 1) test ≡ bit_or (set_of u test) (2 ^ u)
unfolding set_of sum_to
set-take u test e =
    rw add-one (ap (λ (t : Bool). set_of u test + num t * 2 ^ u) e ∙ ap (λ (x : ℕ). set_of u test + x) (one-mul (2 ^ u))
    ∙ sym (more-add (set_of u test) u (set_past u test u (le_refl u))))

pub set-skip : (u : ℕ) (test : ℕ → Bool) → test u ≡ false → set_of (u + 1) test ≡ set_of u test
unfolding set_of sum_to
set-skip u test e = rw add-one (ap (λ (t : Bool). set_of u test + num t * 2 ^ u) e ∙ omega (arith, zero-mul (2 ^ u)))

-- the same as one equation
pub set-turn : (u : ℕ) (test : ℕ → Bool) → set_of (u + 1) test ≡ bit_or (set_of u test) (given (test u) (2 ^ u))
set-turn u test = go (test-cases (test u))
  where
    go : (test u ≡ true) ⊎ (test u ≡ false) → set_of (u + 1) test ≡ bit_or (set_of u test) (given (test u) (2 ^ u))
    go (inl t) = set-take u test t ∙ ap (bit_or (set_of u test)) (sym (given_yes (test u) (2 ^ u) t))
    go (inr t) = set-skip u test t ∙ sym (or_zero_r (set_of u test)) ∙ ap (bit_or (set_of u test)) (sym (given-no (test u) (2 ^ u) t))

-- one turn of a loop that makes a set, in which u is taken in if it passed
pub set-made : (test : ℕ → Bool) (s u r : ℕ) (passed : Bool) → s ≡ set_of u test → passed ≡ test u → r ≡ bit_or s (given passed (2 ^ u)) → r ≡ set_of (u + 1) test
set-made test s u r passed es ep e = e ∙ ap₂ (λ (x : ℕ) (t : Bool). bit_or x (given t (2 ^ u))) es ep ∙ sym (set-turn u test)

-- ---- unions

-- each set is a part of the union
pub union-at : (n : ℕ) (f : ℕ → ℕ) (u : ℕ) → u < n → f u ⊆ union_to n f
unfolding union_to
union-at zero f u h i = omega arith
union-at (suc k) f u h i = go (union-at k f u) (below-cases h)
  where
    go : (u < k → f u ⊆ union_to k f) → (u ≡ k) ⊎ (u < k) → bit (f u) i ≤ bit (bit_or (union_to k f) (f k)) i
    go r (inl e) = rw e (omega (arith, bit-or (union_to k f) (f k) i))
    go r (inr l) = omega (arith, bit-or (union_to k f) (f k) i, r l i)

-- a member of the union is one of some set
pub union-from : (n : ℕ) (f : ℕ → ℕ) (i : ℕ) → i ∈ union_to n f → (u : ℕ) × (u < n) × (i ∈ f u)
unfolding union_to
union-from zero f i e = absurd (omega (arith, bit-empty i))
union-from (suc k) f i e = go (union-from k f i) (bit-cases (f k) i)
  where
    go : (i ∈ union_to k f → (u : ℕ) × (u < k) × (i ∈ f u)) → (bit (f k) i ≡ 0) ⊎ (bit (f k) i ≡ 1) → (u : ℕ) × (u < suc k) × (i ∈ f u)
    go r (inl z) = let (u, l, h) = r (omega (arith, bit-or (union_to k f) (f k) i)) in (u, omega arith, h)
    go r (inr o) = (k, le_refl (suc k), o)

pub union-mono : (n : ℕ) (f g : ℕ → ℕ) → ((u : ℕ) → u < n → f u ⊆ g u) → union_to n f ⊆ union_to n g
union-mono n f g h =
    in-part (union_to n f) (union_to n g)
    (λ i e. let (u, l, m) = union-from n f i e in part_in (g u) (union_to n g) (union-at n g u l) i (part_in (f u) (g u) (h u l) i m))

-- a bound on every set bounds the union
pub union-below : (w n : ℕ) (f : ℕ → ℕ) → ((u : ℕ) → u < n → f u < 2 ^ w) → union_to n f < 2 ^ w
unfolding union_to
union-below w zero f h = pow_pos w
union-below w (suc k) f h = or_lt w (union_to k f) (f k) (union-below w k f (λ u l. h u (omega arith))) (h k (le_refl (suc k)))

-- ---- what the members of a set have together

-- a member of a set that is there only if a test passes
pub given-in : (t : Bool) (s i : ℕ) → i ∈ given t s → (t ≡ true) × (i ∈ s)
given-in true s i e = (refl, e)
given-in false s i e = absurd (omega (arith, bit-empty i))

module _ (n : ℕ) (f : ℕ → ℕ) where
  pub gathered-at : (s a : ℕ) → a < n → a ∈ s → f a ⊆ gathered n s f
  unfolding gathered
  gathered-at s a l e i =
      omega (arith, union-at n (λ a. given (member s a) (f a)) a l i, ap (λ (x : ℕ). bit x i) (given_yes (member s a) (f a) (member-yes s a e)))

  pub gathered-from : (s i : ℕ) → i ∈ gathered n s f → (a : ℕ) × (a < n) × (a ∈ s) × (i ∈ f a)
  unfolding gathered
  gathered-from s i e =
      let (a, l, g) = union-from n (λ a. given (member s a) (f a)) i e in
      let (t, m) = given-in (member s a) (f a) i g in
      (a, l, yes-member s a t, m)

  -- a bound on what each member has bounds it all
  pub gathered-below : (w s : ℕ) → ((a : ℕ) → a < n → a ∈ s → f a < 2 ^ w) → gathered n s f < 2 ^ w
  unfolding gathered
  gathered-below w s h = union-below w n (λ a. given (member s a) (f a)) (λ a l. go a l (member s a) refl)
    where
      go : (a : ℕ) → a < n → (t : Bool) → member s a ≡ t → given t (f a) < 2 ^ w
      go a l true e = h a l (yes-member s a e)
      go a l false e = pow_pos w

  pub gathered-mono : (s t : ℕ) → s ⊆ t → gathered n s f ⊆ gathered n t f
  gathered-mono s t h =
      in-part (gathered n s f) (gathered n t f)
      (λ i e. let (a, l, b, m) = gathered-from s i e in part_in (f a) (gathered n t f) (gathered-at t a l (part_in s t h a b)) i m)

  pub gathered_none : gathered n 0 f ≡ 0
  gathered_none = no_member (gathered n 0 f) (λ i e. let (a, l, b, m) = gathered-from 0 i e in omega (arith, bit-empty a))

  -- a member apart
  pub gathered-less : (s a : ℕ) → a < n → a ∈ s → gathered n s f ≡ bit_or (f a) (gathered n (without s (2 ^ a)) f)
  gathered-less s a l e = ext (gathered n s f) (bit_or (f a) rest) (λ i. omega (arith, there i, back i))
    where
      rest : ℕ
      rest = gathered n (without s (2 ^ a)) f

      there : (i : ℕ) → bit (gathered n s f) i ≤ bit (bit_or (f a) rest) i
      there =
          in-part (gathered n s f) (bit_or (f a) rest)
          (λ i g. let (b, k, m, h) = gathered-from s i g in go i b k m h (ℕ_discrete b a))
        where
          go : (i b : ℕ) → b < n → b ∈ s → i ∈ f b → Dec (b ≡ a) → i ∈ bit_or (f a) rest
          go i b k m h (yes q) = omega (arith, bit-or (f a) rest i, ap (λ (c : ℕ). bit (f c) i) q, bit_le rest i)
          go i b k m h (no d) =
              omega (arith, bit-or (f a) rest i, bit_le (f a) i, bit_le rest i, gathered-at (without s (2 ^ a)) b k (less-in s a b m d) i)

      back : (i : ℕ) → bit (bit_or (f a) rest) i ≤ bit (gathered n s f) i
      back i =
          omega (
            arith,
            bit-or (f a) rest i,
            gathered-at s a l e i,
            gathered-mono (without s (2 ^ a)) s (λ j. omega (arith, bit-without s (2 ^ a) j)) i,
          )

  -- one turn of a loop over the members: `all` is what those visited before have
  pub gathered-turn : (all s a : ℕ) → a < n → a ∈ s → bit_or (bit_or all (f a)) (gathered n (without s (2 ^ a)) f) ≡ bit_or all (gathered n s f)
  gathered-turn all s a l e =
      let rest = gathered n (without s (2 ^ a)) f in
      ext (bit_or (bit_or all (f a)) rest) (bit_or all (bit_or (f a) rest))
      (λ i. omega (arith, bit-or (bit_or all (f a)) rest i, bit-or all (f a) i, bit-or all (bit_or (f a) rest) i, bit-or (f a) rest i))
      ∙ ap (bit_or all) (sym (gathered-less s a l e))

  -- and its end
  pub gathered-end : (all s : ℕ) → s ≡ 0 → bit_or all (gathered n s f) ≡ all
  gathered-end all s e = ap (λ (t : ℕ). bit_or all (gathered n t f)) e ∙ ap (bit_or all) gathered_none ∙ or_zero_r all

-- a range that has all members is wide enough
pub gathered-part : (n m s : ℕ) (f : ℕ → ℕ) → s < 2 ^ m → gathered n s f ⊆ gathered m s f
gathered-part n m s f h =
    in-part (gathered n s f) (gathered m s f)
    (λ i e. let (a, l, b, o) = gathered-from n f s i e in part_in (f a) (gathered m s f) (gathered-at m f s a (member_below s m a h b) b) i o)

-- ---- complements

-- all numbers below w that a lacks, as the machine makes them
pub bit_not : (w a i : ℕ) → a < 2 ^ w → i < w → bit (full w - a) i ≡ 1 - bit a i
bit_not w a i h l = omega (arith, bit-minus a (full w) i (part-full w a h), bit-full w i l)

pub and-not : (w a b : ℕ) → a < 2 ^ w → b < 2 ^ w → bit_and a (full w - b) ≡ without a b
and-not w a b ha hb = ext (bit_and a (full w - b)) (without a b) (λ i. go i (dec_lt i w))
  where
    go : (i : ℕ) → Dec (i < w) → bit (bit_and a (full w - b)) i ≡ bit (without a b) i
    go i (yes l) = omega (arith, bit-and a (full w - b) i, bit-without a b i, bit_not w b i hb l, bit_le a i)
    go i (no l) = omega (arith, bit-and a (full w - b) i, bit-without a b i, bit_high a w i ha (omega arith))

-- one member, as a shift makes it
pub shl_one : (w i : ℕ) → i < w → (1 * 2 ^ i) % 2 ^ w ≡ 2 ^ i
shl_one w i h = ap (λ (x : ℕ). x % 2 ^ w) (one-mul (2 ^ i)) ∙ mod-eq_of_lt (pow-lt h)
