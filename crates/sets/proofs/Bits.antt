-- The laws of bits: a set operation's bit is a `min`, `max` or difference of bits, and sets with equal bits are equal,
-- so that a fact on sets is linear arithmetic at one bit. Assumes nothing.
use mathlib.Core.Path.{◌≡◌, refl, sym, ap, ap₂, ◌∙◌}
use mathlib.Core.Logic.{◌⊎◌, inl, inr, ◌≢◌}
use mathlib.Core.Bool.{Bool, true, false, not, ◌||◌}
use Prim.Native.Nat.{ℕ, zero, suc, ◌+◌, ◌-◌, ◌*◌, ◌/◌, ◌%◌, ◌^◌, ◌≤◌, ◌<◌, zero-le, min, max}
use native.Mathlib.Nat.{le_refl, le_of_eq, le-div_iff_mul-le, one-mul, mod-lt, div-one, zero-lt-suc, pow-suc, le_of_suc-le-suc, div-div-eq-div-mul, div-eq_of_lt, mul_comm, mod-eq_of_lt}
use native.Mathlib.Decide.{dec_lt, ℕ_discrete}
use native.Mathlib.Omega.{arith}
use lib.Arith.{bin_ind, digits_mod, lt-one, le-zero}
use lib.Pow.{pow_pos, pow_mono, pow-lt, shl-shr, shr-shr}
use lib.Bits.{bit_and, bit_or, and_comm, and_shr, or_shr, and_step, or_step, and_le_l, and_le_r, or_add_and, or_disjoint, and_mask, shifted_even, shifted_half}
use lib.Dec.{leb, eqb}
use borrow.Author.Tests.{leb-true, leb-false, eq-eqb, ne_eqb, eqb-true, eqb-false, not-false}
use Rattle.sets.specs.Ranges.{num, every_to}
use Rattle.sets.specs.Sets.{bit, ◌∈◌, member, without, ◌⊆◌, part, meets, every_pair, full}
use Rattle.sets.proofs.Ranges.{where-true, true-where, num-true, num-false, every-at, at_every}

-- ---- one bit

pub bit_le : (s i : ℕ) → bit s i ≤ 1
unfolding bit
bit_le s i = le_of_suc-le-suc (mod-lt (s / 2 ^ i) (zero-lt-suc 1))

pub bit-cases : (s i : ℕ) → (bit s i ≡ 0) ⊎ (bit s i ≡ 1)
bit-cases s i = go (bit s i) (bit_le s i)
  where
    go : (b : ℕ) → b ≤ 1 → (b ≡ 0) ⊎ (b ≡ 1)
    go zero h = inl refl
    go (suc b) h = inr (omega arith)

pub not_in : (s i : ℕ) → (i ∈ s → ⊥) → bit s i ≡ 0
not_in s i h = go (bit-cases s i)
  where
    go : (bit s i ≡ 0) ⊎ (bit s i ≡ 1) → bit s i ≡ 0
    go (inl z) = z
    go (inr e) = absurd (h e)

-- the lowest bit, and the bits of the half
pub bit-low : (s : ℕ) → bit s 0 ≡ s % 2
unfolding bit
bit-low s = ap (λ (x : ℕ). x % 2) (div-one s)

pub bit-suc : (s i : ℕ) → bit s (suc i) ≡ bit (s / 2) i
unfolding bit
bit-suc s i = ap (λ (x : ℕ). x % 2) (ap (λ (x : ℕ). s / x) (pow-suc 2 i ∙ mul_comm (2 ^ i) 2) ∙ sym (div-div-eq-div-mul s 2 (2 ^ i)))

-- the bits from k on are those of s / 2 ^ k
pub bit-shift : (s k i : ℕ) → bit (s / 2 ^ k) i ≡ bit s (k + i)
unfolding bit
bit-shift s k i = ap (λ (x : ℕ). x % 2) (shr-shr s k i)

-- a number below 2 ^ k has no member at or above k
pub bit_high : (s k i : ℕ) → s < 2 ^ k → k ≤ i → bit s i ≡ 0
unfolding bit
bit_high s k i h l = ap (λ (x : ℕ). x % 2) (div-eq_of_lt (omega (arith, pow_mono l)))

pub bit-empty : (i : ℕ) → bit 0 i ≡ 0
bit-empty i = bit_high 0 0 i (omega arith) zero-le

pub member_below : (s k i : ℕ) → s < 2 ^ k → i ∈ s → i < k
member_below s k i h e = go (dec_lt i k)
  where
    go : Dec (i < k) → i < k
    go (yes l) = l
    go (no l) = absurd (omega (arith, bit_high s k i h (omega arith)))

-- ---- equality by bits

-- a number has no more bits than its value
pub below-pow : (n : ℕ) → n < 2 ^ n
below-pow zero = omega arith
below-pow (suc n) = omega (arith, below-pow n, pow-suc 2 n)

-- one width for two numbers
pub below_left : (a b : ℕ) → a < 2 ^ (a + b)
below_left a b = omega (arith, below-pow a, pow_mono {i = a} {j = a + b} (omega arith))

pub below_right : (a b : ℕ) → b < 2 ^ (a + b)
below_right a b = omega (arith, below-pow b, pow_mono {i = b} {j = a + b} (omega arith))

pub half-below : (s k : ℕ) → s < 2 ^ suc k → s / 2 < 2 ^ k
half-below s k h = omega (arith, pow-suc 2 k)

pub ext-below : (k a b : ℕ) → a < 2 ^ k → b < 2 ^ k → ((i : ℕ) → i < k → bit a i ≡ bit b i) → a ≡ b
ext-below zero a b ha hb h = lt-one ha ∙ sym (lt-one hb)
ext-below (suc k) a b ha hb h =
    let low : a % 2 ≡ b % 2 = sym (bit-low a) ∙ h 0 (zero-lt-suc k) ∙ bit-low b in
    let high : a / 2 ≡ b / 2 = ext-below k (a / 2) (b / 2) (half-below a k ha) (half-below b k hb) (λ i l. sym (bit-suc a i) ∙ h (suc i) (omega arith) ∙ bit-suc b i) in
    omega arith

-- two sets with the same bits are equal
pub ext : (a b : ℕ) → ((i : ℕ) → bit a i ≡ bit b i) → a ≡ b
ext a b h = ext-below (a + b) a b (below_left a b) (below_right a b) (λ i l. h i)

-- the same, by the bit t and the others
pub ext-at : (t a b : ℕ) → bit a t ≡ bit b t → ((i : ℕ) → i ≢ t → bit a i ≡ bit b i) → a ≡ b
ext-at t a b here else = ext a b (λ i. go i (ℕ_discrete i t))
  where
    go : (i : ℕ) → Dec (i ≡ t) → bit a i ≡ bit b i
    go i (yes q) = rw q here
    go i (no d) = else i d

-- ---- the bits of and, or, without

-- an operation that works bit by bit
bit-by-bit : (op f : ℕ → ℕ → ℕ) → ((a b k : ℕ) → op a b / 2 ^ k ≡ op (a / 2 ^ k) (b / 2 ^ k)) → ((a b : ℕ) → op a b ≡ op (a / 2) (b / 2) * 2 + f (a % 2) (b % 2))
    → ((x y : ℕ) → f (x % 2) (y % 2) < 2) → (a b i : ℕ) → bit (op a b) i ≡ f (bit a i) (bit b i)
unfolding bit
bit-by-bit op f shift step low a b i =
    let x = a / 2 ^ i in
    let y = b / 2 ^ i in
    ap (λ (z : ℕ). z % 2) (shift a b i ∙ step x y) ∙ digits_mod (op (x / 2) (y / 2)) (low x y)

pub bit-and : (a b i : ℕ) → bit (bit_and a b) i ≡ min (bit a i) (bit b i)
bit-and = bit-by-bit bit_and min and_shr and_step (λ x y. omega arith)

pub bit-or : (a b i : ℕ) → bit (bit_or a b) i ≡ max (bit a i) (bit b i)
bit-or = bit-by-bit bit_or max or_shr or_step (λ x y. omega arith)

without-low : (a b : ℕ) → without a b % 2 ≡ a % 2 - b % 2
unfolding without
without-low a b = omega (arith, and_step a b, and_le_l (a / 2) (b / 2))

without-half : (a b : ℕ) → without a b / 2 ≡ without (a / 2) (b / 2)
unfolding without
without-half a b = omega (arith, and_step a b, and_le_l (a / 2) (b / 2))

pub bit-without : (a b i : ℕ) → bit (without a b) i ≡ bit a i - bit b i
bit-without a b zero = bit-low (without a b) ∙ without-low a b ∙ ap₂ (λ (x y : ℕ). x - y) (sym (bit-low a)) (sym (bit-low b))
bit-without a b (suc i) =
    bit-suc (without a b) i ∙ ap (λ (x : ℕ). bit x i) (without-half a b) ∙ bit-without (a / 2) (b / 2) i
    ∙ ap₂ (λ (x y : ℕ). x - y) (sym (bit-suc a i)) (sym (bit-suc b i))

-- ---- the bits of a power of two: one member

pow-half : (t : ℕ) → 2 ^ suc t / 2 ≡ 2 ^ t
pow-half t = omega (arith, pow-suc 2 t)

pub bit-one : (t : ℕ) → t ∈ 2 ^ t
bit-one zero = bit-low 1
bit-one (suc t) = bit-suc (2 ^ suc t) t ∙ ap (λ (x : ℕ). bit x t) (pow-half t) ∙ bit-one t

pub one-alone : (t i : ℕ) → i ∈ 2 ^ t → i ≡ t
one-alone zero zero e = refl
one-alone zero (suc i) e = omega (arith, bit-suc 1 i, bit-empty i)
one-alone (suc t) zero e = omega (arith, bit-low (2 ^ suc t), pow-suc 2 t)
one-alone (suc t) (suc i) e = ap suc (one-alone t i (ap (λ (x : ℕ). bit x i) (sym (pow-half t)) ∙ sym (bit-suc (2 ^ suc t) i) ∙ e))

pub bit-other : (t i : ℕ) → i ≢ t → bit (2 ^ t) i ≡ 0
bit-other t i d = not_in (2 ^ t) i (λ e. d (one-alone t i e))

-- ---- parts

pub part-refl : (a : ℕ) → a ⊆ a
part-refl a i = le_refl (bit a i)

pub part_in : (a b : ℕ) → a ⊆ b → (i : ℕ) → i ∈ a → i ∈ b
part_in a b h i e = omega (arith, h i, bit_le b i)

pub in-part : (a b : ℕ) → ((i : ℕ) → i ∈ a → i ∈ b) → a ⊆ b
in-part a b h i = go (bit-cases a i)
  where
    go : (bit a i ≡ 0) ⊎ (bit a i ≡ 1) → bit a i ≤ bit b i
    go (inl z) = omega arith
    go (inr e) = omega (arith, h i e)

-- a part is no greater a number
pub part-le : (a b : ℕ) → a ⊆ b → a ≤ b
part-le a =
    bin_ind (λ (n : ℕ). (b : ℕ) → n ⊆ b → n ≤ b) (λ b h. zero-le)
    (λ n ih b h.
    let up : n / 2 ≤ b / 2 = ih (b / 2) (λ i. omega (arith, h (suc i), bit-suc n i, bit-suc b i)) in
    omega (arith, h 0, bit-low n, bit-low b))
    a

-- a set with no member is 0
pub no_member : (s : ℕ) → ((i : ℕ) → i ∈ s → ⊥) → s ≡ 0
no_member s h = le-zero (part-le s 0 (in-part s 0 (λ i e. absurd (h i e))))

-- every set of k bits is a part of all numbers below k
pub part-full : (k s : ℕ) → s < 2 ^ k → s ⊆ full k
part-full k s h i = omega (arith, ap (λ (x : ℕ). bit x i) (and_mask s k ∙ mod-eq_of_lt h), bit-and s (full k) i)

pub full-below : (k : ℕ) → full k < 2 ^ k
full-below k = omega (arith, pow_pos k)

-- the bits of all numbers below k
pub bit-full : (k i : ℕ) → i < k → bit (full k) i ≡ 1
bit-full k i l = part_in (2 ^ i) (full k) (part-full k (2 ^ i) (pow-lt l)) i (bit-one i)

-- a part of a set of k bits has k bits
pub part-below : (k a b : ℕ) → a ⊆ b → b < 2 ^ k → a < 2 ^ k
part-below k a b h l = omega (arith, part-le a b h)

pub without-none : (a b : ℕ) → a ⊆ b → without a b ≡ 0
without-none a b h = ext (without a b) 0 (λ i. omega (arith, bit-without a b i, h i, bit-empty i))

pub without-part : (a b : ℕ) → without a b ≡ 0 → a ⊆ b
without-part a b e i = omega (arith, bit-without a b i, ap (λ (x : ℕ). bit x i) e, bit-empty i)

-- ---- the tests say what the statements say

pub member-yes : (s i : ℕ) → i ∈ s → member s i ≡ true
member-yes s i e = eq-eqb (bit s i) 1 e

pub yes-member : (s i : ℕ) → member s i ≡ true → i ∈ s
yes-member s i t = eqb-true (bit s i) 1 t

pub member-no : (s i : ℕ) → bit s i ≡ 0 → member s i ≡ false
member-no s i e = ne_eqb (bit s i) 1 (λ q. let z : ⊥ = omega arith in z)

pub member-num : (s i : ℕ) (b : Bool) → bit s i ≡ num b → member s i ≡ b
member-num s i true e = member-yes s i e
member-num s i false e = member-no s i e

pub not-member : (s i : ℕ) → member s i ≡ false → bit s i ≡ 0
not-member s i t = not_in s i (eqb-false (bit s i) 1 t)

pub num-member : (s i : ℕ) → num (member s i) ≡ bit s i
num-member s i = go (bit-cases s i)
  where
    go : (bit s i ≡ 0) ⊎ (bit s i ≡ 1) → num (member s i) ≡ bit s i
    go (inl z) = num-false (member s i) (member-no s i z) ∙ sym z
    go (inr e) = num-true (member s i) (member-yes s i e) ∙ sym e

pub part-yes : (a b : ℕ) → a ⊆ b → part a b ≡ true
unfolding part
part-yes a b h = eq-eqb (without a b) 0 (without-none a b h)

pub yes-part : (a b : ℕ) → part a b ≡ true → a ⊆ b
unfolding part
yes-part a b t = without-part a b (eqb-true (without a b) 0 t)

-- "if i is a member, b" as a test
pub where-in : (s i : ℕ) (b : Bool) → (i ∈ s → b ≡ true) → not (member s i) || b ≡ true
where-in s i b h = where-true (member s i) b (λ e. h (yes-member s i e))

pub in-where : (s i : ℕ) (b : Bool) → i ∈ s → not (member s i) || b ≡ true → b ≡ true
in-where s i b e t = true-where (member s i) b (member-yes s i e) t

-- every two members of a set of n bits pass the test, said both ways
pub every-pair : (n s : ℕ) (test : ℕ → ℕ → Bool) → s < 2 ^ n → every_pair n s test ≡ true → (u v : ℕ) → u < v → u ∈ s → v ∈ s → test u v ≡ true
unfolding every_pair
every-pair n s test h t u v l eu ev =
    in-where s u (test u v) eu (every-at v (λ u. not (member s u) || test u v)
    (in-where s v (every_to v (λ u. not (member s u) || test u v)) ev
    (every-at n (λ v. not (member s v) || every_to v (λ u. not (member s u) || test u v)) t v (member_below s n v h ev))) u l)

pub pair-every : (n s : ℕ) (test : ℕ → ℕ → Bool) → ((u v : ℕ) → u < v → u ∈ s → v ∈ s → test u v ≡ true) → every_pair n s test ≡ true
unfolding every_pair
pair-every n s test h =
    at_every n (λ v. not (member s v) || every_to v (λ u. not (member s u) || test u v))
    (λ v k. where-in s v (every_to v (λ u. not (member s u) || test u v))
    (λ ev. at_every v (λ u. not (member s u) || test u v) (λ u l. where-in s u (test u v) (λ eu. h u v l eu ev))))

-- ---- members of the operations

pub without_in : (a b i : ℕ) → i ∈ a → bit b i ≡ 0 → i ∈ without a b
without_in a b i e z = omega (arith, bit-without a b i)

pub in_without : (a b i : ℕ) → i ∈ without a b → (i ∈ a) × (bit b i ≡ 0)
in_without a b i e = (omega (arith, bit-without a b i, bit_le a i), omega (arith, bit-without a b i, bit_le a i))

-- less one member: a member is another one
pub less-in : (s t i : ℕ) → i ∈ s → i ≢ t → i ∈ without s (2 ^ t)
less-in s t i e d = without_in s (2 ^ t) i e (bit-other t i d)

pub in-less : (s t i : ℕ) → i ∈ without s (2 ^ t) → (i ∈ s) × (i ≢ t)
in-less s t i e =
    let (a, z) = in_without s (2 ^ t) i e in
    (a, λ q. omega (arith, ap (λ (j : ℕ). bit (2 ^ t) j) q, bit-one t))

pub less-same : (s t : ℕ) → bit (without s (2 ^ t)) t ≡ 0
less-same s t = omega (arith, bit-without s (2 ^ t) t, bit-one t, bit_le s t)

pub less_other : (s t i : ℕ) → i ≢ t → bit (without s (2 ^ t)) i ≡ bit s i
less_other s t i d = omega (arith, bit-without s (2 ^ t) i, bit-other t i d)

-- less a member that it lacks, a set is the same
pub less-again : (s t : ℕ) → bit s t ≡ 0 → without s (2 ^ t) ≡ s
less-again s t z = ext-at t (without s (2 ^ t)) s (less-same s t ∙ sym z) (less_other s t)

-- with one member more
pub more_same : (s t : ℕ) → t ∈ bit_or s (2 ^ t)
more_same s t = omega (arith, bit-or s (2 ^ t) t, bit-one t, bit_le s t)

pub more-other : (s t i : ℕ) → i ≢ t → bit (bit_or s (2 ^ t)) i ≡ bit s i
more-other s t i d = omega (arith, bit-or s (2 ^ t) i, bit-other t i d)

-- with a member that it has, a set is the same
pub more-again : (s t : ℕ) → t ∈ s → bit_or s (2 ^ t) ≡ s
more-again s t e = ext-at t (bit_or s (2 ^ t)) s (more_same s t ∙ sym e) (more-other s t)

pub in-more : (s t i : ℕ) → i ∈ bit_or s (2 ^ t) → (i ≡ t) ⊎ (i ∈ s)
in-more s t i e = go (ℕ_discrete i t)
  where
    go : Dec (i ≡ t) → (i ≡ t) ⊎ (i ∈ s)
    go (yes q) = inl q
    go (no d) = inr (sym (more-other s t i d) ∙ e)

pub or_left : (a b i : ℕ) → i ∈ a → i ∈ bit_or a b
or_left a b i e = omega (arith, bit-or a b i, bit_le b i)

pub or_right : (a b i : ℕ) → i ∈ b → i ∈ bit_or a b
or_right a b i e = omega (arith, bit-or a b i, bit_le a i)

pub or-empty : (a b : ℕ) → bit_or a b ≡ 0 → (a ≡ 0) × (b ≡ 0)
or-empty a b e = (omega (arith, or_add_and a b, and_le_r a b), omega (arith, or_add_and a b, and_le_l a b))

-- two sets share no member, said both ways
pub apart_in : (a b : ℕ) → bit_and a b ≡ 0 → (i : ℕ) → i ∈ a → i ∈ b → ⊥
apart_in a b e i x y = omega (arith, ap (λ (z : ℕ). bit z i) e, bit-and a b i, bit-empty i)

pub in-apart : (a b : ℕ) → ((i : ℕ) → i ∈ a → i ∈ b → ⊥) → bit_and a b ≡ 0
in-apart a b h = no_member (bit_and a b) (λ i e. h i (omega (arith, bit-and a b i, bit_le a i)) (omega (arith, bit-and a b i, bit_le b i)))

-- the same by the test
pub meets-no : (a b : ℕ) → ((i : ℕ) → i ∈ a → i ∈ b → ⊥) → meets a b ≡ false
unfolding meets
meets-no a b h = ap not (eq-eqb (bit_and a b) 0 (in-apart a b h))

pub no-meets : (a b : ℕ) → meets a b ≡ false → (i : ℕ) → i ∈ a → i ∈ b → ⊥
unfolding meets
no-meets a b t = apart_in a b (eqb-true (bit_and a b) 0 (not-false (eqb (bit_and a b) 0) t))

pub meets-yes : (a b i : ℕ) → i ∈ a → i ∈ b → meets a b ≡ true
unfolding meets
meets-yes a b i x y = ap not (ne_eqb (bit_and a b) 0 (λ e. apart_in a b e i x y))

pub meets-turned : (a b : ℕ) → meets a b ≡ meets b a
unfolding meets
meets-turned a b = ap (λ (x : ℕ). not (eqb x 0)) (and_comm a b)

-- what b leaves of a shares nothing with b
pub without-apart : (a b : ℕ) → bit_and b (without a b) ≡ 0
without-apart a b = in-apart b (without a b) (λ i x y. omega (arith, (in_without a b i y).1))

-- a member is another number than a non-member
pub member-differs : (s i j : ℕ) → i ∈ s → bit s j ≡ 0 → i ≢ j
member-differs s i j e z q = omega (arith, ap (λ (x : ℕ). bit s x) q)

-- ---- sets and their numbers

pub without-le : (a b : ℕ) → without a b ≤ a
unfolding without
without-le a b = omega arith

-- of a part, the rest is the difference of the numbers
pub part-minus : (a b : ℕ) → a ⊆ b → b - a ≡ without b a
unfolding without
part-minus a b h = ap (λ (x : ℕ). b - x) (ext a (bit_and b a) (λ i. omega (arith, bit-and b a i, h i)))

-- the bits of a difference, if what is taken away is a part
pub bit-minus : (a b i : ℕ) → a ⊆ b → bit (b - a) i ≡ bit b i - bit a i
bit-minus a b i h = ap (λ (x : ℕ). bit x i) (part-minus a b h) ∙ bit-without b a i

-- sets with no common member add up to their union
pub apart-add : (a b : ℕ) → bit_and a b ≡ 0 → bit_or a b ≡ a + b
apart-add a b e = or_disjoint a b e

-- one member more adds its power
pub more-add : (s t : ℕ) → bit s t ≡ 0 → bit_or s (2 ^ t) ≡ s + 2 ^ t
more-add s t z = or_disjoint s (2 ^ t) (in-apart s (2 ^ t) (λ i e o. member-differs s i t e z (one-alone t i o)))

-- a set less one of its members, and that member, make the set
pub less-more : (s t : ℕ) → t ∈ s → bit_or (without s (2 ^ t)) (2 ^ t) ≡ s
less-more s t e =
    ext-at t (bit_or (without s (2 ^ t)) (2 ^ t)) s (more_same (without s (2 ^ t)) t ∙ sym e) (λ i d. more-other (without s (2 ^ t)) t i d ∙ less_other s t i d)

pub less-add : (s t : ℕ) → t ∈ s → without s (2 ^ t) + 2 ^ t ≡ s
less-add s t e = sym (more-add (without s (2 ^ t)) t (less-same s t)) ∙ less-more s t e

-- so a set less one of its members is a smaller number
pub less-lt : (s t : ℕ) → t ∈ s → without s (2 ^ t) < s
less-lt s t e = omega (arith, less-add s t e, pow_pos t)

-- the highest bit of a number of k + 1 bits tells whether it is below 2 ^ k
pub top_in : (s k : ℕ) → k ∈ s → 2 ^ k ≤ s
top_in s k e = omega (arith, less-add s k e)

pub top-out : (s k : ℕ) → s < 2 ^ suc k → bit s k ≡ 0 → s < 2 ^ k
top-out s k h z = omega (arith, part-le s (full k) (in-part s (full k) (λ i e. low i e (dec_lt i k))), pow_pos k)
  where
    low : (i : ℕ) → i ∈ s → Dec (i < k) → i ∈ full k
    low i e (yes l) = bit-full k i l
    low i e (no l) = let q : i ≡ k = omega (arith, member_below s (suc k) i h e) in absurd (member-differs s i k e z q)

pub less-top : (s k : ℕ) → s < 2 ^ suc k → without s (2 ^ k) < 2 ^ k
less-top s k h = top-out (without s (2 ^ k)) k (omega (arith, without-le s (2 ^ k))) (less-same s k)

-- ---- the numbers with the same bits from k on: y / 2 ^ k ≡ q

-- below k, a number q * 2 ^ k has no member
pub shift-low : (q k i : ℕ) → i < k → bit (q * 2 ^ k) i ≡ 0
shift-low q zero i l = omega arith
shift-low q (suc k) zero l = bit-low (q * 2 ^ suc k) ∙ shifted_even q k
shift-low q (suc k) (suc i) l = bit-suc (q * 2 ^ suc k) i ∙ ap (λ (x : ℕ). bit x i) (shifted_half q k) ∙ shift-low q k i (omega arith)

-- from k on it has those of q
pub shift-high : (q k i : ℕ) → bit (q * 2 ^ k) (k + i) ≡ bit q i
shift-high q k i = sym (bit-shift (q * 2 ^ k) k i) ∙ ap (λ (x : ℕ). bit x i) (shl-shr q k)

-- so that set lies in each of these numbers, and each of them in that set with all numbers below k
pub shift-part : (y q k : ℕ) → y / 2 ^ k ≡ q → q * 2 ^ k ⊆ y
shift-part y q k e i = go (dec_lt i k)
  where
    go : Dec (i < k) → bit (q * 2 ^ k) i ≤ bit y i
    go (yes l) = omega (arith, shift-low q k i l)
    go (no l) =
        let d : k + (i - k) ≡ i = omega arith in
        le_of_eq (ap (bit (q * 2 ^ k)) (sym d) ∙ shift-high q k (i - k) ∙ ap (λ (x : ℕ). bit x (i - k)) (sym e) ∙ bit-shift y k (i - k) ∙ ap (bit y) d)

pub shift-whole : (y q k : ℕ) → y / 2 ^ k ≡ q → y ⊆ bit_or (q * 2 ^ k) (full k)
shift-whole y q k e i = go (dec_lt i k)
  where
    go : Dec (i < k) → bit y i ≤ bit (bit_or (q * 2 ^ k) (full k)) i
    go (yes l) = omega (arith, bit_le y i, bit-or (q * 2 ^ k) (full k) i, bit-full k i l)
    go (no l) =
        let d : k + (i - k) ≡ i = omega arith in
        omega (
          arith,
          bit-or (q * 2 ^ k) (full k) i,
          ap (bit (q * 2 ^ k)) d,
          shift-high q k (i - k),
          ap (λ (x : ℕ). bit x (i - k)) e,
          bit-shift y k (i - k),
          ap (bit y) d,
        )

-- a set has a member from k on exactly if shifting k out leaves something
pub shifted-out : (v k : ℕ) → not (eqb (v / 2 ^ k) 0) ≡ leb (2 ^ k) v
shifted-out v k = go (leb (2 ^ k) v) refl
  where
    go : (b : Bool) → leb (2 ^ k) v ≡ b → not (eqb (v / 2 ^ k) 0) ≡ leb (2 ^ k) v
    go true e =
        let h : 1 ≤ v / 2 ^ k = (le-div_iff_mul-le {k = 2 ^ k} (pow_pos k)).1 (rw (one-mul (2 ^ k)) (leb-true (2 ^ k) v e)) in
        rw (e, ne_eqb (v / 2 ^ k) 0 (λ z. omega arith))
    go false e = rw (e, eq-eqb (v / 2 ^ k) 0 (div-eq_of_lt (leb-false (2 ^ k) v e)))
