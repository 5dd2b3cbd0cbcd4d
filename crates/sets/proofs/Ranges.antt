-- The laws of tests and ranges. Assumes nothing.
use mathlib.Core.Path.{◌≡◌, refl, sym, ap, ap₂, ◌∙◌, subst}
use mathlib.Core.Logic.{◌⊎◌, inl, inr, ◌≢◌}
use mathlib.Core.Bool.{Bool, true, false, not, ◌&&◌, ◌||◌, true≢false, false≢true}
use mathlib.Core.List.{List, [], ◌∷◌, ◌++◌, map, map-append}
use Prim.Native.Nat.{ℕ, zero, suc, ◌+◌, ◌*◌, ◌≤◌, ◌<◌, zero-le, min, max}
use native.Mathlib.Nat.{le_refl, le_trans, le_of_eq, eq-or-lt_of_le, le-max_left, le-max_right, suc-mul}
use native.Mathlib.Numerals.{add-one}
use native.Mathlib.Omega.{arith}
use lib.Dec.{leb, eqb}
use lib.ListN.{length, get_or, set, replicate, length-append, length-set, length-replicate, get_or-append, get_or-eq_default}
use lib.Seq.{get_or_at, get_or-set_same, get_or-set_other, ext_get_or}
use borrow.Author.Tests.{eq-eqb, ne_eqb, eqb-true, eqb-false, le-leb, leb-true}
use Rattle.sets.specs.Ranges.{num, given, every_to, any_to, sum_to, max_to, list_to}

-- ---- cases

-- below k + 1: k, or below k
pub below-cases : {i k : ℕ} → i < suc k → (i ≡ k) ⊎ (i < k)
below-cases h = eq-or-lt_of_le (omega arith)

-- what holds below i, and of i, holds below i + 1
pub one_more : (P : ℕ → Type 0) (i : ℕ) → ((j : ℕ) → j < i → P j) → P i → (j : ℕ) → j < i + 1 → P j
one_more P i h e j l = go (below-cases (omega arith))
  where
    go : (j ≡ i) ⊎ (j < i) → P j
    go (inl q) = subst P (sym q) e
    go (inr k) = h j k

pub test-cases : (b : Bool) → (b ≡ true) ⊎ (b ≡ false)
test-cases true = inl refl
test-cases false = inr refl

pub same_cases : (a b : ℕ) → (a ≡ b) ⊎ (a ≢ b)
same_cases a b = go (eqb a b) refl
  where
    go : (t : Bool) → eqb a b ≡ t → (a ≡ b) ⊎ (a ≢ b)
    go true e = inl (eqb-true a b e)
    go false e = inr (eqb-false a b e)

-- ---- two tests

pub both_true : (a b : Bool) → a && b ≡ true → (a ≡ true) × (b ≡ true)
both_true true b e = (refl, e)
both_true false b e = absurd (false≢true e)

pub true-both : (a b : Bool) → a ≡ true → b ≡ true → a && b ≡ true
true-both true b e f = f
true-both false b e f = absurd (false≢true e)

pub either_true : (a b : Bool) → a || b ≡ true → (a ≡ true) ⊎ (b ≡ true)
either_true true b e = inl refl
either_true false b e = inr e

pub left-true : (a b : Bool) → a ≡ true → a || b ≡ true
left-true true b e = refl
left-true false b e = absurd (false≢true e)

pub right-true : (a b : Bool) → b ≡ true → a || b ≡ true
right-true true b e = refl
right-true false b e = e

pub both_false : (a b : Bool) → a ≡ false → b ≡ false → a || b ≡ false
both_false true b e f = e
both_false false b e f = f

pub neither : (a b : Bool) → a || b ≡ false → (a ≡ false) × (b ≡ false)
neither true b e = absurd (true≢false e)
neither false b e = (refl, e)

-- if the one passes, so does the other
pub where-true : (a b : Bool) → (a ≡ true → b ≡ true) → not a || b ≡ true
where-true true b h = h refl
where-true false b h = refl

pub true-where : (a b : Bool) → a ≡ true → not a || b ≡ true → b ≡ true
true-where true b p q = q
true-where false b p q = absurd (false≢true p)

-- two tests that pass, or fail, together are the same
pub same_true : (a b : Bool) → (a ≡ true → b ≡ true) → (b ≡ true → a ≡ true) → a ≡ b
same_true true b f g = sym (f refl)
same_true false true f g = g refl
same_true false false f g = refl

pub same_false : (a b : Bool) → (a ≡ false → b ≡ false) → (b ≡ false → a ≡ false) → a ≡ b
same_false false b f g = sym (f refl)
same_false true false f g = g refl
same_false true true f g = refl

-- ---- the bit of a test

pub num-le : (b : Bool) → num b ≤ 1
num-le true = omega arith
num-le false = omega arith

pub num-true : (b : Bool) → b ≡ true → num b ≡ 1
num-true b e = ap num e

pub num-false : (b : Bool) → b ≡ false → num b ≡ 0
num-false b e = ap num e

pub true-num : (b : Bool) → num b ≡ 1 → b ≡ true
true-num true e = refl
true-num false e = absurd (omega arith)

pub false-num : (b : Bool) → num b ≡ 0 → b ≡ false
false-num true e = absurd (omega arith)
false-num false e = refl

pub num-same : (a b : Bool) → num a ≡ num b → a ≡ b
num-same true b e = sym (true-num b (sym e))
num-same false b e = sym (false-num b (sym e))

pub num-both : (a b : Bool) → num (a && b) ≡ min (num a) (num b)
num-both true b = omega (arith, num-le b)
num-both false b = omega arith

pub num-either : (a b : Bool) → num (a || b) ≡ max (num a) (num b)
num-either true b = omega (arith, num-le b)
num-either false b = omega arith

pub num-mono : (a b : Bool) → (a ≡ true → b ≡ true) → num a ≤ num b
num-mono true b h = le_of_eq (sym (ap num (h refl)))
num-mono false b h = zero-le

pub same-yes : (a b : ℕ) → a ≡ b → num (eqb a b) ≡ 1
same-yes a b e = num-true (eqb a b) (eq-eqb a b e)

pub same-no : (a b : ℕ) → a ≢ b → num (eqb a b) ≡ 0
same-no a b d = num-false (eqb a b) (ne_eqb a b d)

-- a number that is at most b is at most c, as bits
pub num-le-num : (a b c : ℕ) → b ≤ c → num (leb a b) ≤ num (leb a c)
num-le-num a b c h = num-mono (leb a b) (leb a c) (λ e. le-leb a c (le_trans (leb-true a b e) h))

-- ---- x if a test passes, and else 0

pub given_yes : (t : Bool) (x : ℕ) → t ≡ true → given t x ≡ x
given_yes t x e = ap (λ (b : Bool). given b x) e

pub given-no : (t : Bool) (x : ℕ) → t ≡ false → given t x ≡ 0
given-no t x e = ap (λ (b : Bool). given b x) e

pub given-le : (t : Bool) (x : ℕ) → given t x ≤ x
given-le true x = le_refl x
given-le false x = zero-le

pub given-zero : (t : Bool) → given t 0 ≡ 0
given-zero true = refl
given-zero false = refl

pub given-mono : (t : Bool) {x y : ℕ} → x ≤ y → given t x ≤ given t y
given-mono true h = h
given-mono false h = zero-le

pub given_both : (a b : Bool) (x : ℕ) → given (a && b) x ≡ given a (given b x)
given_both true b x = refl
given_both false b x = refl

-- ---- every number, some number

pub every-at : (n : ℕ) (test : ℕ → Bool) → every_to n test ≡ true → (i : ℕ) → i < n → test i ≡ true
unfolding every_to
every-at zero test e i l = absurd (omega arith)
every-at (suc k) test e i l = go (test k) refl e (every-at k test) (below-cases l)
  where
    go : (t : Bool) → test k ≡ t → elim t [ true ↦ every_to k test | false ↦ false ] ≡ true
        → (every_to k test ≡ true → (i : ℕ) → i < k → test i ≡ true) → (i ≡ k) ⊎ (i < k) → test i ≡ true
    go true q e r (inl h) = ap test h ∙ q
    go true q e r (inr h) = r e i h
    go false q e r c = absurd (false≢true e)

pub every-cong : (n : ℕ) (test other : ℕ → Bool) → ((i : ℕ) → i < n → test i ≡ other i) → every_to n test ≡ every_to n other
unfolding every_to
every-cong zero test other h = refl
every-cong (suc k) test other h = ap₂ (λ (t rest : Bool). elim t as (λ t. Bool) [ true ↦ rest | false ↦ false ]) (h k (omega arith)) (every-cong k test other (λ i l. h i (omega arith)))

pub at_every : (n : ℕ) (test : ℕ → Bool) → ((i : ℕ) → i < n → test i ≡ true) → every_to n test ≡ true
unfolding every_to
at_every zero test h = refl
at_every (suc k) test h = go (test k) (h k (le_refl (suc k))) (at_every k test (λ i l. h i (omega arith)))
  where
    go : (t : Bool) → t ≡ true → every_to k test ≡ true → elim t [ true ↦ every_to k test | false ↦ false ] ≡ true
    go true q r = r
    go false q r = q

pub any_at : (n : ℕ) (test : ℕ → Bool) → any_to n test ≡ true → (i : ℕ) × (i < n) × (test i ≡ true)
unfolding any_to
any_at zero test e = absurd (false≢true e)
any_at (suc k) test e = go (test k) refl e (any_at k test)
  where
    go : (t : Bool) → test k ≡ t → elim t [ true ↦ true | false ↦ any_to k test ] ≡ true
        → (any_to k test ≡ true → (i : ℕ) × (i < k) × (test i ≡ true)) → (i : ℕ) × (i < suc k) × (test i ≡ true)
    go true q e r = (k, le_refl (suc k), q)
    go false q e r = let (i, l, h) = r e in (i, omega arith, h)

pub at-any : (n : ℕ) (test : ℕ → Bool) (i : ℕ) → i < n → test i ≡ true → any_to n test ≡ true
unfolding any_to
at-any zero test i l e = absurd (omega arith)
at-any (suc k) test i l e = go (test k) refl (at-any k test i) (below-cases l)
  where
    go : (t : Bool) → test k ≡ t → (i < k → test i ≡ true → any_to k test ≡ true) → (i ≡ k) ⊎ (i < k) → elim t [ true ↦ true | false ↦ any_to k test ] ≡ true
    go true q r c = refl
    go false q r (inl h) = absurd (true≢false (sym e ∙ ap test h ∙ q))
    go false q r (inr h) = r h e

pub none_any : (n : ℕ) (test : ℕ → Bool) → ((i : ℕ) → i < n → test i ≡ false) → any_to n test ≡ false
none_any n test h = go (test-cases (any_to n test))
  where
    go : (any_to n test ≡ true) ⊎ (any_to n test ≡ false) → any_to n test ≡ false
    go (inl t) = let (i, l, e) = any_at n test t in absurd (true≢false (sym e ∙ h i l))
    go (inr t) = t

-- some number passes the one test and fails the other, unless every number that passes the one passes the other
pub any-every : (n : ℕ) (a b : ℕ → Bool) → any_to n (λ i. a i && not (b i)) ≡ not (every_to n (λ i. not (a i) || b i))
unfolding any_to every_to
any-every zero a b = refl
any-every (suc k) a b = go (a k) (b k) (any-every k a b)
  where
    go : (p q : Bool) → any_to k (λ i. a i && not (b i)) ≡ not (every_to k (λ i. not (a i) || b i))
        → elim (p && not q) [ true ↦ true | false ↦ any_to k (λ i. a i && not (b i)) ] ≡ not (elim (not p || q) [ true ↦ every_to k (λ i. not (a i) || b i) | false ↦ false ])
    go true true r = r
    go true false r = refl
    go false q r = r

-- ---- sums

pub sum_mono : (n : ℕ) (f g : ℕ → ℕ) → ((i : ℕ) → i < n → f i ≤ g i) → sum_to n f ≤ sum_to n g
unfolding sum_to
sum_mono zero f g h = zero-le
sum_mono (suc k) f g h = omega (arith, sum_mono k f g (λ i l. h i (omega arith)), h k (le_refl (suc k)))

pub sum-cong : (n : ℕ) (f g : ℕ → ℕ) → ((i : ℕ) → i < n → f i ≡ g i) → sum_to n f ≡ sum_to n g
unfolding sum_to
sum-cong zero f g h = refl
sum-cong (suc k) f g h = omega (arith, sum-cong k f g (λ i l. h i (omega arith)), h k (le_refl (suc k)))

pub sum-zero : (n : ℕ) (f : ℕ → ℕ) → ((i : ℕ) → i < n → f i ≡ 0) → sum_to n f ≡ 0
unfolding sum_to
sum-zero zero f h = refl
sum-zero (suc k) f h = omega (arith, sum-zero k f (λ i l. h i (omega arith)), h k (le_refl (suc k)))

pub sum-add : (n : ℕ) (f g : ℕ → ℕ) → sum_to n (λ i. f i + g i) ≡ sum_to n f + sum_to n g
unfolding sum_to
sum-add zero f g = refl
sum-add (suc k) f g = omega (arith, sum-add k f g)

-- one of them is at most the sum
pub sum-at : (n : ℕ) (f : ℕ → ℕ) (i : ℕ) → i < n → f i ≤ sum_to n f
unfolding sum_to
sum-at zero f i h = omega arith
sum-at (suc k) f i h = go (sum-at k f i) (below-cases h)
  where
    go : (i < k → f i ≤ sum_to k f) → (i ≡ k) ⊎ (i < k) → f i ≤ sum_to k f + f k
    go r (inl e) = rw e (omega arith)
    go r (inr l) = omega (arith, r l)

-- the sum of n numbers that are at most b
pub sum-most : (n : ℕ) (f : ℕ → ℕ) (b : ℕ) → ((i : ℕ) → i < n → f i ≤ b) → sum_to n f ≤ n * b
unfolding sum_to
sum-most zero f b h = zero-le
sum-most (suc k) f b h = omega (arith, sum-most k f b (λ i l. h i (omega arith)), h k (le_refl (suc k)), suc-mul k b)

-- the order of two sums may be changed
pub sum-swap : (n m : ℕ) (f : ℕ → ℕ → ℕ) → sum_to n (λ i. sum_to m (λ j. f i j)) ≡ sum_to m (λ j. sum_to n (λ i. f i j))
unfolding sum_to
sum-swap zero m f = sym (sum-zero m (λ j. 0) (λ i l. refl))
sum-swap (suc k) m f = omega (arith, sum-swap k m f, sum-add m (λ j. sum_to k (λ i. f i j)) (f k))

-- the lowest apart
pub sum_low : (n : ℕ) (f : ℕ → ℕ) → sum_to (suc n) f ≡ f 0 + sum_to n (λ i. f (suc i))
unfolding sum_to
sum_low zero f = omega arith
sum_low (suc k) f = omega (arith, sum_low k f)

-- more of the range adds what lies there: nothing, if f is 0 there
pub sum_past : (n m : ℕ) (f : ℕ → ℕ) → n ≤ m → ((i : ℕ) → n ≤ i → f i ≡ 0) → sum_to m f ≡ sum_to n f
unfolding sum_to
sum_past n zero f l h = ap (λ (k : ℕ). sum_to k f) (let e : 0 ≡ n = omega arith in e)
sum_past n (suc m) f l h = go (below-cases (let p : n < suc (suc m) = omega arith in p)) (sum_past n m f)
  where
    go : (n ≡ suc m) ⊎ (n < suc m) → (n ≤ m → ((i : ℕ) → n ≤ i → f i ≡ 0) → sum_to m f ≡ sum_to n f) → sum_to m f + f m ≡ sum_to n f
    go (inl e) r = ap (λ (k : ℕ). sum_to k f) (sym e)
    go (inr p) r = omega (arith, r (omega arith) h, h m (omega arith))

-- the one at k, and all others
pub sum-but : (n k : ℕ) (f : ℕ → ℕ) → k < n → sum_to n f ≡ f k + sum_to n (λ i. given (not (eqb i k)) (f i))
unfolding sum_to
sum-but zero k f l = absurd (omega arith)
sum-but (suc n) k f l = go (sum-but n k f) (below-cases l)
  where
    rest : ℕ → ℕ
    rest i = given (not (eqb i k)) (f i)

    other : (i : ℕ) → i ≢ k → rest i ≡ f i
    other i d = rw (ne_eqb i k d)

    go : (k < n → sum_to n f ≡ f k + sum_to n rest) → (k ≡ n) ⊎ (k < n) → sum_to n f + f n ≡ f k + (sum_to n rest + rest n)
    go r (inl e) =
        omega (
          arith,
          ap f e,
          sum-cong n rest f (λ i h. other i (λ q. let z : ⊥ = omega arith in z)),
          ap (λ (t : Bool). given (not t) (f n)) (eq-eqb n k (sym e)),
        )
    go r (inr h) = omega (arith, r h, other n (λ q. let z : ⊥ = omega arith in z))

-- if no two are above 0, the sum is at most what each is at most
pub sum_one : (n : ℕ) (f : ℕ → ℕ) (b : ℕ) → ((u : ℕ) → u < n → f u ≤ b) → ((u v : ℕ) → u < v → v < n → min (f u) (f v) ≡ 0) → sum_to n f ≤ b
unfolding sum_to
sum_one zero f b h one = zero-le
sum_one (suc k) f b h one =
    go (f k) refl (sum_one k f b (λ u l. h u (omega arith)) (λ u v l m. one u v l (omega arith)))
  where
    go : (y : ℕ) → f k ≡ y → sum_to k f ≤ b → sum_to k f + f k ≤ b
    go zero e r = omega arith
    go (suc y) e r = omega (arith, sum-zero k f (λ u l. omega (arith, one u k l (le_refl (suc k)))), h k (le_refl (suc k)))

-- If each u of the first n has a class g u of the first m and brings at most c of its class, and no two of one class bring anything,
-- all together bring at most what the classes add up to.
pub sum-classes : (n m : ℕ) (g h c : ℕ → ℕ) → ((u : ℕ) → u < n → g u < m) → ((u : ℕ) → u < n → h u ≤ c (g u))
    → ((u v : ℕ) → u < v → v < n → g u ≡ g v → min (h u) (h v) ≡ 0) → sum_to n h ≤ sum_to m c
sum-classes n m g h c inside most one =
    le_trans (sum_mono n h (λ u. sum_to m (brings u)) (λ u l. own u (inside u l)))
    (le_trans (le_of_eq (sum-swap n m brings))
    (sum_mono m (λ j. sum_to n (λ u. brings u j)) c (λ j l. sum_one n (λ u. brings u j) (c j) (λ u k. bound u j k (same_cases (g u) j)) (λ u v k k'. single u v j k k' (same_cases (g u) j) (same_cases (g v) j)))))
  where
    brings : ℕ → ℕ → ℕ
    brings u j = given (eqb (g u) j) (h u)

    own : (u : ℕ) → g u < m → h u ≤ sum_to m (brings u)
    own u l = le_trans (le_of_eq (sym (given_yes (eqb (g u) (g u)) (h u) (eq-eqb (g u) (g u) refl)))) (sum-at m (brings u) (g u) l)

    bound : (u j : ℕ) → u < n → (g u ≡ j) ⊎ (g u ≢ j) → brings u j ≤ c j
    bound u j l (inl e) = le_trans (given-le (eqb (g u) j) (h u)) (le_trans (most u l) (le_of_eq (ap c e)))
    bound u j l (inr d) = rw (ne_eqb (g u) j d) zero-le

    single : (u v j : ℕ) → u < v → v < n → (g u ≡ j) ⊎ (g u ≢ j) → (g v ≡ j) ⊎ (g v ≢ j) → min (brings u j) (brings v j) ≡ 0
    single u v j l k (inl e) (inl e') = omega (arith, one u v l k (e ∙ sym e'), given-le (eqb (g u) j) (h u), given-le (eqb (g v) j) (h v))
    single u v j l k (inl e) (inr d) = omega (arith, given-no (eqb (g v) j) (h v) (ne_eqb (g v) j d))
    single u v j l k (inr d) q = omega (arith, given-no (eqb (g u) j) (h u) (ne_eqb (g u) j d))

-- ---- greatest values

-- one of them is at most the greatest
pub max-at : (n : ℕ) (f : ℕ → ℕ) (i : ℕ) → i < n → f i ≤ max_to n f
unfolding max_to
max-at zero f i h = omega arith
max-at (suc k) f i h = go (max-at k f i) (below-cases h)
  where
    go : (i < k → f i ≤ max_to k f) → (i ≡ k) ⊎ (i < k) → f i ≤ max (max_to k f) (f k)
    go r (inl e) = rw e (le-max_right (max_to k f) (f k))
    go r (inr l) = le_trans (r l) (le-max_left (max_to k f) (f k))

-- the greatest is at most what all are at most
pub max-most : (n : ℕ) (f : ℕ → ℕ) (b : ℕ) → ((i : ℕ) → i < n → f i ≤ b) → max_to n f ≤ b
unfolding max_to
max-most zero f b h = zero-le
max-most (suc k) f b h = omega (arith, max-most k f b (λ i l. h i (omega arith)), h k (le_refl (suc k)))

pub max-cong : (n : ℕ) (f g : ℕ → ℕ) → ((i : ℕ) → i < n → f i ≡ g i) → max_to n f ≡ max_to n g
unfolding max_to
max-cong zero f g h = refl
max-cong (suc k) f g h = omega (arith, max-cong k f g (λ i l. h i (omega arith)), h k (le_refl (suc k)))

-- ---- lists

pub list_length : {A : Type 0} (n : ℕ) (f : ℕ → A) → length (list_to n f) ≡ n
unfolding list_to
list_length zero f = refl
list_length (suc k) f = length-append (list_to k f) (f k ∷ []) ∙ omega (arith, list_length k f)

pub list_at : {A : Type 0} (n : ℕ) (f : ℕ → A) (d : A) (i : ℕ) → i < n → get_or (list_to n f) i d ≡ f i
unfolding list_to
list_at zero f d i h = absurd (omega arith)
list_at (suc k) f d i h = go (list_at k f d i) (below-cases h)
  where
    go : (i < k → get_or (list_to k f) i d ≡ f i) → (i ≡ k) ⊎ (i < k) → get_or (list_to k f ++ (f k ∷ [])) i d ≡ f i
    go r (inl e) = get_or_at (list_to k f) (f k) [] d i (list_length k f ∙ sym e) ∙ ap f (sym e)
    go r (inr l) = get_or-append (list_to k f) (f k ∷ []) d i (rw list_length l) ∙ r l

pub list-past : {A : Type 0} (n : ℕ) (f : ℕ → A) (d : A) (i : ℕ) → n ≤ i → get_or (list_to n f) i d ≡ d
list-past n f d i h = get_or-eq_default (list_to n f) d (rw list_length h)

pub list-cong : {A : Type 0} (n : ℕ) (f g : ℕ → A) → ((i : ℕ) → i < n → f i ≡ g i) → list_to n f ≡ list_to n g
unfolding list_to
list-cong zero f g h = refl
list-cong (suc k) f g h = ap₂ (λ (l : List _) (x : _). l ++ (x ∷ [])) (list-cong k f g (λ i l. h i (omega arith))) (h k (le_refl (suc k)))

pub list-map : {A B : Type 0} (n : ℕ) (f : ℕ → A) (h : A → B) → map h (list_to n f) ≡ list_to n (λ i. h (f i))
unfolding list_to
list-map zero f h = refl
list-map (suc k) f h = map-append h (list_to k f) (f k ∷ []) ∙ ap (λ (l : List _). l ++ (h (f k) ∷ [])) (list-map k f h)

-- ---- one turn of a loop that counts up by `u + 1`

pub sum-turn : (u : ℕ) (f : ℕ → ℕ) → sum_to (u + 1) f ≡ sum_to u f + f u
unfolding sum_to
sum-turn u f = rw add-one

pub max-turn : (u : ℕ) (f : ℕ → ℕ) → max_to (u + 1) f ≡ max (max_to u f) (f u)
unfolding max_to
max-turn u f = rw add-one

pub list-turn : {A : Type 0} (u : ℕ) (f : ℕ → A) → list_to (u + 1) f ≡ list_to u f ++ (f u ∷ [])
unfolding list_to
list-turn u f = rw add-one

-- ---- lists of zeros

pub zeros : (n i : ℕ) → get_or (replicate {A = ℕ} n 0) i 0 ≡ 0
zeros zero i = refl
zeros (suc n) zero = refl
zeros (suc n) (suc i) = zeros n i

pub list-zeros : (n : ℕ) (f : ℕ → ℕ) → ((i : ℕ) → i < n → f i ≡ 0) → replicate {A = ℕ} n 0 ≡ list_to n f
list-zeros n f h =
    ext_get_or 0 (replicate {A = ℕ} n 0) (list_to n f) (length-replicate {A = ℕ} n 0 ∙ sym (list_length n f))
    (λ i l. let k : i < n = omega (arith, length-replicate {A = ℕ} n 0) in zeros n i ∙ sym (list_at n f 0 i k ∙ h i k))

-- ---- one entry of a list changed

pub list_set : (n : ℕ) (f g : ℕ → ℕ) (i x : ℕ) → i < n → x ≡ g i → ((k : ℕ) → k ≢ i → f k ≡ g k) → set (list_to n f) i x ≡ list_to n g
list_set n f g i x l e h =
    ext_get_or 0 (set (list_to n f) i x) (list_to n g) (size ∙ sym (list_length n g)) (λ k m. go k (omega (arith, size)) (same_cases k i))
  where
    size : length (set (list_to n f) i x) ≡ n
    size = length-set (list_to n f) i x ∙ list_length n f

    go : (k : ℕ) → k < n → (k ≡ i) ⊎ (k ≢ i) → get_or (set (list_to n f) i x) k 0 ≡ get_or (list_to n g) k 0
    go k m (inl q) = rw q (get_or-set_same (list_to n f) i x 0 (omega (arith, list_length n f)) ∙ e ∙ sym (list_at n g 0 i l))
    go k m (inr d) = get_or-set_other (list_to n f) i k x 0 d ∙ list_at n f 0 k m ∙ h k d ∙ sym (list_at n g 0 k m)
