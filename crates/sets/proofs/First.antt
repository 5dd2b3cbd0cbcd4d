-- The laws of the first number that passes a test: it is the smallest, and there is only one. Assumes nothing.
use mathlib.Core.Path.{◌≡◌, refl, sym, ap, ◌∙◌}
use mathlib.Core.Bool.{Bool, true, false, true≢false}
use mathlib.Core.Option.{Option, none, some, none-ne-some, some-injective}
use Prim.Native.Nat.{ℕ, zero, suc, ◌+◌, ◌-◌, ◌≤◌, ◌<◌}
use native.Mathlib.Nat.{le_refl, le_antisymm}
use native.Mathlib.Decide.{dec_le, ℕ_discrete}
use native.Mathlib.Numerals.{add-one}
use native.Mathlib.Omega.{arith}
use Rattle.sets.specs.First.{first_from, LeastFrom, Smallest}

-- ---- one answer

pub least-unique : {P : ℕ → Type 0} {floor x y : ℕ} → LeastFrom P floor x → LeastFrom P floor y → x ≡ y
least-unique {x = x} {y = y} a b = le_antisymm (a.least y b.holds b.above) (b.least x a.holds a.above)

pub smallest-unique : (P : ℕ → Type 0) (floor : ℕ) (a b : Option ℕ) → Smallest P floor a → Smallest P floor b → a ≡ b
smallest-unique P floor (some x) (some y) a b = ap (λ (z : ℕ). some z) (least-unique a b)
smallest-unique P floor (some x) none a b = absurd (b x a.holds a.above)
smallest-unique P floor none (some y) a b = absurd (a y b.holds b.above)
smallest-unique P floor none none a b = refl

-- the same numbers, said by another property, have the same smallest
pub smallest-same : (P Q : ℕ → Type 0) (floor : ℕ) → ((y : ℕ) → P y → Q y) → ((y : ℕ) → Q y → P y) → (a : Option ℕ) → Smallest P floor a → Smallest Q floor a
smallest-same P Q floor to back (some x) a = record { holds = to x a.holds; above = a.above; least = λ y q l. a.least y (back y q) l }
smallest-same P Q floor to back none a = λ y q l. a y (back y q) l

-- ---- one number after the other

module _ (test : ℕ → Bool) where
  pub first-hit : (n x : ℕ) → test x ≡ true → first_from test (suc n) x ≡ some x
  unfolding first_from
  first-hit n x e = ap (λ (t : Bool). elim t as (λ t. Option ℕ) [ true ↦ some x | false ↦ first_from test n (suc x) ]) e

  pub first-miss : (n x : ℕ) → test x ≡ false → first_from test (suc n) x ≡ first_from test n (suc x)
  unfolding first_from
  first-miss n x e = ap (λ (t : Bool). elim t as (λ t. Option ℕ) [ true ↦ some x | false ↦ first_from test n (suc x) ]) e

  -- the turns of a loop that has `left` numbers still to try, from x on
  pub first-here : (left x : ℕ) → 0 < left → test x ≡ true → some x ≡ first_from test left x
  first-here left x l e = let k : left ≡ suc (left - 1) = omega arith in sym (ap (λ (m : ℕ). first_from test m x) k ∙ first-hit (left - 1) x e)

  pub first_next : (left x : ℕ) → 0 < left → test x ≡ false → first_from test left x ≡ first_from test (left - 1) (x + 1)
  first_next left x l e =
      let k : left ≡ suc (left - 1) = omega arith in
      ap (λ (m : ℕ). first_from test m x) k ∙ first-miss (left - 1) x e ∙ ap (first_from test (left - 1)) (sym (add-one x))

  pub first-nowhere : (left x : ℕ) → left ≤ 0 → none ≡ first_from test left x
  unfolding first_from
  first-nowhere left x l = let k : 0 ≡ left = omega arith in ap (λ (m : ℕ). first_from test m x) k

  -- a loop over the numbers below n, with `left` of them still to try: the next is n - left
  pub left-start : (n : ℕ) → first_from test n (n - n) ≡ first_from test n 0
  left-start n = let k : n - n ≡ 0 = omega arith in ap (first_from test n) k

  pub left-next : (n left : ℕ) → 0 < left → left ≤ n → test (n - left) ≡ false → first_from test (left - 1) (n - (left - 1)) ≡ first_from test left (n - left)
  left-next n left l h e =
      let k : n - (left - 1) ≡ n - left + 1 = omega arith in ap (first_from test (left - 1)) k ∙ sym (first_next left (n - left) l e)

  -- what was found passes, and is one of the numbers that were tried
  pub first_some : (n x j : ℕ) → first_from test n x ≡ some j → (x ≤ j) × (j < x + n) × (test j ≡ true)
  unfolding first_from
  first_some zero x j e = absurd (none-ne-some j e)
  first_some (suc n) x j e = go (test x) refl (first_some n (suc x) j)
    where
      go : (b : Bool) → test x ≡ b → (first_from test n (suc x) ≡ some j → (suc x ≤ j) × (j < suc x + n) × (test j ≡ true)) → (x ≤ j) × (j < x + suc n) × (test j ≡ true)
      go true t r = let q : x ≡ j = some-injective x j (sym (first-hit n x t) ∙ e) in (omega arith, omega arith, ap test (sym q) ∙ t)
      go false t r = let (a, b, c) = r (sym (first-miss n x t) ∙ e) in (omega arith, omega arith, c)

  -- if nothing was found, all fail
  pub first-none : (n x : ℕ) → first_from test n x ≡ none → (j : ℕ) → x ≤ j → j < x + n → test j ≡ false
  unfolding first_from
  first-none zero x e j l k = absurd (omega arith)
  first-none (suc n) x e j l k = go (test x) refl (first-none n (suc x))
    where
      go : (b : Bool) → test x ≡ b → (first_from test n (suc x) ≡ none → (i : ℕ) → suc x ≤ i → i < suc x + n → test i ≡ false) → test j ≡ false
      go true t r = absurd (none-ne-some x (sym e ∙ first-hit n x t))
      go false t r = at (ℕ_discrete x j)
        where
          at : Dec (x ≡ j) → test j ≡ false
          at (yes q) = ap test (sym q) ∙ t
          at (no d) = r (sym (first-miss n x t) ∙ e) j (omega arith) (omega arith)

  -- what passes, while all before it fail, is what is found
  found-from : (n x j : ℕ) → x ≤ j → j < x + n → ((i : ℕ) → i < j → test i ≡ false) → test j ≡ true → first_from test n x ≡ some j
  found-from zero x j l k h e = absurd (omega arith)
  found-from (suc n) x j l k h e = go (ℕ_discrete x j) (λ m. found-from n (suc x) j m (omega arith) h e)
    where
      go : Dec (x ≡ j) → (suc x ≤ j → first_from test n (suc x) ≡ some j) → first_from test (suc n) x ≡ some j
      go (yes q) r = first-hit n x (ap test q ∙ e) ∙ ap (λ (i : ℕ). some i) q
      go (no d) r = first-miss n x (h x (omega arith)) ∙ r (omega arith)

  pub first_found : (n j : ℕ) → j < n → ((i : ℕ) → i < j → test i ≡ false) → test j ≡ true → some j ≡ first_from test n 0
  first_found n j l h e = sym (found-from n 0 j (omega arith) (omega arith) h e)

  -- if all fail, nothing is found
  pub none_first : (n x : ℕ) → ((j : ℕ) → x ≤ j → j < x + n → test j ≡ false) → first_from test n x ≡ none
  unfolding first_from
  none_first zero x h = refl
  none_first (suc n) x h = first-miss n x (h x (omega arith) (omega arith)) ∙ none_first n (suc x) (λ j l k. h j (omega arith) (omega arith))

  pub none_found : (n : ℕ) → ((i : ℕ) → i < n → test i ≡ false) → none ≡ first_from test n 0
  none_found n h = sym (none_first n 0 (λ j l k. h j (omega arith)))

-- tests that agree find the same
pub first_cong : (test other : ℕ → Bool) (n x : ℕ) → ((i : ℕ) → i < x + n → test i ≡ other i) → first_from test n x ≡ first_from other n x
unfolding first_from
first_cong test other zero x h = refl
first_cong test other (suc n) x h = go (other x) refl (first_cong test other n (suc x) (λ i l. h i (omega arith)))
  where
    go : (b : Bool) → other x ≡ b → first_from test n (suc x) ≡ first_from other n (suc x) → first_from test (suc n) x ≡ first_from other (suc n) x
    go true e r = first-hit test n x (h x (omega arith) ∙ e) ∙ sym (first-hit other n x e)
    go false e r = first-miss test n x (h x (omega arith) ∙ e) ∙ r ∙ sym (first-miss other n x e)

-- ---- the first is the smallest

-- a floor that is itself not among them may be raised by one
raise : (P : ℕ → Type 0) (x : ℕ) (a : Option ℕ) → (P x → ⊥) → Smallest P (suc x) a → Smallest P x a
raise P x (some y) bad a = record { holds = a.holds; above = omega (arith, a.above); least = λ z p l. a.least z p (up z p l (dec_le (suc x) z)) }
  where
    up : (z : ℕ) → P z → x ≤ z → Dec (suc x ≤ z) → suc x ≤ z
    up z p l (yes h) = h
    up z p l (no h) = let e : z ≡ x = omega arith in absurd (bad (rw e at p))
raise P x none bad a = λ z p l. go z p l (dec_le (suc x) z)
  where
    go : (z : ℕ) → P z → x ≤ z → Dec (suc x ≤ z) → ⊥
    go z p l (yes h) = a z p h
    go z p l (no h) = let e : z ≡ x = omega arith in bad (rw e at p)

-- If P is what the test tells of the numbers below top, and holds of no other, the first number from the floor up to top that passes is the right
-- answer.
module _ (P : ℕ → Type 0) (test : ℕ → Bool) (top : ℕ) (inside : (y : ℕ) → P y → y < top) (to : (y : ℕ) → y < top → test y ≡ true → P y) (back : (y : ℕ) → P y → test y ≡ true) where
  first-is : (n x : ℕ) → n ≡ top - x → Smallest P x (first_from test n x)
  unfolding first_from
  first-is zero x e = λ y p l. omega (arith, inside y p)
  first-is (suc n) x e = go (test x) refl (first-is n (suc x) (omega arith))
    where
      go : (t : Bool) → test x ≡ t → Smallest P (suc x) (first_from test n (suc x)) → Smallest P x (elim t [ true ↦ some x | false ↦ first_from test n (suc x) ])
      go true q r = record { holds = to x (omega arith) q; above = le_refl x; least = λ y p l. l }
      go false q r = raise P x (first_from test n (suc x)) (λ p. true≢false (sym (back x p) ∙ q)) r

  pub first-smallest : (floor : ℕ) → Smallest P floor (first_from test (top - floor) floor)
  first-smallest floor = first-is (top - floor) floor refl

  -- and so whatever is right is that number
  pub smallest-first : (floor : ℕ) (a : Option ℕ) → Smallest P floor a → a ≡ first_from test (top - floor) floor
  smallest-first floor a r = smallest-unique P floor a (first_from test (top - floor) floor) r (first-smallest floor)
