-- The laws that what one price does to the cheapest total rests on. Assumes nothing.
use mathlib.Core.Path.{◌≡◌, refl, sym, ap}
use mathlib.Core.Logic.{◌⊎◌, ◌≢◌, inl, inr, ⊎_elim}
use Prim.Native.Nat.{ℕ, ◌+◌, ◌-◌, ◌≤◌, ◌<◌}
use native.Mathlib.Decide.{dec_lt}
use native.Mathlib.Omega.{arith}
use lib.IntN.{ℤ, pos, negsuc, neg_ℤ, nat_abs, ◌-ℤ◌}
use lib.Signed.{≤ℤ_refl}
use Rattle.network.specs.Network.{Network}
use Rattle.pricing.specs.Prices.{total, Cheapest}
use Rattle.pricing.specs.Weights.{up, down}
use Rattle.pricing.proofs.AmountLaws.{le_up, up_le, same_up, negated-up, add-up, sums-up}
use Rattle.pricing.proofs.MoveLaws.{total-moves}
use Rattle.demands.specs.Moving.{difference, Follows}

-- ---- amounts, by what they are above zero and below

-- a is at most b
abbrev AtMost : ℤ → ℤ → Type 0
AtMost a b = up a + down b ≤ up b + down a

-- t is at most u, and u is no further above it than q is above p
abbrev Along : ℤ → ℤ → ℤ → ℤ → Type 0
Along p q t u = AtMost t u × (up u + down t + (up p + down q) ≤ up t + down u + (up q + down p))

without_sign : (z : ℤ) → ((nat_abs z ≡ up z) × (down z ≡ 0)) ⊎ ((nat_abs z ≡ down z) × (up z ≡ 0))
without_sign (pos n) = inl (refl, refl)
without_sign (negsuc n) = inr (refl, refl)

-- a difference, as a sum of which one part is 0
difference-up : (a b : ℤ) → difference a b ≡ ((up a + down b) - (up b + down a)) + ((up b + down a) - (up a + down b))
difference-up a b =
    let (u, d) = negated-up b in
    let s = add-up a (neg_ℤ b) in
    ⊎_elim (λ (e, z). omega (arith, u, d, s, e, z)) (λ (e, z). omega (arith, u, d, s, e, z)) (without_sign (a -ℤ b))

along-follows : (p q t u : ℤ) → (AtMost p q → Along p q t u) → (AtMost q p → Along q p u t) → Follows p q t u
along-follows p q t u rise fall = go (dec_lt (up q + down p) (up p + down q))
  where
    go : Dec (up q + down p < up p + down q) → Follows p q t u
    go (yes l) =
        let w = fall (omega (arith, l)) in
        record { most = omega (arith, l, w, difference-up t u, difference-up p q); rises = λ h. up_le _ _ (omega (arith, l, le_up _ _ h)); falls = λ h. up_le _ _ (omega (arith, w)) }
    go (no l) =
        let w = rise (omega (arith, l)) in
        record { most = omega (arith, l, w, difference-up t u, difference-up p q); rises = λ h. up_le _ _ (omega (arith, w)); falls = λ h. up_le _ _ (omega (arith, l, w, le_up _ _ h)) }

-- a total that follows a price which stays as it is stays as it is, too
pub follows_same : (p t u : ℤ) → Follows p p t u → t ≡ u
follows_same p t u w = same_up t u (omega (arith, le_up t u (w.rises (≤ℤ_refl p)), le_up u t (w.falls (≤ℤ_refl p))))

-- ---- the cheapest totals

-- two lists of prices are the same but at a
module _ (N : Network) (order a : ℕ) (p q : ℕ → ℤ) (same : (i : ℕ) → i ≢ a → p i ≡ q i) where
  -- a price that does not fall takes the total of every set along
  each-along : (y : ℕ) → AtMost (p a) (q a) → Along (p a) (q a) (total N.articles p y) (total N.articles q y)
  each-along y l =
      ⊎_elim (λ e. (omega (arith, ap (λ (s : ℤ). up s) e, ap (λ (s : ℤ). down s) e), omega (arith, l, ap (λ (s : ℤ). up s) e, ap (λ (s : ℤ). down s) e)))
      (λ e. let s = sums-up (total N.articles q y) (p a) (total N.articles p y) (q a) e in (omega (arith, l, s), omega (arith, s))) (total-moves N.articles a p q same y)

  -- and so the least totals, since each is no more than the total of the other selection by the same prices
  least-along : (x z : ℕ) → Cheapest N p order x → Cheapest N q order z → AtMost (p a) (q a) → Along (p a) (q a) (total N.articles p x) (total N.articles q z)
  least-along x z cx cz l = (
    omega (arith, le_up (total N.articles p x) (total N.articles p z) (cx.least z cz.selection), (each-along z l).0),
    omega (arith, le_up (total N.articles q z) (total N.articles q x) (cz.least x cx.selection), (each-along x l).1),
  )

pub cheapest-follows : (N : Network) (order a : ℕ) (p q : ℕ → ℤ) → ((i : ℕ) → i ≢ a → p i ≡ q i) → (x z : ℕ) → Cheapest N p order x → Cheapest N q order z
    → Follows (p a) (q a) (total N.articles p x) (total N.articles q z)
cheapest-follows N order a p q same x z cx cz =
    along-follows (p a) (q a) (total N.articles p x) (total N.articles q z) (least-along N order a p q same x z cx cz) (least-along N order a q p (λ i d. sym (same i d)) z x cz cx)
