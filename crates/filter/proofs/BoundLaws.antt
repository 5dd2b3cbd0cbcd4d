-- How far the wishes can go: what a sum bounds; which goal of a list is the first that falls short; that such a goal excludes every selection, and
-- that its pass, and no other, leaves no article live. Assumes nothing.
use mathlib.Core.Path.{◌≡◌, refl, sym, ap, ◌∙◌, subst}
use mathlib.Core.Logic.{◌⊎◌, inl, inr, ⊎_elim}
use mathlib.Core.Bool.{Bool, true, false, cond, ◌&&◌}
use mathlib.Core.List.{List, [], ◌∷◌}
use Prim.Native.Nat.{ℕ, zero, suc, ◌-◌, ◌*◌, ◌^◌, ◌≤◌, ◌<◌}
use native.Mathlib.Nat.{le_refl, le_trans, le_of_eq, le_antisymm}
use native.Mathlib.Decide.{ℕ_discrete, dec_le, dec_lt}
use native.Mathlib.Omega.{arith}
use lib.Bits.{bit_and, and_comm}
use lib.Dec.{ltb, eqb}
use lib.ListN.{length, get_or, take}
use borrow.Author.Tests.{leb-true, leb-false, ltb-true, ltb-false, eqb-true}
use Rattle.sets.specs.Sets.{bit, ◌∈◌, ◌⊆◌, member, without, full, count}
use Rattle.sets.proofs.Ranges.{test-cases, both_true, true-both, given-no, given-le, sum-zero, sum-most, sum-but, max-most}
use Rattle.sets.proofs.Bits.{bit-and, part_in, part-le, part-refl, part-full, bit-empty, member_below, member-yes, yes-member, member-no}
use Rattle.sets.proofs.Lowest.{some-member}
use Rattle.sets.proofs.Made.{in-set, set-in}
use Rattle.sets.proofs.Counts.{count-part, count-without}
use Rattle.network.specs.Network.{Network, ClashFree, Covers, Selection}
use Rattle.network.specs.Groups.{Partition}
use Rattle.filter.specs.Filter.{share, contribution, total, others, supported, pass, passes, falls_short, first_short, live_before, Short, FirstShort, GoalsWithin}
use Rattle.filter.proofs.FilterLaws.{passes-part, reach, contribution-at, pass-sound}

-- ---- the sum

module _ (N : Network) (group : ℕ → ℕ) (live p : ℕ) where
  -- no group contributes more wishes than the goal has
  pub contribution-most : (j : ℕ) → contribution N group live p j ≤ count p
  unfolding contribution share
  contribution-most j =
      max-most N.articles (share N group live p j) (count p)
      (λ u l. le_trans (given-le (member live u && eqb (group u) j) (count (bit_and (N.wishes u) p))) (count-part (bit_and (N.wishes u) p) p (λ i. omega (arith, bit-and (N.wishes u) p i))))

  pub total-most : total N group live p ≤ N.articles * count p
  unfolding total
  total-most = sum-most N.articles (contribution N group live p) (count p) (λ j l. contribution-most j)

  -- and none contributes anything if no article is live
  dead-total : live ≡ 0 → total N group live p ≡ 0
  unfolding total contribution share
  dead-total e =
      sum-zero N.articles (contribution N group live p)
      (λ j l. let z : contribution N group live p j ≤ 0 = max-most N.articles (share N group live p j) 0 (λ u k. le_of_eq (given-no (member live u && eqb (group u) j) (count (bit_and (N.wishes u) p)) (dead j u))) in omega (arith, z))
    where
      dead : (j u : ℕ) → member live u && eqb (group u) j ≡ false
      dead j u = ap (λ (b : Bool). b && eqb (group u) j) (member-no live u (ap (λ (s : ℕ). bit s u) e ∙ bit-empty u))

-- ---- the first goal that falls short

module _ (N : Network) (group : ℕ → ℕ) where
  -- the first goal of a list falls short, or it does not and the rest of the list tells
  short-step : (live p : ℕ) (ps : List ℕ)
      → ((total N group live p < count p) × (first_short N group live (p ∷ ps) ≡ 0))
      ⊎ ((count p ≤ total N group live p) × (first_short N group live (p ∷ ps) ≡ suc (first_short N group (pass N group live p) ps)))
  unfolding first_short falls_short
  short-step live p ps = go (ltb (total N group live p) (count p)) refl
    where
      go : (b : Bool) → ltb (total N group live p) (count p) ≡ b
          → ((total N group live p < count p) × (cond b 0 (suc (first_short N group (pass N group live p) ps)) ≡ 0))
          ⊎ ((count p ≤ total N group live p) × (cond b 0 (suc (first_short N group (pass N group live p) ps)) ≡ suc (first_short N group (pass N group live p) ps)))
      go true e = inl (ltb-true (total N group live p) (count p) e, refl)
      go false e = inr (ltb-false (total N group live p) (count p) e, refl)

  -- its index is one of the list, or the list's length
  pub short-most : (live : ℕ) (goals : List ℕ) → first_short N group live goals ≤ length goals
  unfolding first_short
  short-most live [] = le_refl 0
  short-most live (p ∷ ps) =
      let rest = short-most (pass N group live p) ps in
      ⊎_elim (λ (h, e). omega (arith, e)) (λ (h, e). omega (arith, e, rest)) (short-step live p ps)

  -- if it is one of the list, that goal falls short
  pub short-there : (live : ℕ) (goals : List ℕ) → first_short N group live goals < length goals → Short N group live goals (first_short N group live goals)
  unfolding passes
  short-there live [] h = absurd (omega arith)
  short-there live (p ∷ ps) h =
      let rest = short-there (pass N group live p) ps in
      ⊎_elim (λ (s, e). subst (Short N group live (p ∷ ps)) (sym e) s) (λ (s, e). subst (Short N group live (p ∷ ps)) (sym e) (rest (omega (arith, h, e)))) (short-step live p ps)

  -- and no goal before it does
  pub short-first : (live : ℕ) (goals : List ℕ) (j : ℕ) → j < first_short N group live goals → Short N group live goals j → ⊥
  unfolding first_short passes
  short-first live [] j h s = omega arith
  short-first live (p ∷ ps) j h s = go j h s (short-first (pass N group live p) ps) (short-step live p ps)
    where
      rest : ℕ
      rest = first_short N group (pass N group live p) ps

      first : ℕ
      first = first_short N group live (p ∷ ps)

      go : (j : ℕ) → j < first → Short N group live (p ∷ ps) j → ((k : ℕ) → k < rest → Short N group (pass N group live p) ps k → ⊥)
          → ((total N group live p < count p) × (first ≡ 0)) ⊎ ((count p ≤ total N group live p) × (first ≡ suc rest)) → ⊥
      go j h s later (inl (a, e)) = omega (arith, h, e)
      go zero h s later (inr (a, e)) = omega (arith, a, s)
      go (suc k) h s later (inr (a, e)) = later k (omega (arith, h, e)) s

  module _ (live : ℕ) (goals : List ℕ) where
    -- so it is the one place of which the words are true
    pub first_short_lem : FirstShort N group live goals (first_short N group live goals)
    first_short_lem = (go (dec_lt (first_short N group live goals) (length goals)), short-first live goals)
      where
        go : Dec (first_short N group live goals < length goals) → ((first_short N group live goals < length goals) × Short N group live goals (first_short N group live goals)) ⊎ (first_short N group live goals ≡ length goals)
        go (yes l) = inl (l, short-there live goals l)
        go (no d) = inr (omega (arith, short-most live goals))

    pub short-same : (place : ℕ) → FirstShort N group live goals place → place ≡ first_short N group live goals
    short-same place (at, before) = le_antisymm (go-up (dec_le place (first_short N group live goals))) (go-down at (dec_le (first_short N group live goals) place))
      where
        go-up : Dec (place ≤ first_short N group live goals) → place ≤ first_short N group live goals
        go-up (yes l) = l
        go-up (no d) = absurd (before (first_short N group live goals) (omega arith) (short-there live goals (⊎_elim (λ (l, s). omega (arith, l)) (λ e. omega (arith, e)) at)))

        go-down : ((place < length goals) × Short N group live goals place) ⊎ (place ≡ length goals) → Dec (first_short N group live goals ≤ place) → first_short N group live goals ≤ place
        go-down at (yes l) = l
        go-down (inl (l, s)) (no d) = absurd (short-first live goals place (omega arith) s)
        go-down (inr e) (no d) = omega (arith, e, short-most live goals)

  -- what is live before the next pass is what this one leaves
  pub passes-next : (live : ℕ) (goals : List ℕ) (i : ℕ) → i < length goals → live_before N group live goals (suc i) ≡ pass N group (live_before N group live goals i) (get_or goals i 0)
  unfolding passes
  passes-next live [] i l = absurd (omega arith)
  passes-next live (p ∷ ps) zero l = refl
  passes-next live (p ∷ ps) (suc i) l = passes-next (pass N group live p) ps i (omega arith)

-- ---- what a goal that falls short excludes

module _ (N : Network) (group : ℕ → ℕ) (ok : Partition N group) where
  -- the sum bounds the wishes of a goal that a clash-free set of live articles covers
  pub total-bounds : (live p x : ℕ) → ClashFree N x → x ⊆ live → (q : ℕ) → q ⊆ p → Covers N x q → count q ≤ total N group live p
  unfolding total
  total-bounds live p x free alive q w cov =
      reach N group ok x free q cov (contribution N group live p)
      (λ u l e.
      le_trans (count-part (bit_and (N.wishes u) q) (bit_and (N.wishes u) p) (λ i. omega (arith, w i, bit-and (N.wishes u) q i, bit-and (N.wishes u) p i)))
      (contribution-at N group ok live p u l (part_in x live alive u e)))

  -- before its pass: every selection that is made of live articles only
  pub falls-short-excludes : (live p : ℕ) → total N group live p < count p → {order x : ℕ} → p ⊆ order → Selection N order x → x ⊆ live → ⊥
  falls-short-excludes live p short {x = x} w s alive = omega (arith, short, total-bounds live p x s.free alive p (part-refl p) (λ i. le_trans (w i) (s.covers i)))

  -- so if a selection is live, no goal of a list within the order falls short
  pub none-short : {order x : ℕ} → Selection N order x → (live : ℕ) (goals : List ℕ) → GoalsWithin order goals → x ⊆ live → first_short N group live goals ≡ length goals
  unfolding first_short
  none-short s live [] w alive = refl
  none-short {x = x} s live (p ∷ ps) w alive =
      let rest = none-short s (pass N group live p) ps w.1 (pass-sound N group ok live p x s.within s.free alive (λ i. le_trans (w.0 i) (s.covers i))) in
      ⊎_elim (λ (h, e). absurd (falls-short-excludes live p h w.0 s alive)) (λ (h, e). e ∙ ap suc rest) (short-step N group live p ps)

  -- and a list in which a goal falls short, all articles being live at first, excludes every selection, whatever its number
  pub short-excludes : {order : ℕ} (goals : List ℕ) → GoalsWithin order goals → first_short N group (full N.articles) goals < length goals → (x : ℕ) → Selection N order x → ⊥
  short-excludes goals w short x s = omega (arith, none-short s (full N.articles) goals w (part-full N.articles x s.within))

  -- ---- what its pass leaves

  -- one article that is left has the goal within the reach of the groups: its own group contributes what it carries, the others the rest
  left-reaches : (live p v : ℕ) → v ∈ pass N group live p → count p ≤ total N group live p
  unfolding pass supported total others
  left-reaches live p v e =
      let (l, t) = in-set N.articles (λ v. member live v && supported N group live p v) v e in
      let (alive, helped) = both_true (member live v) (supported N group live p v) t in
      omega (
        arith,
        leb-true (count (without p (N.wishes v))) (others N group live p (group v)) helped,
        contribution-at N group ok live p v l (yes-member live v alive),
        count-without p (N.wishes v),
        ap count (and_comm p (N.wishes v)),
        sum-but N.articles (group v) (contribution N group live p) (ok.inside v l),
      )

  pub short-strikes-all : (live p : ℕ) → total N group live p < count p → pass N group live p ≡ 0
  short-strikes-all live p short = go (ℕ_discrete (pass N group live p) 0)
    where
      go : Dec (pass N group live p ≡ 0) → pass N group live p ≡ 0
      go (yes e) = e
      go (no d) = let (v, e) = some-member (pass N group live p) d in absurd (omega (arith, left-reaches live p v e, short))

  -- after a goal that falls short every later goal does, unless it is empty
  pub short-onward : (live : ℕ) (goals : List ℕ) (i j : ℕ) → i < j → j < length goals → 0 < count (get_or goals j 0) → Short N group live goals i → Short N group live goals j
  unfolding passes
  short-onward live [] i j l k some s = absurd (omega arith)
  short-onward live (p ∷ ps) i zero l k some s = absurd (omega arith)
  short-onward live (p ∷ ps) zero (suc j) l k some s =
      let struck = short-strikes-all live p s in
      let left = passes N group (pass N group live p) (take j ps) in
      let none : left ≡ 0 = omega (arith, struck, part-le left (pass N group live p) (passes-part N group (pass N group live p) (take j ps))) in
      omega (arith, dead-total N group left (get_or ps j 0) none, some)
  short-onward live (p ∷ ps) (suc i) (suc j) l k some s = short-onward (pass N group live p) ps i j (omega arith) (omega arith) some s

  -- and only such a pass leaves none, unless its goal is empty: if no live article of a group is supported, each brings less than the others leave of
  -- the goal
  pub all-struck-short : (live p : ℕ) → live < 2 ^ N.articles → 0 < count p → pass N group live p ≡ 0 → total N group live p < count p
  unfolding pass supported total others contribution share
  all-struck-short live p below some struck = go (ℕ_discrete live 0)
    where
      unsupported : (u : ℕ) → u < N.articles → u ∈ live → others N group live p (group u) < count (without p (N.wishes u))
      unsupported u l e = either (test-cases (supported N group live p u))
        where
          either : (supported N group live p u ≡ true) ⊎ (supported N group live p u ≡ false) → others N group live p (group u) < count (without p (N.wishes u))
          either (inl t) =
              let m = set-in N.articles (λ v. member live v && supported N group live p v) u l (true-both (member live u) (supported N group live p u) (member-yes live u e) t) in
              absurd (omega (arith, subst (λ (s : ℕ). u ∈ s) struck m, bit-empty u))
          either (inr t) = leb-false (count (without p (N.wishes u))) (others N group live p (group u)) t

      brings : (j u : ℕ) → u < N.articles → share N group live p j u ≤ count p - suc (others N group live p j)
      brings j u l = either (test-cases (member live u && eqb (group u) j))
        where
          either : (member live u && eqb (group u) j ≡ true) ⊎ (member live u && eqb (group u) j ≡ false) → share N group live p j u ≤ count p - suc (others N group live p j)
          either (inl t) =
              let (alive, own) = both_true (member live u) (eqb (group u) j) t in
              omega (
                arith,
                given-le (member live u && eqb (group u) j) (count (bit_and (N.wishes u) p)),
                unsupported u l (yes-member live u alive),
                ap (others N group live p) (eqb-true (group u) j own),
                count-without p (N.wishes u),
                ap count (and_comm p (N.wishes u)),
              )
          either (inr t) = omega (arith, given-no (member live u && eqb (group u) j) (count (bit_and (N.wishes u) p)) t)

      go : Dec (live ≡ 0) → total N group live p < count p
      go (yes e) = omega (arith, dead-total N group live p e, some)
      go (no d) =
          let (v, e) = some-member live d in
          let l = member_below live N.articles v below e in
          omega (
            arith,
            sum-but N.articles (group v) (contribution N group live p) (ok.inside v l),
            max-most N.articles (share N group live p (group v)) (count p - suc (others N group live p (group v))) (brings (group v)),
            unsupported v l e,
            count-without p (N.wishes v),
          )
