-- The filter strikes no article of any selection (001, definition 4; demand 2). Assumes nothing.
use mathlib.Core.Path.{◌≡◌, refl, sym, ap, ◌∙◌}
use mathlib.Core.Logic.{◌⊎◌, inl, inr}
use mathlib.Core.Bool.{true, false, not, ◌&&◌, true≢false}
use mathlib.Core.List.{List, [], ◌∷◌}
use Prim.Native.Nat.{ℕ, ◌^◌, ◌≤◌, ◌<◌, zero-le, min}
use native.Mathlib.Nat.{le_refl, le_trans, le_of_eq}
use native.Mathlib.Decide.{ℕ_discrete}
use native.Mathlib.Omega.{arith}
use lib.Bits.{bit_and}
use lib.Dec.{eqb}
use borrow.Author.Tests.{le-leb, eq-eqb, ne_eqb}
use Rattle.sets.specs.Ranges.{given, sum_to}
use Rattle.sets.specs.Sets.{◌∈◌, ◌⊆◌, member, without, full, count}
use Rattle.sets.proofs.Ranges.{test-cases, both_true, true-both, given_yes, given-no, given-le, sum-classes, max-at}
use Rattle.sets.proofs.Bits.{bit-and, bit-without, part_in, in-part, part-full, member-yes, yes-member, without-apart, in_without}
use Rattle.sets.proofs.Made.{in-set, part-set}
use Rattle.sets.proofs.Counts.{count-gathered, count-part, count-empty}
use Rattle.network.specs.Network.{Network, ClashFree, together, Covers, Selection}
use Rattle.network.specs.Groups.{Partition}
use Rattle.filter.specs.Filter.{share, contribution, others, supported, pass, passes, GoalsWithin, set_aside}
use Rattle.network.proofs.NetworkLaws.{apart}

-- what was struck does not come back
pub pass-part : (N : Network) (group : ℕ → ℕ) (live p : ℕ) → pass N group live p ⊆ live
unfolding pass
pass-part N group live p =
    in-part (pass N group live p) live
    (λ v e. yes-member live v (both_true (member live v) (supported N group live p v) (in-set N.articles (λ v. member live v && supported N group live p v) v e).1).0)

pub passes-part : (N : Network) (group : ℕ → ℕ) (live : ℕ) (goals : List ℕ) → passes N group live goals ⊆ live
unfolding passes
passes-part N group live [] i = le_refl _
passes-part N group live (p ∷ ps) i = le_trans (passes-part N group (pass N group live p) ps i) (pass-part N group live p i)

module _ (N : Network) (group : ℕ → ℕ) (ok : Partition N group) where
  -- if each member brings at most c of its group, a clash-free set covers no more than the sum of c: no two members share a group
  pub reach : (x : ℕ) → ClashFree N x → (q : ℕ) → Covers N x q → (c : ℕ → ℕ)
      → ((u : ℕ) → u < N.articles → u ∈ x → count (bit_and (N.wishes u) q) ≤ c (group u)) → count q ≤ sum_to N.articles c
  unfolding together
  reach x free q cov c most =
      le_trans (count-gathered N.articles N.wishes x q cov)
      (sum-classes N.articles N.articles group brings c ok.inside (λ u l. bound u l (test-cases (member x u))) (λ u v l k e. alone u v l k e (test-cases (member x u)) (test-cases (member x v))))
    where
      brings : ℕ → ℕ
      brings u = given (member x u) (count (bit_and (N.wishes u) q))

      bound : (u : ℕ) → u < N.articles → (member x u ≡ true) ⊎ (member x u ≡ false) → brings u ≤ c (group u)
      bound u l (inl t) = le_trans (given-le (member x u) (count (bit_and (N.wishes u) q))) (most u l (yes-member x u t))
      bound u l (inr t) = le_trans (le_of_eq (given-no (member x u) (count (bit_and (N.wishes u) q)) t)) zero-le

      alone : (u v : ℕ) → u < v → v < N.articles → group u ≡ group v → (member x u ≡ true) ⊎ (member x u ≡ false) → (member x v ≡ true) ⊎ (member x v ≡ false) → min (brings u) (brings v) ≡ 0
      alone u v l k e (inl a) (inl b) = absurd (true≢false (sym (ok.clique u v l k e) ∙ free u v l (yes-member x u a) (yes-member x v b)))
      alone u v l k e (inl a) (inr b) = omega (arith, given-no (member x v) (count (bit_and (N.wishes v) q)) b)
      alone u v l k e (inr a) b = omega (arith, given-no (member x u) (count (bit_and (N.wishes u) q)) a)

  -- a live article brings no more than its group contributes
  pub contribution-at : (live p u : ℕ) → u < N.articles → u ∈ live → count (bit_and (N.wishes u) p) ≤ contribution N group live p (group u)
  unfolding contribution share
  contribution-at live p u l e =
      le_trans
      (le_of_eq (sym (given_yes (member live u && eqb (group u) (group u)) (count (bit_and (N.wishes u) p)) (true-both (member live u) (eqb (group u) (group u)) (member-yes live u e) (eq-eqb (group u) (group u) refl)))))
      (max-at N.articles (share N group live p (group u)) u l)

  -- every member of a clash-free set of live articles that covers the goal is supported
  pub supported-sound : (live p x : ℕ) → ClashFree N x → x ⊆ live → Covers N x p → (v : ℕ) → v < N.articles → v ∈ x → supported N group live p v ≡ true
  unfolding supported others
  supported-sound live p x free alive cov v lv ev =
      le-leb (count q) (others N group live p (group v)) (reach x free q (λ i. le_trans (omega (arith, bit-without p (N.wishes v) i)) (cov i)) c (λ u l e. most u l e (ℕ_discrete u v)))
    where
      q : ℕ
      q = without p (N.wishes v)

      c : ℕ → ℕ
      c j = given (not (eqb j (group v))) (contribution N group live p j)

      fewer : (u : ℕ) → count (bit_and (N.wishes u) q) ≤ count (bit_and (N.wishes u) p)
      fewer u =
          count-part (bit_and (N.wishes u) q) (bit_and (N.wishes u) p) (λ i. omega (arith, bit-without p (N.wishes v) i, bit-and (N.wishes u) q i, bit-and (N.wishes u) p i))

      most : (u : ℕ) → u < N.articles → u ∈ x → Dec (u ≡ v) → count (bit_and (N.wishes u) q) ≤ c (group u)
      most u l e (yes d) = le_trans (le_of_eq (ap (λ (k : ℕ). count (bit_and (N.wishes k) q)) d ∙ ap count (without-apart p (N.wishes v)) ∙ count-empty)) zero-le
      most u l e (no d) =
          rw (ne_eqb (group u) (group v) (apart N group ok x free u v l lv e ev d)) (le_trans (fewer u) (contribution-at live p u l (part_in x live alive u e)))

  -- one pass: an article that is dropped is in no clash-free set of live articles that covers the goal
  pub pass-sound : (live p x : ℕ) → x < 2 ^ N.articles → ClashFree N x → x ⊆ live → Covers N x p → x ⊆ pass N group live p
  unfolding pass
  pass-sound live p x below free alive cov =
      part-set N.articles x (λ v. member live v && supported N group live p v) below
      (λ v l e. true-both (member live v) (supported N group live p v) (member-yes live v (part_in x live alive v e)) (supported-sound live p x free alive cov v l e))

  -- any list of passes with goals within the order keeps every selection that was live
  pub passes-sound : {order x : ℕ} → Selection N order x → (live : ℕ) (goals : List ℕ) → GoalsWithin order goals → x ⊆ live → x ⊆ passes N group live goals
  unfolding passes
  passes-sound s live [] w alive = alive
  passes-sound {order} {x} s live (p ∷ ps) w alive =
      passes-sound s (pass N group live p) ps w.1 (pass-sound live p x s.within s.free alive (λ i. le_trans (w.0 i) (s.covers i)))

  -- no article that is set aside is in any selection, whatever its number
  pub aside-sound : {order x : ℕ} → Selection N order x → (goals : List ℕ) → GoalsWithin order goals → (u : ℕ) → u ∈ set_aside N group goals → u ∈ x → ⊥
  unfolding set_aside
  aside-sound {order} {x} s goals w u a e =
      let all = full N.articles in
      let live = passes N group all goals in
      omega (arith, (in_without all live u a).1, part_in x live (passes-sound s all goals w (part-full N.articles x s.within)) u e)
