-- The table of nogoods: what an entry refutes, and that a table stays right if an entry is added. Last, the test of the whole box.
-- Assumes nothing.
use mathlib.Core.Path.{◌≡◌, refl, sym, ap, subst, ◌∙◌}
use mathlib.Core.Logic.{◌⊎◌, inl, inr, ◌≢◌}
use mathlib.Core.Bool.{Bool, true, false, not, ◌&&◌, true≢false}
use mathlib.Core.List.{List}
use Prim.Native.Nat.{ℕ, ◌+◌, ◌*◌, ◌/◌, ◌%◌, ◌^◌, ◌≤◌, ◌<◌}
use native.Mathlib.Decide.{ℕ_discrete}
use native.Mathlib.Omega.{arith}
use lib.Dec.{eqb}
use lib.ListN.{length, get_or, set, replicate, length-set}
use lib.Seq.{get_or-set_same, get_or-set_other}
use borrow.Author.Tests.{eq-eqb, ne_eqb, eqb-true}
use Rattle.sets.specs.Sets.{◌⊆◌, without}
use Rattle.sets.proofs.Ranges.{both_true, zeros}
use Rattle.sets.proofs.Bits.{without-part}
use Rattle.extraction.specs.Extraction.{Graph, Back, Fine, Nogoods, Noted, Stored, StoredIf}
use Rattle.std.specs.Prelude.{Some}

-- ---- what an entry refutes

-- an entry found by the tests of `lookup`
pub noted-at : (table : List ℕ) (k g i : ℕ) → 0 < i → k ≤ get_or table i 0 / 2 ^ 32 → without (get_or table i 0 % 2 ^ 32) g ≡ 0 → Noted table k g (Some (get_or table i 0 % 2 ^ 32))
noted-at table k g i pos enough e = (without-part (get_or table i 0 % 2 ^ 32) g e, (i, pos, enough, refl))

-- an entry for r rounds, k or more: by `grows`, what r rounds do not reach, k rounds do not reach either
pub noted-refutes : (T : Graph) (carriers : List ℕ) → Fine T carriers → (table : List ℕ) → Nogoods T table → (k g c : ℕ) → 0 < k → Noted table k g (Some c) → (c ⊆ g) × (Back T k c → ⊥)
unfolding Nogoods
noted-refutes T carriers fine table known k g c pos (inside, (i, i-pos, enough, e)) =
    let r = get_or table i 0 / 2 ^ 32 in
    let (few, none) = known i i-pos (omega arith) in
    (inside, λ b. none (subst (Back T r) e (fine.grows k r c enough few b)))

-- ---- what is in a new table

-- an entry y is right
abbrev Right : Graph → ℕ → Type 0
Right T y = 0 < y / 2 ^ 32 → (y / 2 ^ 32 ≤ length T.members) × (Back T (y / 2 ^ 32) (y % 2 ^ 32) → ⊥)

-- the pair of k and e is unpacked as it was packed
pair-right : (T : Graph) (k e : ℕ) → k ≤ length T.members → e < 2 ^ 32 → (Back T k e → ⊥) → Right T (k * 2 ^ 32 + e)
pair-right T k e few below none pos =
    let high : (k * 2 ^ 32 + e) / 2 ^ 32 ≡ k = omega arith in
    let low : (k * 2 ^ 32 + e) % 2 ^ 32 ≡ e = omega arith in
    (omega arith, λ b. none (subst (Back T k) low (subst (λ (r : ℕ). Back T r ((k * 2 ^ 32 + e) % 2 ^ 32)) high b)))

-- each entry of the new table is right: an old one, or the pair
pub stored-nogoods : (T : Graph) (old new : List ℕ) → Nogoods T old → (k e : ℕ) → Stored k e old new → k ≤ length T.members → e < 2 ^ 32 → (Back T k e → ⊥) → Nogoods T new
unfolding Nogoods
stored-nogoods T old new known k e stored few below none i pos = go (stored i pos)
  where
    go : (get_or new i 0 ≡ get_or old i 0) ⊎ (get_or new i 0 ≡ k * 2 ^ 32 + e) → Right T (get_or new i 0)
    go (inl q) = subst (Right T) (sym q) (known i pos)
    go (inr q) = subst (Right T) (sym q) (pair-right T k e few below none)

-- what is stored need only be refuted if the test passed
pub stored-if : (T : Graph) (on : Bool) (old new : List ℕ) → Nogoods T old → (k e : ℕ) → StoredIf on k e old new → k ≤ length T.members → e < 2 ^ 32 → (on ≡ true → Back T k e → ⊥) → Nogoods T new
stored-if T true old new known k e stored few below none = stored-nogoods T old new known k e stored few below (none refl)
stored-if T false old new known k e same few below none = subst (Nogoods T) (sym same) known

-- a table of zeros has no entries
pub empty-nogoods : (T : Graph) (n : ℕ) → Nogoods T (replicate {A = ℕ} n 0)
unfolding Nogoods
empty-nogoods T n i pos r = absurd (omega (arith, ap (λ (y : ℕ). y / 2 ^ 32) (zeros n i)))

-- ---- what is written

-- a table left as it is
pub stored-none : (on : Bool) (k e : ℕ) (table : List ℕ) → StoredIf on k e table table
stored-none true k e table = λ i pos. inl refl
stored-none false k e table = refl

-- the pair written at one place, after entry 0, which is no pair, was written
entered : (k e : ℕ) (table : List ℕ) (x at : ℕ) → at < length table → Stored k e table (set (set table 0 x) at (k * 2 ^ 32 + e))
entered k e table x at l i pos = go (ℕ_discrete i at)
  where
    first : List ℕ
    first = set table 0 x

    pair : ℕ
    pair = k * 2 ^ 32 + e

    go : Dec (i ≡ at) → (get_or (set first at pair) i 0 ≡ get_or table i 0) ⊎ (get_or (set first at pair) i 0 ≡ pair)
    go (yes q) = inr (ap (λ (j : ℕ). get_or (set first at pair) j 0) q ∙ get_or-set_same first at pair 0 (omega (arith, length-set table 0 x)))
    go (no d) = inl (get_or-set_other first at i pair 0 d ∙ get_or-set_other table 0 i x 0 (λ q. let z : ⊥ = omega (arith, q) in z))

-- the same, after the test that `store` makes
pub stored_at : (on : Bool) (k e : ℕ) (table : List ℕ) (x at : ℕ) → not on ≡ false → at < length table → StoredIf on k e table (set (set table 0 x) at (k * 2 ^ 32 + e))
stored_at true k e table x at t l = entered k e table x at l
stored_at false k e table x at t l = absurd (true≢false t)

-- ---- the whole box

-- if the test passes, the box is the whole
pub whole-box : (may all must : ℕ) → (eqb may all && eqb must 0) ≡ true → (may ≡ all) × (must ≡ 0)
whole-box may all must t =
    let (same, none) = both_true (eqb may all) (eqb must 0) t in
    (eqb-true may all same, eqb-true must 0 none)

-- the test as `whole` makes it, one comparison after the other
pub whole-not : (may all must : ℕ) → may ≢ all → false ≡ (eqb may all && eqb must 0)
whole-not may all must d = sym (ap (λ (b : Bool). b && eqb must 0) (ne_eqb may all d))

pub whole-if : (may all must : ℕ) → may ≡ all → eqb must 0 ≡ (eqb may all && eqb must 0)
whole-if may all must e = sym (ap (λ (b : Bool). b && eqb must 0) (eq-eqb may all e))
