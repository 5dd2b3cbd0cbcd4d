-- The vertices of a round layer: keepers and steps, and which of them stand. Assumes nothing.
use mathlib.Core.Path.{◌≡◌, sym, ap, ◌∙◌}
use mathlib.Core.Logic.{◌⊎◌, inl, inr}
use mathlib.Core.Bool.{false, not}
use Prim.Native.Nat.{ℕ, ◌+◌, ◌-◌, ◌^◌, ◌<◌}
use native.Mathlib.Nat.{add-sub_cancel_left}
use native.Mathlib.Decide.{dec_lt}
use native.Mathlib.Omega.{arith}
use borrow.Author.Tests.{lt-ltb, le-ltb, not-true}
use Rattle.sets.specs.Sets.{bit, ◌∈◌, ◌⊆◌, part, meets}
use Rattle.sets.proofs.Ranges.{both_true, true-both}
use Rattle.sets.proofs.Bits.{bit-one, one-alone, part-yes, yes-part}
use Rattle.sets.proofs.Made.{set_below, set-in, in-set}
use Rattle.planning.specs.Rounds.{Fitting}
use Rattle.planning.specs.Layers.{Layer, vertices, opposed, stands, standing}

module _ (w : ℕ) (F : Fitting) where
  -- ---- vertices below w are keepers, the others steps

  pub keeper-needs : (x : ℕ) → x < w → (vertices w F).needs x ≡ 2 ^ x
  keeper-needs x l = rw (lt-ltb x w l)

  pub keeper-gives : (x : ℕ) → x < w → (vertices w F).gives x ≡ 2 ^ x
  keeper-gives x l = rw (lt-ltb x w l)

  pub keeper-takes : (x : ℕ) → x < w → (vertices w F).takes x ≡ 0
  keeper-takes x l = rw (lt-ltb x w l)

  pub step-needs : (a : ℕ) → (vertices w F).needs (w + a) ≡ F.steps.needs a
  step-needs a = rw (le-ltb (w + a) w (omega arith), add-sub_cancel_left w a)

  pub step_gives : (a : ℕ) → (vertices w F).gives (w + a) ≡ F.steps.gives a
  step_gives a = rw (le-ltb (w + a) w (omega arith), add-sub_cancel_left w a)

  pub step-takes : (a : ℕ) → (vertices w F).takes (w + a) ≡ F.steps.takes a
  step-takes a = rw (le-ltb (w + a) w (omega arith), add-sub_cancel_left w a)

  pub vertex-cases : (x : ℕ) → (x < w) ⊎ ((a : ℕ) × (x ≡ w + a))
  vertex-cases x = go (dec_lt x w)
    where
      go : Dec (x < w) → (x < w) ⊎ ((a : ℕ) × (x ≡ w + a))
      go (yes l) = inl l
      go (no l) = inr (x - w, omega arith)

  -- a keeper needs its own fact, and gives that alone
  pub needs-own : (x : ℕ) → x < w → x ∈ (vertices w F).needs x
  needs-own x l = rw (keeper-needs x l) (bit-one x)

  pub gives-own : (x : ℕ) → x < w → x ∈ (vertices w F).gives x
  gives-own x l = rw (keeper-gives x l) (bit-one x)

  pub gives-only : (x i : ℕ) → x < w → i ∈ (vertices w F).gives x → i ≡ x
  gives-only x i l e = one-alone x i (ap (λ (s : ℕ). bit s i) (sym (keeper-gives x l)) ∙ e)

  -- ---- the vertices that stand

  pub standing-below : (L : Layer) → standing w (vertices w F) (w + F.count) L < 2 ^ (w + F.count)
  unfolding standing
  standing-below L = set_below (w + F.count) (stands w (vertices w F) L)

  pub standing-in : (L : Layer) (x : ℕ) → x < w + F.count → (vertices w F).needs x ⊆ L.members
      → meets (opposed w L ((vertices w F).needs x)) ((vertices w F).needs x) ≡ false → x ∈ standing w (vertices w F) (w + F.count) L
  unfolding standing stands
  standing-in L x l h e =
      let n = (vertices w F).needs x in
      set-in (w + F.count) (stands w (vertices w F) L) x l (true-both (part n L.members) (not (meets (opposed w L n) n)) (part-yes n L.members h) (ap not e))

  pub in-standing : (L : Layer) (x : ℕ) → x ∈ standing w (vertices w F) (w + F.count) L
      → (x < w + F.count) × ((vertices w F).needs x ⊆ L.members) × (meets (opposed w L ((vertices w F).needs x)) ((vertices w F).needs x) ≡ false)
  unfolding standing stands
  in-standing L x e =
      let n = (vertices w F).needs x in
      let (l, t) = in-set (w + F.count) (stands w (vertices w F) L) x e in
      let (a, b) = both_true (part n L.members) (not (meets (opposed w L n) n)) t in
      (l, yes-part n L.members a, not-true (meets (opposed w L n) n) b)
