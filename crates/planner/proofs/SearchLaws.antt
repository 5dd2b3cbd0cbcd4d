-- The laws of the search over the count of rounds: the words of a plan are copied, and counts are refuted one by one. Assumes nothing.
use mathlib.Core.Path.{◌≡◌, ap, ◌∙◌}
use mathlib.Core.List.{List, ◌++◌}
use Prim.Native.Nat.{ℕ, zero, suc, ◌+◌, ◌≤◌, ◌<◌}
use native.Mathlib.Omega.{arith}
use lib.ListN.{length, get_or, take, drop, get_or-append, length-append, length-drop}
use lib.Seq.{length-take-le, get_or-take, drop_at}
use Rattle.sets.proofs.Ranges.{one_more}
use Rattle.extraction.specs.Extraction.{all_facts, Graph, needs_of, Back, Held, Fine, Refutes}
use Rattle.extraction.proofs.ExtractLaws.{back-part, refutes-whole}
use Rattle.planner.specs.Tabulated.{Copied}

-- a copy to the front: the words there are copied, and the later ones stay as they are
pub copied-front : (k : ℕ) (words old front : List ℕ) → k ≤ length words → front ≡ take k words → Copied k words old (front ++ drop k old)
copied-front k words old front room e = (
  λ i l. get_or-append front (drop k old) 0 i (omega (arith, wide)) ∙ ap (λ (t : List ℕ). get_or t i 0) e ∙ get_or-take k words i 0 l,
  drop_at front (drop k old) k wide,
)
  where
    wide : length front ≡ k
    wide = ap length e ∙ length-take-le k words room

-- and there are as many as before
pub copied-length : (k : ℕ) (words old front : List ℕ) → front ≡ take k words → k ≤ length words → k ≤ length old → length (front ++ drop k old) ≡ length old
copied-length k words old front e room here = omega (arith, length-append front (drop k old), length-drop k old, ap length e, length-take-le k words room)

module _ (T : Graph) where
  -- a plan of k rounds is in the words below k alone, so that a copy of them holds it
  pub held_same : (k g : ℕ) (p q : List ℕ) → ((i : ℕ) → i < k → get_or q i 0 ≡ get_or p i 0) → Held T k g p → Held T k g q
  unfolding Held
  held_same zero g p q same h = h
  held_same (suc j) g p q same (x, c, e, h) = (x, c, same j (omega arith) ∙ e, held_same j (needs_of T x) p q (λ i l. same i (omega arith)) h)

  -- one count more is refused: what works the goal back would work back the refused part of it
  pub refuted-more : (carriers : List ℕ) → Fine T carriers → (k g e : ℕ) → Refutes T k g all_facts 0 0 e → ((i : ℕ) → i < k → Back T i g → ⊥)
      → (i : ℕ) → i < k + 1 → Back T i g → ⊥
  refuted-more carriers fine k g e r none =
      let (part, out) = refutes-whole T carriers fine k g 0 e r in
      one_more (λ i. Back T i g → ⊥) k none (λ b. out (back-part T k g e part b))
