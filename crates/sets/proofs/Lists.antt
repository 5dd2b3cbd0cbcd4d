-- The test of two lists tells whether they are the same. Assumes nothing.
use mathlib.Core.Path.{◌≡◌, refl, ap, ap₂, sym, ◌∙◌}
use mathlib.Core.Logic.{⊎_elim}
use mathlib.Core.Bool.{Bool, true, false, ◌&&◌, false≢true}
use mathlib.Core.List.{List, [], ◌∷◌}
use Prim.Native.Nat.{ℕ, ◌<◌}
use lib.Dec.{eqb}
use lib.ListN.{length, get_or}
use lib.Seq.{ext_get_or}
use lib.Pointwise.{pointwise}
use borrow.Author.Tests.{eq-eqb, eqb-true}
use Rattle.sets.specs.Lists.{same_list}
use Rattle.sets.proofs.Ranges.{test-cases, both_true}

pub same-list : (a : List ℕ) → same_list a a ≡ true
unfolding same_list
same-list [] = refl
same-list (x ∷ xs) = rw (eq-eqb x x refl) (same-list xs)

pub list_same : (a b : List ℕ) → same_list a b ≡ true → a ≡ b
unfolding same_list
list_same [] [] e = refl
list_same [] (y ∷ ys) e = absurd (false≢true e)
list_same (x ∷ xs) [] e = absurd (false≢true e)
list_same (x ∷ xs) (y ∷ ys) e =
    let (p, q) = both_true (eqb x y) (same_list xs ys) e in
    ap₂ (λ (z : ℕ) (zs : List ℕ). z ∷ zs) (eqb-true x y p) (list_same xs ys q)

pub differ : (a b : List ℕ) → (a ≡ b → ⊥) → false ≡ same_list a b
differ a b d = ⊎_elim (λ (t : same_list a b ≡ true). absurd (d (list_same a b t))) (λ (t : same_list a b ≡ false). sym t) (test-cases (same_list a b))

pub agree : (a b : List ℕ) → a ≡ b → true ≡ same_list a b
agree a b e = sym (ap (same_list a) (sym e) ∙ same-list a)

-- ---- as a loop compares them

-- every element was the same
pub all_same : (a b : List ℕ) → length a ≡ length b → ((j : ℕ) → j < length a → get_or a j 0 ≡ get_or b j 0) → true ≡ same_list a b
all_same a b l h = agree a b (ext_get_or 0 a b l h)

-- one was not
pub one-differs : (a b : List ℕ) (i : ℕ) → (get_or a i 0 ≡ get_or b i 0 → ⊥) → false ≡ same_list a b
one-differs a b i d = differ a b (λ e. d (ap (λ (l : List ℕ). get_or l i 0) e))

pub lengths_differ : (a b : List ℕ) → (length a ≡ length b → ⊥) → false ≡ same_list a b
lengths_differ a b d = differ a b (λ e. d (ap (λ (l : List ℕ). length l) e))

-- as `==` on slices and arrays of numbers tests them
pub pointwise_same : (a b : List ℕ) → pointwise eqb a b ≡ same_list a b
unfolding same_list
pointwise_same [] [] = refl
pointwise_same [] (y ∷ ys) = refl
pointwise_same (x ∷ xs) [] = refl
pointwise_same (x ∷ xs) (y ∷ ys) = ap (λ (t : Bool). eqb x y && t) (pointwise_same xs ys)
