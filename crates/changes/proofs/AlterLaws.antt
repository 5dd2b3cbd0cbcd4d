-- A list with another element: its length, its elements, what it is if the list is made by a function, and if it is altered twice; and what is made of it.
-- Assumes nothing.
use mathlib.Core.Path.{◌≡◌, refl, sym, ap, ◌∙◌}
use mathlib.Core.Logic.{◌≢◌}
use mathlib.Core.Bool.{Bool, cond}
use mathlib.Core.List.{List, [], ◌∷◌, map}
use Prim.Native.Nat.{ℕ, zero, suc, ◌<◌}
use native.Mathlib.Decide.{ℕ_discrete}
use native.Mathlib.Omega.{arith}
use lib.Dec.{eqb}
use lib.ListN.{length, get_or}
use lib.Seq.{ext_get_or}
use borrow.Author.Tests.{eq-eqb, ne_eqb}
use Rattle.sets.specs.Ranges.{list_to}
use Rattle.sets.proofs.Ranges.{list_length, list_at}
use Rattle.changes.specs.Change.{alter}

pub alter-length : {A : Type 0} (i : ℕ) (to : A → A) (l : List A) → length (alter i to l) ≡ length l
unfolding alter
alter-length i to [] = refl
alter-length zero to (x ∷ l) = refl
alter-length (suc i) to (x ∷ l) = ap suc (alter-length i to l)

pub alter-here : {A : Type 0} (i : ℕ) (to : A → A) (l : List A) (d : A) → i < length l → get_or (alter i to l) i d ≡ to (get_or l i d)
unfolding alter
alter-here i to [] d h = absurd (omega arith)
alter-here zero to (x ∷ l) d h = refl
alter-here (suc i) to (x ∷ l) d h = alter-here i to l d (omega arith)

pub alter-other : {A : Type 0} (i j : ℕ) (to : A → A) (l : List A) (d : A) → j ≢ i → get_or (alter i to l) j d ≡ get_or l j d
unfolding alter
alter-other i j to [] d h = refl
alter-other zero zero to (x ∷ l) d h = absurd (h refl)
alter-other zero (suc j) to (x ∷ l) d h = refl
alter-other (suc i) zero to (x ∷ l) d h = refl
alter-other (suc i) (suc j) to (x ∷ l) d h = alter-other i j to l d (λ e. h (ap suc e))

-- of a list that is made: element i is made otherwise
pub alter-list : {A : Type 0} (n i : ℕ) (to : A → A) (f : ℕ → A) (d : A) → i < n → alter i to (list_to n f) ≡ list_to n (λ j. cond (eqb j i) (to (f j)) (f j))
alter-list {A} n i to f d h =
    ext_get_or d (alter i to (list_to n f)) (list_to n other) (alter-length i to (list_to n f) ∙ list_length n f ∙ sym (list_length n other))
    (λ j l. at j (omega (arith, alter-length i to (list_to n f), list_length n f)) (ℕ_discrete j i))
  where
    other : ℕ → A
    other j = cond (eqb j i) (to (f j)) (f j)

    at : (j : ℕ) → j < n → Dec (j ≡ i) → get_or (alter i to (list_to n f)) j d ≡ get_or (list_to n other) j d
    at j l (yes e) =
        ap (λ (k : ℕ). get_or (alter i to (list_to n f)) k d) e ∙ alter-here i to (list_to n f) d (omega (arith, list_length n f)) ∙ ap to (list_at n f d i h)
        ∙ sym (list_at n other d j l ∙ ap (λ (b : Bool). cond b (to (f j)) (f j)) (eq-eqb j i e) ∙ ap (λ (k : ℕ). to (f k)) e)
    at j l (no e) =
        alter-other i j to (list_to n f) d e ∙ list_at n f d j l
        ∙ sym (list_at n other d j l ∙ ap (λ (b : Bool). cond b (to (f j)) (f j)) (ne_eqb j i e))

-- an element that is altered twice, and one that stays as it is
pub alter-twice : {A : Type 0} (i : ℕ) (to again : A → A) (l : List A) → alter i again (alter i to l) ≡ alter i (λ x. again (to x)) l
unfolding alter
alter-twice i to again [] = refl
alter-twice zero to again (x ∷ l) = refl
alter-twice (suc i) to again (x ∷ l) = ap (λ r. x ∷ r) (alter-twice i to again l)

pub alter-kept : {A : Type 0} (i : ℕ) (to : A → A) (l : List A) (d : A) → to (get_or l i d) ≡ get_or l i d → alter i to l ≡ l
unfolding alter
alter-kept i to [] d e = refl
alter-kept zero to (x ∷ l) d e = ap (λ y. y ∷ l) e
alter-kept (suc i) to (x ∷ l) d e = ap (λ r. x ∷ r) (alter-kept i to l d e)

-- what does not tell the two elements apart
pub alter-map : {A B : Type 0} (f : A → B) (i : ℕ) (to : A → A) → ((x : A) → f (to x) ≡ f x) → (l : List A) → map f (alter i to l) ≡ map f l
unfolding alter
alter-map f i to e [] = refl
alter-map f zero to e (x ∷ l) = ap (λ y. y ∷ map f l) (e x)
alter-map f (suc i) to e (x ∷ l) = ap (λ r. f x ∷ r) (alter-map f i to e l)
