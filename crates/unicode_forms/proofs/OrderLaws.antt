-- Canonical order: an exchange of a reorderable pair leaves it as it is; it has no reorderable pair; and what has none is its own order. Assumes nothing.
use mathlib.Core.Path.{◌≡◌, refl, sym, ap, ◌∙◌}
use mathlib.Core.Logic.{◌⊎◌, inl, inr}
use mathlib.Core.Bool.{true, false, ◌&&◌, true≢false}
use mathlib.Core.List.{List, [], ◌∷◌, ◌++◌}
use Prim.Native.Nat.{ℕ, suc, ◌<◌, ◌≤◌}
use native.Mathlib.Omega.{arith}
use lib.Dec.{ltb}
use lib.ListN.{length}
use borrow.Author.Tests.{ltb-true, lt-ltb, le-ltb}
use Rattle.sets.proofs.Ranges.{test-cases, both_true}
use Rattle.unicode_forms.specs.Canonical.{class, reorderable, InOrder}
use Rattle.unicode_forms.specs.Forms.{inserted, ordered}

-- ---- reorderable pairs by their classes

pub reorder-from : (a b : ℕ) → reorderable a b ≡ true → (class b < class a) × (0 < class b)
unfolding reorderable
reorder-from a b e = let (p, q) = both_true (ltb (class b) (class a)) (ltb 0 (class b)) e in (ltb-true (class b) (class a) p, ltb-true 0 (class b) q)

pub reorder-yes : (a b : ℕ) → class b < class a → 0 < class b → reorderable a b ≡ true
unfolding reorderable
reorder-yes a b p q = simp (lt-ltb (class b) (class a) p, lt-ltb 0 (class b) q)

pub reorder-no : (a b : ℕ) → class a ≤ class b → reorderable a b ≡ false
unfolding reorderable
reorder-no a b p = simp (le-ltb (class b) (class a) p)

pub reorder-none : (a b : ℕ) → class b ≤ 0 → reorderable a b ≡ false
unfolding reorderable
reorder-none a b p = go (test-cases (ltb (class b) (class a)))
  where
    go : (ltb (class b) (class a) ≡ true) ⊎ (ltb (class b) (class a) ≡ false) → ltb (class b) (class a) && ltb 0 (class b) ≡ false
    go (inl t) = simp (t, le-ltb 0 (class b) p)
    go (inr t) = simp t

-- ---- one character more

pub insert-past : (c d : ℕ) (ds : List ℕ) → reorderable c d ≡ true → inserted c (d ∷ ds) ≡ d ∷ inserted c ds
unfolding inserted
insert-past c d ds e = simp e

pub insert-here : (c d : ℕ) (ds : List ℕ) → reorderable c d ≡ false → inserted c (d ∷ ds) ≡ c ∷ d ∷ ds
unfolding inserted
insert-here c d ds e = simp e

-- two characters that are a reorderable pair may be exchanged
pub exchange : (a b : ℕ) (l : List ℕ) → reorderable a b ≡ true → inserted a (inserted b l) ≡ inserted b (inserted a l)
unfolding inserted
exchange a b [] e = simp (e, reorder-no b a (let (p, q) = reorder-from a b e in omega arith))
exchange a b (d ∷ ds) e = go (exchange a b ds e) (test-cases (reorderable b d)) (test-cases (reorderable a d))
  where
    p : (class b < class a) × (0 < class b)
    p = reorder-from a b e

    ba : reorderable b a ≡ false
    ba = reorder-no b a (let (x, y) = p in omega arith)

    go : inserted a (inserted b ds) ≡ inserted b (inserted a ds) → (reorderable b d ≡ true) ⊎ (reorderable b d ≡ false) → (reorderable a d ≡ true) ⊎ (reorderable a d ≡ false) → inserted a (inserted b (d ∷ ds)) ≡ inserted b (inserted a (d ∷ ds))
    go ih (inl x) (inl y) =
        ap (inserted a) (insert-past b d ds x) ∙ insert-past a d (inserted b ds) y ∙ ap (λ (l : List ℕ). d ∷ l) ih ∙ sym (insert-past b d (inserted a ds) x) ∙ ap (inserted b) (sym (insert-past a d ds y))
    go ih (inl x) (inr y) = absurd (true≢false (sym (reorder-yes a d (let (m, n) = p in let (u, v) = reorder-from b d x in omega arith) (reorder-from b d x).1) ∙ y))
    go ih (inr x) (inl y) =
        ap (inserted a) (insert-here b d ds x) ∙ insert-past a b (d ∷ ds) e ∙ ap (λ (l : List ℕ). b ∷ l) (insert-past a d ds y) ∙ sym (insert-here b d (inserted a ds) x) ∙ ap (inserted b) (sym (insert-past a d ds y))
    go ih (inr x) (inr y) =
        ap (inserted a) (insert-here b d ds x) ∙ insert-past a b (d ∷ ds) e ∙ ap (λ (l : List ℕ). b ∷ l) (insert-here a d ds y) ∙ sym (insert-here b a (d ∷ ds) ba) ∙ ap (inserted b) (sym (insert-here a d ds y))

-- ---- order in parts

-- characters in front of an ordered text
unfoldable pub onto : List ℕ → List ℕ → List ℕ
onto [] l = l
onto (c ∷ cs) l = inserted c (onto cs l)

pub ordered-append : (xs ys : List ℕ) → ordered (xs ++ ys) ≡ onto xs (ordered ys)
unfolding ordered onto
ordered-append [] ys = refl
ordered-append (x ∷ xs) ys = ap (inserted x) (ordered-append xs ys)

onto-inserted : (c : ℕ) (l z : List ℕ) → onto (inserted c l) z ≡ inserted c (onto l z)
unfolding onto inserted
onto-inserted c [] z = refl
onto-inserted c (d ∷ ds) z = go (onto-inserted c ds z) (test-cases (reorderable c d))
  where
    go : onto (inserted c ds) z ≡ inserted c (onto ds z) → (reorderable c d ≡ true) ⊎ (reorderable c d ≡ false) → onto (inserted c (d ∷ ds)) z ≡ inserted c (inserted d (onto ds z))
    go ih (inl x) = ap (λ (l : List ℕ). onto l z) (insert-past c d ds x) ∙ ap (inserted d) ih ∙ sym (exchange c d (onto ds z) x)
    go ih (inr x) = ap (λ (l : List ℕ). onto l z) (insert-here c d ds x)

onto-ordered : (xs z : List ℕ) → onto (ordered xs) z ≡ onto xs z
unfolding onto ordered
onto-ordered [] z = refl
onto-ordered (x ∷ xs) z = onto-inserted x (ordered xs) z ∙ ap (inserted x) (onto-ordered xs z)

-- what stands in front may be ordered first
pub ordered-again : (xs ys : List ℕ) → ordered (ordered xs ++ ys) ≡ ordered (xs ++ ys)
ordered-again xs ys = ordered-append (ordered xs) ys ∙ onto-ordered xs (ordered ys) ∙ sym (ordered-append xs ys)

-- a reorderable pair anywhere may be exchanged
pub exchanged : (xs : List ℕ) (a b : ℕ) (ys : List ℕ) → reorderable a b ≡ true → ordered (xs ++ (a ∷ b ∷ ys)) ≡ ordered (xs ++ (b ∷ a ∷ ys))
unfolding ordered
exchanged xs a b ys e = ordered-append xs (a ∷ b ∷ ys) ∙ ap (onto xs) (swapped a b ys e) ∙ sym (ordered-append xs (b ∷ a ∷ ys))
  where
    swapped : (a b : ℕ) (ys : List ℕ) → reorderable a b ≡ true → ordered (a ∷ b ∷ ys) ≡ ordered (b ∷ a ∷ ys)
    swapped a b ys e = exchange a b (ordered ys) e

-- ---- texts without a reorderable pair

-- such a text is its own order
pub order-kept : (l : List ℕ) → InOrder l → ordered l ≡ l
unfolding ordered inserted
order-kept [] c = refl
order-kept (a ∷ []) c = refl
order-kept (a ∷ b ∷ l) (h, c) = ap (inserted a) (order-kept (b ∷ l) c) ∙ insert-here a b l h

pub order-tail : (a : ℕ) (l : List ℕ) → InOrder (a ∷ l) → InOrder l
order-tail a [] c = tt
order-tail a (b ∷ l) (h, c) = c

-- a text in order has no reorderable pair
order-inserted : (c : ℕ) (l : List ℕ) → InOrder l → InOrder (inserted c l)
unfolding inserted
order-inserted c [] h = tt
order-inserted c (d ∷ []) h = go (test-cases (reorderable c d))
  where
    go : (reorderable c d ≡ true) ⊎ (reorderable c d ≡ false) → InOrder (inserted c (d ∷ []))
    go (inl x) = rw x (reorder-no d c (let (p, q) = reorder-from c d x in omega arith), tt)
    go (inr x) = rw x (x, tt)
order-inserted c (d ∷ e ∷ l) (h, g) = go (order-inserted c (e ∷ l) g) (test-cases (reorderable c d)) (test-cases (reorderable c e))
  where
    below : reorderable c d ≡ true → reorderable d c ≡ false
    below x = reorder-no d c (let (p, q) = reorder-from c d x in omega arith)

    go : InOrder (inserted c (e ∷ l)) → (reorderable c d ≡ true) ⊎ (reorderable c d ≡ false) → (reorderable c e ≡ true) ⊎ (reorderable c e ≡ false) → InOrder (inserted c (d ∷ e ∷ l))
    go ih (inl x) (inl y) = rw (x, y) (h, rw y at ih)
    go ih (inl x) (inr y) = rw (x, y) (below x, (y, g))
    go ih (inr x) y = rw x (x, (h, g))

pub order-made : (l : List ℕ) → InOrder (ordered l)
unfolding ordered
order-made [] = tt
order-made (c ∷ cs) = order-inserted c (ordered cs) (order-made cs)

-- ---- lengths

inserted-length : (c : ℕ) (l : List ℕ) → length (inserted c l) ≡ suc (length l)
unfolding inserted
inserted-length c [] = refl
inserted-length c (d ∷ ds) = go (inserted-length c ds) (test-cases (reorderable c d))
  where
    go : length (inserted c ds) ≡ suc (length ds) → (reorderable c d ≡ true) ⊎ (reorderable c d ≡ false) → length (inserted c (d ∷ ds)) ≡ suc (suc (length ds))
    go ih (inl x) = rw x (ap suc ih)
    go ih (inr x) = rw x refl

pub ordered-length : (l : List ℕ) → length (ordered l) ≡ length l
unfolding ordered
ordered-length [] = refl
ordered-length (c ∷ cs) = inserted-length c (ordered cs) ∙ ap suc (ordered-length cs)
