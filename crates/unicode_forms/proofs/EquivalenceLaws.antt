-- Normalization form D is the canonical decomposition, and a text has no other: however characters were taken apart and pairs exchanged. Assumes nothing.
use mathlib.Core.Path.{◌≡◌, refl, sym, ap, subst, ◌∙◌}
use mathlib.Core.Logic.{◌⊎◌, inl, inr}
use mathlib.Core.Bool.{true, false}
use mathlib.Core.List.{List, [], ◌∷◌, ◌++◌}
use Prim.Native.Nat.{ℕ, zero, suc}
use Rattle.sets.proofs.Ranges.{test-cases, both_true}
use Rattle.unicode_forms.specs.Utf8.{covers, covers_all}
use Rattle.unicode_forms.specs.Canonical.{parts, reorderable, Times, Many, Mapped, Apart, Exchanged, InOrder, Decomposition, Equivalent}
use Rattle.unicode_forms.specs.Forms.{apart, inserted, ordered, nfd}
use Rattle.unicode_forms.proofs.TableLaws.{fixed, apart-append, apart-same, both-apart}
use Rattle.unicode_forms.proofs.OrderLaws.{exchanged, order-kept, order-made}

-- ---- many steps

module _ (R : List ℕ → List ℕ → Type 0) where
  times-then : (k : ℕ) (x y z : List ℕ) → Times R k x y → Many R y z → Many R x z
  times-then zero x y z e m = rw e m
  times-then (suc k) x y z (w, r, t) m = let (n, u) = times-then k w y z t m in (suc n, (w, r, u))

  pub then : (x y z : List ℕ) → Many R x y → Many R y z → Many R x z
  then x y z (k, t) m = times-then k x y z t m

  -- steps that may be taken behind any character may be taken behind any text
  module _ (behind : (c : ℕ) (x y : List ℕ) → R x y → R (c ∷ x) (c ∷ y)) where
    times-behind : (k c : ℕ) (x y : List ℕ) → Times R k x y → Times R k (c ∷ x) (c ∷ y)
    times-behind zero c x y e = ap (λ (l : List ℕ). c ∷ l) e
    times-behind (suc k) c x y (z, r, t) = (c ∷ z, behind c x z r, times-behind k c z y t)

    pub many-behind : (c : ℕ) (x y : List ℕ) → Many R x y → Many R (c ∷ x) (c ∷ y)
    many-behind c x y (k, t) = (k, times-behind k c x y t)

    pub many-after : (front x y : List ℕ) → Many R x y → Many R (front ++ x) (front ++ y)
    many-after [] x y m = m
    many-after (c ∷ front) x y m = many-behind c (front ++ x) (front ++ y) (many-after front x y m)

-- ---- taken apart

mapped-behind : (c : ℕ) (x y : List ℕ) → Mapped x y → Mapped (c ∷ x) (c ∷ y)
mapped-behind c x y (front, back, d, p, q) = (c ∷ front, back, d, ap (λ (l : List ℕ). c ∷ l) p, ap (λ (l : List ℕ). c ∷ l) q)

-- every character after the other
pub apart-reached : (x : List ℕ) → Many Mapped x (apart x)
unfolding apart
apart-reached [] = (0, refl)
apart-reached (c ∷ cs) =
    let rest = many-after Mapped mapped-behind (parts c) cs (apart cs) (apart-reached cs) in
    then Mapped (c ∷ cs) (parts c ++ cs) (parts c ++ apart cs) (1, (parts c ++ cs, ([], cs, c, refl, refl), refl)) rest

pub covers-append : (x y : List ℕ) → covers_all x ≡ true → covers_all y ≡ true → covers_all (x ++ y) ≡ true
unfolding covers_all
covers-append [] y a b = b
covers-append (c ∷ x) y a b = let (p, q) = both_true (covers c) (covers_all x) a in rw p (covers-append x y q b)

covers-parts : (x y : List ℕ) → covers_all (x ++ y) ≡ true → (covers_all x ≡ true) × (covers_all y ≡ true)
unfolding covers_all
covers-parts [] y h = (refl, h)
covers-parts (c ∷ x) y h =
    let (p, q) = both_true (covers c) (covers_all (x ++ y)) h in
    let (a, b) = covers-parts x y q in
    (rw p a, b)

-- a covered text that is taken apart, and nothing of that can be taken apart further
pub apart-whole : (x : List ℕ) → covers_all x ≡ true → (covers_all (apart x) ≡ true) × Apart (apart x)
unfolding apart covers_all
apart-whole [] h = (refl, tt)
apart-whole (c ∷ cs) h =
    let (p, q) = both_true (covers c) (covers_all cs) h in
    let (a, b) = apart-whole cs q in
    let (u, v) = fixed c p in
    (covers-append (parts c) (apart cs) u a, both-apart (parts c) (apart cs) v b)

-- a step leaves it covered, and what it is taken apart to
mapped-same : (x y : List ℕ) → covers_all x ≡ true → Mapped x y → (covers_all y ≡ true) × (apart y ≡ apart x)
unfolding covers_all apart
mapped-same x y h (front, back, c, p, q) =
    let (u, v) = covers-parts front (c ∷ back) (rw p at h) in
    let (s, t) = both_true (covers c) (covers_all back) v in
    let (f, g) = fixed c s in (
      rw q (covers-append front (parts c ++ back) u (covers-append (parts c) back f t)),
      ap apart q ∙ apart-append front (parts c ++ back)
          ∙ ap (λ (l : List ℕ). apart front ++ l) (apart-append (parts c) back ∙ ap (λ (l : List ℕ). l ++ apart back) (apart-same (parts c) g))
          ∙ sym (apart-append front (c ∷ back)) ∙ ap apart (sym p),
    )

times-same : (k : ℕ) (x y : List ℕ) → covers_all x ≡ true → Times Mapped k x y → apart y ≡ apart x
times-same zero x y h e = ap apart (sym e)
times-same (suc k) x y h (z, r, t) = let (a, b) = mapped-same x z h r in times-same k z y a t ∙ b

-- whichever characters gave way first, what cannot be taken apart further is the same
pub apart-only : (x y : List ℕ) → covers_all x ≡ true → Many Mapped x y → Apart y → y ≡ apart x
apart-only x y h (k, t) a = sym (apart-same y a) ∙ times-same k x y h t

-- ---- in order

exchanged-behind : (c : ℕ) (x y : List ℕ) → Exchanged x y → Exchanged (c ∷ x) (c ∷ y)
exchanged-behind c x y (front, back, a, b, h, p, q) = (c ∷ front, back, a, b, h, ap (λ (l : List ℕ). c ∷ l) p, ap (λ (l : List ℕ). c ∷ l) q)

insert-reached : (c : ℕ) (l : List ℕ) → Many Exchanged (c ∷ l) (inserted c l)
unfolding inserted
insert-reached c [] = (0, refl)
insert-reached c (d ∷ ds) = go (insert-reached c ds) (test-cases (reorderable c d))
  where
    go : Many Exchanged (c ∷ ds) (inserted c ds) → (reorderable c d ≡ true) ⊎ (reorderable c d ≡ false) → Many Exchanged (c ∷ d ∷ ds) (inserted c (d ∷ ds))
    go ih (inl e) =
        rw e (then Exchanged (c ∷ d ∷ ds) (d ∷ c ∷ ds) (d ∷ inserted c ds) (1, (d ∷ c ∷ ds, ([], ds, c, d, e, refl, refl), refl)) (many-behind Exchanged exchanged-behind d (c ∷ ds) (inserted c ds) ih))
    go ih (inr e) = rw e (0, refl)

pub order-reached : (x : List ℕ) → Many Exchanged x (ordered x)
unfolding ordered
order-reached [] = (0, refl)
order-reached (c ∷ cs) = then Exchanged (c ∷ cs) (c ∷ ordered cs) (inserted c (ordered cs)) (many-behind Exchanged exchanged-behind c cs (ordered cs) (order-reached cs)) (insert-reached c (ordered cs))

exchanges-same : (k : ℕ) (x y : List ℕ) → Times Exchanged k x y → ordered x ≡ ordered y
exchanges-same zero x y e = ap ordered e
exchanges-same (suc k) x y (z, (front, back, a, b, h, p, q), t) = ap ordered p ∙ exchanged front a b back h ∙ ap ordered (sym q) ∙ exchanges-same k z y t

-- whichever pairs were exchanged first, what has no reorderable pair left is the same
pub order-only : (x y : List ℕ) → Many Exchanged x y → InOrder y → y ≡ ordered x
order-only x y (k, t) o = sym (order-kept y o) ∙ sym (exchanges-same k x y t)

-- ---- both

pub nfd-decomposes : (x : List ℕ) → covers_all x ≡ true → Decomposition x (nfd x)
nfd-decomposes x h = (apart x, apart-reached x, (apart-whole x h).1, order-reached (apart x), order-made (apart x))

pub decomposition-nfd : (x d : List ℕ) → covers_all x ≡ true → Decomposition x d → d ≡ nfd x
decomposition-nfd x d h (y, m, a, e, o) = order-only y d e o ∙ ap ordered (apart-only x y h m a)

-- covered texts are canonically equivalent exactly if they have one normal form
pub equivalent-same : (x y : List ℕ) → covers_all x ≡ true → covers_all y ≡ true → Equivalent x y → nfd x ≡ nfd y
equivalent-same x y h g (d, p, q) = sym (decomposition-nfd x d h p) ∙ decomposition-nfd y d g q

pub same-equivalent : (x y : List ℕ) → covers_all x ≡ true → covers_all y ≡ true → nfd x ≡ nfd y → Equivalent x y
same-equivalent x y h g e = (nfd x, nfd-decomposes x h, subst (Decomposition y) (sym e) (nfd-decomposes y g))
