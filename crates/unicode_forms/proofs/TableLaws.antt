-- The rule over the table: no entry's decomposition can be taken apart further. One test, computed over all covered characters. Assumes nothing.
use mathlib.Core.Path.{◌≡◌, refl, ap, sym, ◌∙◌}
use mathlib.Core.Bool.{Bool, true, ◌&&◌, ◌||◌, not}
use mathlib.Core.List.{List, [], ◌∷◌, ◌++◌, append_assoc}
use Prim.Native.Nat.{ℕ}
use Rattle.sets.specs.Ranges.{every_to}
use Rattle.sets.specs.Lists.{same_list}
use Rattle.sets.proofs.Ranges.{both_true, true-where, every-at}
use Rattle.sets.proofs.Lists.{list_same}
use Rattle.unicode_forms.specs.Table.{table}
use Rattle.unicode_forms.specs.Utf8.{covers, covers_all}
use Rattle.unicode_forms.specs.Canonical.{parts, Apart}
use Rattle.unicode_forms.specs.Forms.{apart}
use Rattle.unicode_forms.proofs.Utf8Laws.{covered-low}

-- ---- texts of which nothing can be taken apart

-- as a test
unfoldable whole : List ℕ → Bool
whole [] = true
whole (c ∷ cs) = same_list (parts c) (c ∷ []) && whole cs

whole_apart : (l : List ℕ) → whole l ≡ true → Apart l
unfolding whole
whole_apart [] h = tt
whole_apart (c ∷ cs) h = let (p, q) = both_true (same_list (parts c) (c ∷ [])) (whole cs) h in (list_same (parts c) (c ∷ []) p, whole_apart cs q)

pub apart-append : (x y : List ℕ) → apart (x ++ y) ≡ apart x ++ apart y
unfolding apart
apart-append [] y = refl
apart-append (c ∷ x) y = ap (λ (l : List ℕ). parts c ++ l) (apart-append x y) ∙ sym (append_assoc (parts c) (apart x) (apart y))

-- such a text stays as it is
pub apart-same : (l : List ℕ) → Apart l → apart l ≡ l
unfolding apart
apart-same [] a = refl
apart-same (c ∷ cs) (h, a) = rw (h, apart-same cs a) refl

pub both-apart : (x y : List ℕ) → Apart x → Apart y → Apart (x ++ y)
both-apart [] y a b = b
both-apart (c ∷ x) y (h, a) b = (h, both-apart x y a b)

-- ---- the rule

-- the mapping of a covered character has covered characters only, and none of them can be taken apart further
settles : ℕ → Bool
settles c = not (covers c) || (covers_all (parts c) && whole (parts c))

rule : every_to 0x370 settles ≡ true
unfolding every_to settles table whole covers_all same_list
rule = refl

pub fixed : (c : ℕ) → covers c ≡ true → (covers_all (parts c) ≡ true) × Apart (parts c)
unfolding settles
fixed c h =
    let (p, q) = both_true (covers_all (parts c)) (whole (parts c)) (true-where (covers c) (covers_all (parts c) && whole (parts c)) h (every-at 0x370 settles rule c (covered-low c h))) in
    (p, whole_apart (parts c) q)
