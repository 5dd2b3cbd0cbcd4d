-- The test of two names says what the rule says; and equality of names is an equivalence, of all byte strings. Assumes nothing.
use mathlib.Core.Path.{◌≡◌, refl, sym, ap, ◌∙◌}
use mathlib.Core.Logic.{◌⊎◌, inl, inr}
use mathlib.Core.Bool.{true, false, false≢true}
use mathlib.Core.List.{List}
use mathlib.Core.Option.{Option, none, some}
use Prim.Native.Nat.{ℕ, ◌*◌, ◌≤◌}
use native.Mathlib.Omega.{arith}
use lib.ListN.{length}
use Rattle.sets.specs.Lists.{same_list}
use Rattle.sets.proofs.Ranges.{either_true, left-true, right-true, same_true}
use Rattle.sets.proofs.Lists.{same-list, list_same, agree}
use Rattle.unicode_forms.specs.Forms.{text_of, nfd, form_of, form, same_form}
use Rattle.unicode_forms.specs.Meaning.{short}
use Rattle.unicode_forms.proofs.Utf8Laws.{text-of-utf8, utf8-of-text}
use Rattle.unicode_forms.proofs.EquivalenceLaws.{equivalent-same, same-equivalent}
use Rattle.unicode_forms.proofs.LengthLaws.{bytes-twice, short-same}
use Rattle.names.specs.Names.{SameText, Equal, same_name}

-- ---- forms

-- two that are the same are one
form-from : (x y : Option (List ℕ)) → same_form x y ≡ true → (f : List ℕ) × (x ≡ some f) × (y ≡ some f)
form-from none y e = absurd (false≢true e)
form-from (some x) none e = absurd (false≢true e)
form-from (some x) (some y) e = (x, refl, ap some (sym (list_same x y e)))

same-form : (x y : Option (List ℕ)) (f : List ℕ) → x ≡ some f → y ≡ some f → same_form x y ≡ true
same-form x y f p q = rw (p, q) (same-list f)

formed : (o : Option (List ℕ)) (f : List ℕ) → form_of o ≡ some f → (cs : List ℕ) × (o ≡ some cs) × (nfd cs ≡ f)
formed none f e = let z : ◌≡◌ {A = ℕ} 0 1 = cc in absurd (omega arith)
formed (some cs) f e = (cs, refl, cc)

-- ---- the test and the rule

pub form-text : (a b : List ℕ) → same_form (form a) (form b) ≡ true → SameText a b
form-text a b t =
    let (f, p, q) = form-from (form a) (form b) t in
    let (x, u, v) = formed (text_of a) f p in
    let (y, m, n) = formed (text_of b) f q in
    let (xa, xc) = utf8-of-text a x u in
    let (ya, yc) = utf8-of-text b y m in
    (x, y, xa, ya, xc, yc, same-equivalent x y xc yc (v ∙ sym n))

pub text-form : (a b : List ℕ) → SameText a b → same_form (form a) (form b) ≡ true
text-form a b (x, y, xa, ya, xc, yc, e) =
    same-form (form a) (form b) (nfd x) (ap form_of (ap text_of xa ∙ text-of-utf8 x xc)) (ap form_of (ap text_of ya ∙ text-of-utf8 y yc) ∙ ap some (sym (equivalent-same x y xc yc e)))

pub same-equal : (a b : List ℕ) → same_name a b ≡ true → Equal a b
unfolding same_name
same-equal a b e = go (either_true (same_list a b) (same_form (form a) (form b)) e)
  where
    go : (same_list a b ≡ true) ⊎ (same_form (form a) (form b) ≡ true) → Equal a b
    go (inl t) = inl (list_same a b t)
    go (inr t) = inr (form-text a b t)

pub equal-same : (a b : List ℕ) → Equal a b → same_name a b ≡ true
unfolding same_name
equal-same a b (inl e) = left-true (same_list a b) (same_form (form a) (form b)) (sym (agree a b e))
equal-same a b (inr t) = right-true (same_list a b) (same_form (form a) (form b)) (text-form a b t)

-- ---- an equivalence, of all byte strings

pub name-reflexive : (a : List ℕ) → Equal a a
name-reflexive a = inl refl

pub name-symmetric : (a b : List ℕ) → Equal a b → Equal b a
name-symmetric a b (inl e) = inl (sym e)
name-symmetric a b (inr (x, y, xa, ya, xc, yc, (d, p, q))) = inr (y, x, ya, xa, yc, xc, (d, q, p))

pub name-transitive : (a b c : List ℕ) → Equal a b → Equal b c → Equal a c
name-transitive a b c (inl e) q = rw e q
name-transitive a b c (inr t) (inl e) = rw (← e) (inr t)
name-transitive a b c (inr t) (inr u) =
    let (f, m, n) = form-from (form a) (form b) (text-form a b t) in
    let (g, k, l) = form-from (form b) (form c) (text-form b c u) in
    inr (form-text a c (same-form (form a) (form c) f m (l ∙ sym k ∙ n)))

-- so two equal names are equal to the same names
pub same-for : (a b c : List ℕ) → Equal b c → same_name a b ≡ same_name a c
same-for a b c e =
    same_true (same_name a b) (same_name a c)
    (λ t. equal-same a c (name-transitive a b c (same-equal a b t) e))
    (λ t. equal-same a b (name-transitive a c b (same-equal a c t) (name-symmetric b c e)))

-- ---- lengths

-- neither of two equal names has more than twice the bytes of the other
pub equal-twice : (a b : List ℕ) → Equal a b → length b ≤ 2 * length a
equal-twice a b (inl e) = omega (arith, ap length e)
equal-twice a b (inr (x, y, xa, ya, xc, yc, e)) = omega (arith, ap length xa, ap length ya, bytes-twice x y yc (equivalent-same x y xc yc e))

-- ---- as the code compares, where there is room for the form of the one

pub bytes_same : (a b : List ℕ) → same_list a b ≡ true → true ≡ same_name a b
unfolding same_name
bytes_same a b e = sym (rw e refl)

pub forms-same : (room : ℕ) (a b : List ℕ) → length a ≤ room → same_list a b ≡ false → same_form (short room (form a)) (short room (form b)) ≡ same_name a b
unfolding same_name
forms-same room a b h e = short-same room a b h ∙ sym (rw e refl)

no-form : (x y : Option (List ℕ)) → y ≡ none → false ≡ same_form x y
no-form none y e = refl
no-form (some x) y e = sym (rw e refl)

-- the other has no form, or there is no room for it
pub forms-differ : (room : ℕ) (a b : List ℕ) → length a ≤ room → same_list a b ≡ false → short room (form b) ≡ none → false ≡ same_name a b
forms-differ room a b h e z = no-form (short room (form a)) (short room (form b)) z ∙ forms-same room a b h e
