-- A form has no more characters than its bytes are; so there is room for it where there is room for them. Assumes nothing.
use mathlib.Core.Path.{◌≡◌, refl, sym, ap, ◌∙◌}
use mathlib.Core.Logic.{◌⊎◌, inl, inr}
use mathlib.Core.Bool.{true, false}
use mathlib.Core.List.{List, [], ◌∷◌}
use mathlib.Core.Option.{Option, none, some}
use Prim.Native.Nat.{ℕ, ◌*◌, ◌≤◌}
use native.Mathlib.Omega.{arith}
use lib.Dec.{leb, ltb, eqb}
use lib.ListN.{length, length-append}
use borrow.Author.Tests.{ltb-true, ltb-false, lt-ltb, le-ltb, le-leb, leb-true, leb-false}
use Rattle.sets.specs.Lists.{same_list}
use Rattle.sets.proofs.Ranges.{test-cases, both_true}
use Rattle.sets.proofs.Lists.{list_same}
use Rattle.unicode_forms.specs.Utf8.{encoded, utf8, covers, covers_all}
use Rattle.unicode_forms.specs.Canonical.{entry_of, second_of, parts_in, parts}
use Rattle.unicode_forms.specs.Forms.{text_of, apart, nfd, form_of, form, same_form}
use Rattle.unicode_forms.specs.Meaning.{short}
use Rattle.unicode_forms.proofs.OrderLaws.{ordered-length}
use Rattle.unicode_forms.proofs.Utf8Laws.{covered-low, utf8-of-text}

pair-most : (e : ℕ) → length (parts_in e) ≤ 2
pair-most e = go (test-cases (eqb (second_of e) 0))
  where
    go : (eqb (second_of e) 0 ≡ true) ⊎ (eqb (second_of e) 0 ≡ false) → length (parts_in e) ≤ 2
    go (inl t) = rw t (omega arith)
    go (inr t) = rw t (omega arith)

bytes-least : (c : ℕ) → 0x80 ≤ c → 2 ≤ length (encoded c)
bytes-least c h = go (test-cases (ltb c 0x800)) (test-cases (ltb c 0x10000))
  where
    go : (ltb c 0x800 ≡ true) ⊎ (ltb c 0x800 ≡ false) → (ltb c 0x10000 ≡ true) ⊎ (ltb c 0x10000 ≡ false) → 2 ≤ length (encoded c)
    go (inl t) u = rw (le-ltb c 0x80 h, t) (omega arith)
    go (inr t) (inl u) = rw (le-ltb c 0x80 h, t, u) (omega arith)
    go (inr t) (inr u) = rw (le-ltb c 0x80 h, t, u) (omega arith)

one-part : (c : ℕ) → length (parts c) ≤ length (encoded c)
one-part c = go (test-cases (ltb c 0x80)) (test-cases (ltb c 0xc0))
  where
    go : (ltb c 0x80 ≡ true) ⊎ (ltb c 0x80 ≡ false) → (ltb c 0xc0 ≡ true) ⊎ (ltb c 0xc0 ≡ false) → length (parts c) ≤ length (encoded c)
    go (inl t) u = rw (t, lt-ltb c 0xc0 (omega (arith, ltb-true c 0x80 t))) (omega arith)
    go (inr t) (inl u) = let one : length (parts c) ≡ 1 = rw u refl in omega (arith, one, bytes-least c (ltb-false c 0x80 t))
    go (inr t) (inr u) = let two : length (parts c) ≤ 2 = rw u (pair-most (entry_of c)) in omega (arith, two, bytes-least c (ltb-false c 0x80 t))

parts-most : (cs : List ℕ) → length (apart cs) ≤ length (utf8 cs)
unfolding apart utf8
parts-most [] = omega arith
parts-most (c ∷ cs) = omega (arith, parts-most cs, one-part c, length-append (parts c) (apart cs), length-append (encoded c) (utf8 cs))

-- and no fewer than half as many: a covered character has at most two bytes, and gives way to one character at least
bytes_most : (c : ℕ) → covers c ≡ true → length (encoded c) ≤ 2
bytes_most c h = go (test-cases (ltb c 0x80))
  where
    go : (ltb c 0x80 ≡ true) ⊎ (ltb c 0x80 ≡ false) → length (encoded c) ≤ 2
    go (inl t) = rw t (omega arith)
    go (inr t) = rw (t, lt-ltb c 0x800 (omega (arith, covered-low c h))) (omega arith)

one-least : (c : ℕ) → 1 ≤ length (parts c)
one-least c = go (test-cases (ltb c 0xc0))
  where
    go : (ltb c 0xc0 ≡ true) ⊎ (ltb c 0xc0 ≡ false) → 1 ≤ length (parts c)
    go (inl t) = rw t (omega arith)
    go (inr t) = rw t (omega arith)

parts-least : (cs : List ℕ) → covers_all cs ≡ true → length (utf8 cs) ≤ 2 * length (apart cs)
unfolding apart utf8 covers_all
parts-least [] h = omega arith
parts-least (c ∷ cs) h =
    let (p, q) = both_true (covers c) (covers_all cs) h in
    omega (arith, parts-least cs q, bytes_most c p, one-least c, length-append (parts c) (apart cs), length-append (encoded c) (utf8 cs))

-- so of two texts with one form neither has more than twice the bytes of the other
pub bytes-twice : (x y : List ℕ) → covers_all y ≡ true → nfd x ≡ nfd y → length (utf8 y) ≤ 2 * length (utf8 x)
bytes-twice x y h e = omega (arith, parts-most x, parts-least y h, ordered-length (apart x), ordered-length (apart y), ap length e)

-- the form of bytes that there is room for has room
pub short-all : (room : ℕ) (s : List ℕ) → length s ≤ room → short room (form s) ≡ form s
short-all room s h = go (text_of s) refl
  where
    go : (t : Option (List ℕ)) → text_of s ≡ t → short room (form_of t) ≡ form_of t
    go none e = refl
    go (some cs) e = rw (le-leb (length (nfd cs)) room (omega (arith, ordered-length (apart cs), parts-most cs, ap length (utf8-of-text s cs e).0, h))) refl

-- and one that has no room is the same as none that has
short-other : (room : ℕ) (x y : Option (List ℕ)) → short room x ≡ x → same_form x (short room y) ≡ same_form x y
short-other room none y e = refl
short-other room (some x) none e = refl
short-other room (some x) (some y) e = go (test-cases (leb (length y) room)) (test-cases (same_list x y)) (test-cases (leb (length x) room))
  where
    go : (leb (length y) room ≡ true) ⊎ (leb (length y) room ≡ false) → (same_list x y ≡ true) ⊎ (same_list x y ≡ false) → (leb (length x) room ≡ true) ⊎ (leb (length x) room ≡ false) → same_form (some x) (short room (some y)) ≡ same_list x y
    go (inl t) v w = rw t refl
    go (inr t) (inr v) w = rw t (sym v)
    go (inr t) (inl v) (inl w) = absurd (omega (arith, leb-true (length x) room w, leb-false (length y) room t, ap length (list_same x y v)))
    go (inr t) (inl v) (inr w) = let n : ◌≡◌ {A = Option (List ℕ)} none (some x) = rw w at e in let z : ◌≡◌ {A = ℕ} 0 1 = cc in absurd (omega arith)

pub short-same : (room : ℕ) (a b : List ℕ) → length a ≤ room → same_form (short room (form a)) (short room (form b)) ≡ same_form (form a) (form b)
short-same room a b h = ap (λ (x : Option (List ℕ)). same_form x (short room (form b))) (short-all room a h) ∙ short-other room (form a) (form b) (short-all room a h)
