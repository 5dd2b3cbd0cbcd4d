-- The text of a name is the one whose bytes it is. Assumes nothing.
use mathlib.Core.Path.{◌≡◌, refl, sym, ap, ap₂, subst, ◌∙◌}
use mathlib.Core.Logic.{◌⊎◌, inl, inr}
use mathlib.Core.Bool.{true, false, ◌&&◌, true≢false}
use mathlib.Core.List.{List, [], ◌∷◌, ◌++◌}
use mathlib.Core.Option.{Option, none, some}
use Prim.Native.Nat.{ℕ, suc, ◌+◌, ◌-◌, ◌/◌, ◌%◌, ◌<◌, ◌≤◌}
use native.Mathlib.Omega.{arith}
use lib.Dec.{ltb, leb}
use lib.ListN.{length, get_or, drop, length-drop, drop_of_length-le}
use lib.Seq.{drop-cons}
use borrow.Author.Tests.{ltb-true, lt-ltb, le-ltb, le-leb, ltb-false, leb-true}
use Rattle.std.specs.Prelude as code
use Rattle.std.specs.Prelude.{Some, None}
use Rattle.std.specs.Option.{is_some}
use Rattle.sets.proofs.Ranges.{test-cases, both_true}
use Rattle.unicode_forms.specs.Utf8.{encoded, utf8, covers, covers_all}
use Rattle.unicode_forms.specs.Forms.{joined, is_pair, before, text_of}
use Rattle.unicode_forms.specs.declared.utf8.Char.{Char}
use Rattle.unicode_forms.specs.Meaning.{Starts, Read}

-- a covered character is below U+0370
pub covered-low : (c : ℕ) → covers c ≡ true → c < 0x370
covered-low c h = go (test-cases (ltb c 0x180))
  where
    go : (ltb c 0x180 ≡ true) ⊎ (ltb c 0x180 ≡ false) → c < 0x370
    go (inl t) = omega (arith, ltb-true c 0x180 t)
    go (inr t) = ltb-true c 0x370 (both_true (leb 0x300 c) (ltb c 0x370) (rw t at h)).1

-- two bytes of a covered character
pub pair-from : (a b : ℕ) → is_pair a b ≡ true → (0xc2 ≤ a) × (0x80 ≤ b) × (b < 0xc0) × (covers (joined a b) ≡ true)
pair-from a b e =
    let (p, q) = both_true (leb 0xc2 a) (leb 0x80 b && (ltb b 0xc0 && covers (joined a b))) e in
    let (r, s) = both_true (leb 0x80 b) (ltb b 0xc0 && covers (joined a b)) q in
    let (t, u) = both_true (ltb b 0xc0) (covers (joined a b)) s in
    (leb-true 0xc2 a p, leb-true 0x80 b r, ltb-true b 0xc0 t, u)

two_bytes : (c : ℕ) → 0x80 ≤ c → c < 0x800 → encoded c ≡ (0xc0 + c / 64) ∷ (0x80 + c % 64) ∷ []
two_bytes c l h = simp (le-ltb c 0x80 l, lt-ltb c 0x800 h)

one_byte : (c : ℕ) → c < 0x80 → encoded c ≡ c ∷ []
one_byte c h = simp (lt-ltb c 0x80 h)

pair-bytes : (a b : ℕ) → is_pair a b ≡ true → encoded (joined a b) ≡ a ∷ b ∷ []
pair-bytes a b e =
    let (p, q, r, h) = pair-from a b e in
    let low : joined a b < 0x370 = covered-low (joined a b) h in
    let x : 0xc0 + joined a b / 64 ≡ a = omega arith in
    let y : 0x80 + joined a b % 64 ≡ b = omega arith in
    two_bytes (joined a b) (omega arith) (omega arith) ∙ ap₂ (λ (u v : ℕ). u ∷ v ∷ []) x y

-- a text's bytes have that text
pub text-of-utf8 : (cs : List ℕ) → covers_all cs ≡ true → text_of (utf8 cs) ≡ some cs
unfolding utf8 covers_all text_of
text-of-utf8 [] h = refl
text-of-utf8 (c ∷ cs) h =
    let (p, q) = both_true (covers c) (covers_all cs) h in
    go c cs p (text-of-utf8 cs q) (test-cases (ltb c 0x80))
  where
    single : (c : ℕ) (s : List ℕ) (cs : List ℕ) → ltb c 0x80 ≡ true → text_of s ≡ some cs → text_of (c ∷ s) ≡ some (c ∷ cs)
    single c [] cs t e = rw t (ap (before c) e)
    single c (b ∷ s) cs t e = rw t (ap (before c) e)

    go : (c : ℕ) (cs : List ℕ) → covers c ≡ true → text_of (utf8 cs) ≡ some cs → (ltb c 0x80 ≡ true) ⊎ (ltb c 0x80 ≡ false) → text_of (encoded c ++ utf8 cs) ≡ some (c ∷ cs)
    go c cs p e (inl t) = ap (λ (l : List ℕ). text_of (l ++ utf8 cs)) (one_byte c (ltb-true c 0x80 t)) ∙ single c (utf8 cs) cs t e
    go c cs p e (inr t) =
        let low : c < 0x370 = covered-low c p in
        let high : 0x80 ≤ c = ltb-false c 0x80 t in
        let a : ℕ = 0xc0 + c / 64 in
        let b : ℕ = 0x80 + c % 64 in
        let j : joined (0xc0 + c / 64) (0x80 + c % 64) ≡ c = omega arith in
        ap (λ (l : List ℕ). text_of (l ++ utf8 cs)) (two_bytes c high (omega arith))
        ∙ simp (le-ltb (0xc0 + c / 64) 0x80 (omega arith), le-leb 0xc2 (0xc0 + c / 64) (omega arith), le-leb 0x80 (0x80 + c % 64) (omega arith), lt-ltb (0x80 + c % 64) 0xc0 (omega arith), j, p, e)

-- what stands behind the first character
pub before-some : (c : ℕ) (o : Option (List ℕ)) (cs : List ℕ) → before c o ≡ some cs → (ds : List ℕ) × (o ≡ some ds) × (c ∷ ds ≡ cs)
before-some c none cs e = let z : ◌≡◌ {A = ℕ} 0 1 = cc in absurd (omega arith)
before-some c (some ds) cs e = (ds, refl, cc)

Written : List ℕ → List ℕ → Type 0
Written s cs = (s ≡ utf8 cs) × (covers_all cs ≡ true)

written_none : Written [] []
unfolding Written utf8 covers_all
written_none = (refl, refl)

-- one character in front
written-single : (a : ℕ) (s cs : List ℕ) → a < 0x80 → Written s cs → Written (a ∷ s) (a ∷ cs)
unfolding Written utf8 covers_all
written-single a s cs h (e, c) =
    (ap (λ (l : List ℕ). a ∷ l) e ∙ ap (λ (l : List ℕ). l ++ utf8 cs) (sym (one_byte a h)), rw (lt-ltb a 0x180 (omega arith)) c)

written-pair : (a b : ℕ) (s cs : List ℕ) → is_pair a b ≡ true → Written s cs → Written (a ∷ b ∷ s) (joined a b ∷ cs)
unfolding Written utf8 covers_all
written-pair a b s cs h (e, c) =
    let (p, q, r, m) = pair-from a b h in
    (ap (λ (l : List ℕ). a ∷ b ∷ l) e ∙ ap (λ (l : List ℕ). l ++ utf8 cs) (sym (pair-bytes a b h)), rw m c)

-- and a name that has a text is its bytes
written : (s cs : List ℕ) → text_of s ≡ some cs → Written s cs
unfolding text_of
written [] cs e = let z : [] ≡ cs = cc in rw (← z) written_none
written (a ∷ []) cs e = go (test-cases (ltb a 0x80)) e
  where
    go : (ltb a 0x80 ≡ true) ⊎ (ltb a 0x80 ≡ false) → text_of (a ∷ []) ≡ some cs → Written (a ∷ []) cs
    go (inl t) e = let n : some (a ∷ []) ≡ some cs = rw t at e in let z : a ∷ [] ≡ cs = cc in rw (← z) (written-single a [] [] (ltb-true a 0x80 t) written_none)
    go (inr t) e = let n : ◌≡◌ {A = Option (List ℕ)} none (some cs) = rw t at e in let z : ◌≡◌ {A = ℕ} 0 1 = cc in absurd (omega arith)
written (a ∷ b ∷ s) cs e = go (λ ds. written (b ∷ s) ds) (λ ds. written s ds) (test-cases (ltb a 0x80)) (test-cases (is_pair a b)) e
  where
    go : ((ds : List ℕ) → text_of (b ∷ s) ≡ some ds → Written (b ∷ s) ds) → ((ds : List ℕ) → text_of s ≡ some ds → Written s ds)
        → (ltb a 0x80 ≡ true) ⊎ (ltb a 0x80 ≡ false) → (is_pair a b ≡ true) ⊎ (is_pair a b ≡ false) → text_of (a ∷ b ∷ s) ≡ some cs → Written (a ∷ b ∷ s) cs
    go one two (inl t) y e =
        let (ds, p, q) = before-some a (text_of (b ∷ s)) cs (rw t at e) in
        rw (← q) (written-single a (b ∷ s) ds (ltb-true a 0x80 t) (one ds p))
    go one two (inr t) (inl y) e =
        let (ds, p, q) = before-some (joined a b) (text_of s) cs (rw (t, y) at e) in
        rw (← q) (written-pair a b s ds y (two ds p))
    go one two (inr t) (inr y) e = let n : ◌≡◌ {A = Option (List ℕ)} none (some cs) = rw (t, y) at e in let z : ◌≡◌ {A = ℕ} 0 1 = cc in absurd (omega arith)

pub utf8-of-text : (s cs : List ℕ) → text_of s ≡ some cs → (s ≡ utf8 cs) × (covers_all cs ≡ true)
unfolding Written
utf8-of-text s cs e = written s cs e

pub covered-high : (c : ℕ) → covers c ≡ true → 0x180 ≤ c → 0x300 ≤ c
covered-high c h l = leb-true 0x300 c (both_true (leb 0x300 c) (ltb c 0x370) (rw (le-ltb c 0x180 l) at h)).0

-- ---- the first character of bytes, as the code reads it

text-one : (a : ℕ) (s : List ℕ) → a < 0x80 → text_of (a ∷ s) ≡ before a (text_of s)
unfolding text_of
text-one a [] h = simp (lt-ltb a 0x80 h)
text-one a (b ∷ s) h = simp (lt-ltb a 0x80 h)

text-pair : (a b : ℕ) (s : List ℕ) → 0x80 ≤ a → is_pair a b ≡ true → text_of (a ∷ b ∷ s) ≡ before (joined a b) (text_of s)
unfolding text_of
text-pair a b s h e = simp (le-ltb a 0x80 h, e)

module _ (s : List ℕ) (at a : ℕ) (inside : at < length s) (is : a ≡ get_or s at 0) where
  front : drop at s ≡ a ∷ drop (suc at) s
  front = drop-cons s at 0 inside ∙ ap (λ (x : ℕ). x ∷ drop (suc at) s) (sym is)

  pub read_one : a < 0x80 → Starts a 1 (drop at s)
  read_one h = record {
    char = simp (lt-ltb a 0x180 (let q : a < 0x180 = omega arith in q));
    some_bytes = omega arith;
    inside = omega (arith, length-drop at s);
    is_text = subst (λ (l : List ℕ). text_of l ≡ before a (text_of (drop 1 l))) (sym front) (text-one a (drop (suc at) s) h);
  }

  pub read-cut : 0x80 ≤ a → length s - at < 2 → text_of (drop at s) ≡ none
  unfolding text_of
  read-cut h l = ap text_of (front ∙ ap (λ (x : List ℕ). a ∷ x) (drop_of_length-le s {i = suc at} (omega arith))) ∙ simp (le-ltb a 0x80 h)

  module _ (b : ℕ) (room : 2 ≤ length s - at) (next : b ≡ get_or s (at + 1) 0) (high : 0x80 ≤ a) where
    both : drop at s ≡ a ∷ b ∷ drop (suc (suc at)) s
    both = front ∙ ap (λ (x : List ℕ). a ∷ x) (drop-cons s (suc at) 0 (omega arith) ∙ ap (λ (x : ℕ). x ∷ drop (suc (suc at)) s) (sym (next ∙ ap (λ (i : ℕ). get_or s i 0) (let q : at + 1 ≡ suc at = omega arith in q))))

    pub read-bad : is_pair a b ≡ false → text_of (drop at s) ≡ none
    unfolding text_of
    read-bad e = ap text_of both ∙ simp (le-ltb a 0x80 high, e)

    pub read-two : is_pair a b ≡ true → Starts (joined a b) 2 (drop at s)
    read-two e = record {
      char = let (p, q, r, m) = pair-from a b e in m;
      some_bytes = omega arith;
      inside = omega (arith, length-drop at s);
      is_text = subst (λ (l : List ℕ). text_of l ≡ before (joined a b) (text_of (drop 2 l))) (sym both) (text-pair a b (drop (suc (suc at)) s) high e);
    }

-- a character that was read, and none
pub read_none : (r : code.Option Char) (s : List ℕ) → false ≡ is_some r → Read r s → text_of s ≡ none
read_none (Some c) s e r = absurd (true≢false (sym e))
read_none None s e r = r

pub read_some : (r : code.Option Char) (s : List ℕ) {c : Char} → r ≡ Some c → Read r s → (covers c.code ≡ true) × (c.size ≤ length s) × (text_of s ≡ before c.code (text_of (drop c.size s)))
read_some r s e p = let q = subst (λ (o : code.Option Char). Read o s) e p in (q.char, q.inside, q.is_text)
