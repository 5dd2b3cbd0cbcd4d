-- A form is made character by character. Assumes nothing.
use mathlib.Core.Path.{◌≡◌, refl, sym, ap, subst, ◌∙◌}
use mathlib.Core.Logic.{◌⊎◌, inl, inr}
use mathlib.Core.Bool.{true, false, cond, ◌&&◌, true≢false}
use mathlib.Core.List.{List, [], ◌∷◌, ◌++◌, append_assoc, append-nil}
use mathlib.Core.Option.{Option, none, some}
use Prim.Native.Nat.{ℕ, ◌+◌, ◌<◌, ◌≤◌}
use native.Mathlib.Omega.{arith}
use lib.Dec.{ltb, eqb}
use lib.ListN.{length, get_or, take, drop, length-append}
use lib.Seq.{length-take-le, drop-drop, get_or-take}
use borrow.Author.Tests.{ltb-true, ltb-false, lt-ltb, le-ltb, le-leb, lt-leb, eq-eqb, ne_eqb}
use Rattle.std.specs.Prelude as code
use Rattle.std.specs.Prelude.{Some, None}
use Rattle.std.specs.Option.{is_some}
use Rattle.unicode_forms.specs.declared.form.Form.{Form}
use Rattle.sets.proofs.Ranges.{test-cases, both_true}
use Rattle.sets.proofs.Lists.{all_same, one-differs, lengths_differ}
use Rattle.unicode_forms.specs.Utf8.{covers, covers_all}
use Rattle.unicode_forms.specs.Canonical.{entry_of, first_of, second_of, parts_in, parts, reorderable}
use Rattle.unicode_forms.specs.Forms.{before, text_of, apart, inserted, ordered, form_of, Sound, same_form}
use Rattle.unicode_forms.specs.Meaning.{told, short, more, more_all, Starts}
use Rattle.unicode_forms.proofs.OrderLaws.{ordered-again, ordered-length}
use Rattle.unicode_forms.proofs.TableLaws.{fixed}
use Rattle.unicode_forms.proofs.EquivalenceLaws.{covers-append}

-- ---- order keeps what is covered

covers-inserted : (c : ℕ) (l : List ℕ) → covers c ≡ true → covers_all l ≡ true → covers_all (inserted c l) ≡ true
unfolding covers_all inserted
covers-inserted c [] h a = rw h refl
covers-inserted c (d ∷ ds) h a =
    let (p, q) = both_true (covers d) (covers_all ds) a in
    go (covers-inserted c ds h q) p q (test-cases (reorderable c d))
  where
    go : covers_all (inserted c ds) ≡ true → covers d ≡ true → covers_all ds ≡ true → (reorderable c d ≡ true) ⊎ (reorderable c d ≡ false) → covers_all (inserted c (d ∷ ds)) ≡ true
    go ih p q (inl t) = rw (t, p) ih
    go ih p q (inr t) = rw (t, h, p) q

pub covers-ordered : (l : List ℕ) → covers_all l ≡ true → covers_all (ordered l) ≡ true
unfolding covers_all ordered
covers-ordered [] a = refl
covers-ordered (c ∷ cs) a =
    let (p, q) = both_true (covers c) (covers_all cs) a in
    covers-inserted c (ordered cs) p (covers-ordered cs q)

-- ---- several characters more, where there is room for so many

module _ (room : ℕ) where
  pub more-none : (l : List ℕ) → more_all room none l ≡ none
  unfolding more_all
  more-none [] = refl
  more-none (c ∷ l) = more-none l

  pub more-append : (o : Option (List ℕ)) (a b : List ℕ) → more_all room o (a ++ b) ≡ more_all room (more_all room o a) b
  unfolding more_all
  more-append o [] b = refl
  more-append o (c ∷ a) b = more-append (more room o c) a b

  -- where one character has no room, no text that begins with it has
  pub more-lost : (o : Option (List ℕ)) (c : ℕ) (l : List ℕ) → none ≡ more room o c → none ≡ more_all room o (c ∷ l)
  unfolding more_all
  more-lost o c l e = sym (more-none l) ∙ ap (λ (p : Option (List ℕ)). more_all room p l) e

  -- the form of all characters, if it has room
  pub more-short : (xs ys : List ℕ) → length xs ≤ room → more_all room (some (ordered xs)) ys ≡ short room (some (ordered (xs ++ ys)))
  unfolding more_all
  more-short xs [] h =
      ap (λ (l : List ℕ). some (ordered l)) (sym (append-nil xs))
      ∙ sym (rw (le-leb (length (ordered (xs ++ []))) room (omega (arith, ordered-length (xs ++ []), ap length (append-nil xs)))) refl)
  more-short xs (y ∷ ys) h = go (λ l. more-short (xs ++ (y ∷ [])) ys l) (test-cases (ltb (length (ordered xs)) room))
    where
      go : (length (xs ++ (y ∷ [])) ≤ room → more_all room (some (ordered (xs ++ (y ∷ [])))) ys ≡ short room (some (ordered ((xs ++ (y ∷ [])) ++ ys))))
          → (ltb (length (ordered xs)) room ≡ true) ⊎ (ltb (length (ordered xs)) room ≡ false) → more_all room (more room (some (ordered xs)) y) ys ≡ short room (some (ordered (xs ++ (y ∷ ys))))
      go ih (inl t) =
          rw t
          (ap (λ (l : List ℕ). more_all room (some l) ys) (ordered-again xs (y ∷ []))
          ∙ ih (omega (arith, ltb-true (length (ordered xs)) room t, ordered-length xs, length-append xs (y ∷ [])))
          ∙ ap (λ (l : List ℕ). short room (some (ordered l))) (append_assoc xs (y ∷ []) ys))
      go ih (inr t) =
          rw t
          (more-none ys
          ∙ sym (rw (lt-leb (length (ordered (xs ++ (y ∷ ys)))) room (omega (arith, ltb-false (length (ordered xs)) room t, ordered-length xs, ordered-length (xs ++ (y ∷ ys)), length-append xs (y ∷ ys)))) refl))

  -- ---- what is left of a text

  unfoldable pub rest : Option (List ℕ) → Option (List ℕ) → Option (List ℕ)
  rest o none = none
  rest o (some cs) = more_all room o (apart cs)

  pub rest-start : (t : Option (List ℕ)) → rest (some []) t ≡ short room (form_of t)
  unfolding rest ordered
  rest-start none = refl
  rest-start (some cs) = more-short [] (apart cs) (omega arith)

  pub rest-next : (o : Option (List ℕ)) (c : ℕ) (t : Option (List ℕ)) → rest o (before c t) ≡ rest (more_all room o (parts c)) t
  unfolding rest apart
  rest-next o c none = refl
  rest-next o c (some cs) = more-append o (parts c) (apart cs)

  -- the first character of what is left of bytes
  pub rest-step : (o : Option (List ℕ)) (c size at : ℕ) (b : List ℕ) → Starts c size (drop at b) → rest o (text_of (drop at b)) ≡ rest (more_all room o (parts c)) (text_of (drop (at + size) b))
  rest-step o c size at b s =
      ap (rest o) s.is_text ∙ rest-next o c (text_of (drop size (drop at b))) ∙ ap (λ (l : List ℕ). rest (more_all room o (parts c)) (text_of l)) (drop-drop size at b)

  pub rest_end : (o : Option (List ℕ)) → rest o (text_of []) ≡ o
  unfolding rest apart text_of more_all
  rest_end o = refl

  -- without a text, or where there was no more room, nothing that is left matters
  pub rest-none : (o : Option (List ℕ)) → rest o none ≡ none
  unfolding rest
  rest-none o = refl

  pub rest-full : (t : Option (List ℕ)) → rest none t ≡ none
  unfolding rest
  rest-full none = refl
  rest-full (some cs) = more-none (apart cs)

  pub more-one : (o : Option (List ℕ)) (c : ℕ) → more_all room o (c ∷ []) ≡ more room o c
  unfolding more_all
  more-one o c = refl

  pub more-two : (o : Option (List ℕ)) (c d : ℕ) → more_all room o (c ∷ d ∷ []) ≡ more room (more room o c) d
  unfolding more_all
  more-two o c d = refl

-- ---- a form in an array, one character more

one-covered : (c : ℕ) → covers c ≡ true → covers_all (c ∷ []) ≡ true
unfolding covers_all
one-covered c h = rw h refl

ordered-twice : (l : List ℕ) → ordered (ordered l) ≡ ordered l
ordered-twice l = ap ordered (sym (append-nil (ordered l))) ∙ ordered-again l [] ∙ ap ordered (append-nil l)

pub put-more : (room count c : ℕ) (chars next : List ℕ) → length chars ≡ room → count < room → covers c ≡ true → Sound room count (take count chars)
    → take (count + 1) next ≡ ordered (take count chars ++ (c ∷ []))
    → Sound room (count + 1) (take (count + 1) next) × (some (take (count + 1) next) ≡ more room (some (take count chars)) c)
put-more room count c chars next l h v (s, a, o) e = (
  (omega arith, rw e (covers-ordered (take count chars ++ (c ∷ [])) (covers-append (take count chars) (c ∷ []) a (one-covered c v))), rw e (ordered-twice (take count chars ++ (c ∷ [])))),
  rw (e, lt-ltb (length (take count chars)) room (omega (arith, length-take-le count chars (omega arith)))) refl,
)

pub put_full : (room count c : ℕ) (chars : List ℕ) → length chars ≡ room → room ≤ count → Sound room count (take count chars) → none ≡ more room (some (take count chars)) c
put_full room count c chars l h (s, a, o) = sym (rw (le-ltb (length (take count chars)) room (omega (arith, length-take-le count chars (omega arith)))) refl)

pub put-none : (room c : ℕ) (f : code.Option Form) → false ≡ is_some f → told f ≡ more room (told f) c
put-none room c (Some f) e = absurd (true≢false (sym e))
put-none room c None e = refl

-- where there is no form, none is told
pub told_none : (f : code.Option Form) → false ≡ is_some f → told f ≡ none
told_none (Some f) e = absurd (true≢false (sym e))
told_none None e = refl

-- ---- the parts of a character

module _ (c e : ℕ) (h : covers c ≡ true) (high : 0xc0 ≤ c) (is : e ≡ entry_of c) where
  pub apart_by : parts c ≡ parts_in e
  apart_by = rw (le-ltb c 0xc0 high) (ap parts_in (sym is))

  all-covered : covers_all (parts_in e) ≡ true
  all-covered = rw (← apart_by) (fixed c h).0

  pub first-covered : covers (first_of e) ≡ true
  unfolding covers_all
  first-covered = (both_true (covers (first_of e)) (covers_all (cond (eqb (second_of e) 0) [] ((second_of e) ∷ []))) all-covered).0

  pub parts-one : second_of e ≡ 0 → parts c ≡ (first_of e) ∷ []
  parts-one z = apart_by ∙ simp (eq-eqb (second_of e) 0 z)

  pub parts-two : (second_of e ≡ 0 → ⊥) → parts c ≡ (first_of e) ∷ (second_of e) ∷ []
  parts-two z = apart_by ∙ simp (ne_eqb (second_of e) 0 z)

  pub second-covered : (second_of e ≡ 0 → ⊥) → covers (second_of e) ≡ true
  unfolding covers_all
  second-covered z =
      let all : covers_all ((first_of e) ∷ (second_of e) ∷ []) ≡ true = subst (λ (l : List ℕ). covers_all l ≡ true) (parts-two z) (fixed c h).0 in
      (both_true (covers (second_of e)) true (both_true (covers (first_of e)) (covers (second_of e) && true) all).1).0

-- ---- two forms compared

pub same_left : (x y : code.Option Form) → false ≡ is_some x → false ≡ same_form (told x) (told y)
same_left (Some f) y e = absurd (true≢false (sym e))
same_left None y e = refl

pub same-right : (x y : code.Option Form) → true ≡ is_some x → false ≡ is_some y → false ≡ same_form (told x) (told y)
same-right (Some f) (Some g) d e = absurd (true≢false (sym e))
same-right (Some f) None d e = refl
same-right None y d e = refl

module _ (room m n : ℕ) (a b : List ℕ) (la : length a ≡ room) (lb : length b ≡ room) (sa : Sound room m (take m a)) (sb : Sound room n (take n b)) where
  long-a : length (take m a) ≡ m
  long-a = length-take-le m a (omega (arith, sa.0))

  long-b : length (take n b) ≡ n
  long-b = length-take-le n b (omega (arith, sb.0))

  pub same-counts : (m ≡ n → ⊥) → false ≡ same_form (some (take m a)) (some (take n b))
  same-counts d = lengths_differ (take m a) (take n b) (λ q. d (sym long-a ∙ q ∙ long-b))

  pub same-one : m ≡ n → (i : ℕ) → i < m → (get_or a i 0 ≡ get_or b i 0 → ⊥) → false ≡ same_form (some (take m a)) (some (take n b))
  same-one q i h d =
      one-differs (take m a) (take n b) i (λ z. d (sym (get_or-take m a i 0 h) ∙ z ∙ get_or-take n b i 0 (subst (λ (x : ℕ). i < x) q h)))

  pub same-every : m ≡ n → ((j : ℕ) → j < m → get_or a j 0 ≡ get_or b j 0) → true ≡ same_form (some (take m a)) (some (take n b))
  same-every q h =
      all_same (take m a) (take n b) (long-a ∙ q ∙ sym long-b)
      (λ j z. let i : j < m = omega (arith, z, long-a) in get_or-take m a j 0 i ∙ h j i ∙ sym (get_or-take n b j 0 (subst (λ (x : ℕ). j < x) q i)))
