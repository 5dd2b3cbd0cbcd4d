-- The laws of texts on a page, of decimal digits, and how long the texts are. Assumes nothing.
use mathlib.Core.Path.{◌≡◌, refl, sym, ap, ◌∙◌}
use mathlib.Core.Bool.{Bool, true, false, cond}
use mathlib.Core.List.{List, [], ◌∷◌, ◌++◌, append_assoc, append-nil}
use Prim.Native.Nat.{ℕ, zero, suc, ◌+◌, ◌*◌, ◌/◌, ◌%◌, ◌^◌, ◌≤◌, ◌<◌}
use native.Mathlib.Nat.{pow-suc}
use native.Mathlib.Numerals.{add-one}
use native.Mathlib.Omega.{arith}
use lib.Dec.{ltb}
use lib.ListN.{length, get_or, take, set, length-append, length-take}
use lib.Seq.{take_all, take-suc, take-suc-set, take-append-le}
use borrow.Author.Tests.{lt-ltb, le-ltb, ltb-false, eq-eqb, ne_eqb}
use Rattle.sets.specs.Sets.{bit, member}
use Rattle.text.specs.Text.{digits, decimal, members, refused_text, chosen_text, round_text, round_texts, rounds_text}

-- ---- a page of n bytes

-- what was cut is cut again
cut_again : (n : ℕ) (a b : List ℕ) → take n (take n a ++ b) ≡ take n (a ++ b)
cut_again zero a b = refl
cut_again (suc n) [] b = refl
cut_again (suc n) (x ∷ a) b = ap (λ (r : List ℕ). x ∷ r) (cut_again n a b)

module _ (n : ℕ) where
  -- t after the text p of a page
  then : (p q r t : List ℕ) → q ≡ take n p → r ≡ take n (q ++ t) → r ≡ take n (p ++ t)
  then p q r t e f = f ∙ ap (λ (x : List ℕ). take n (x ++ t)) e ∙ cut_again n p t

  -- t after the texts p and s of a page
  then-both : (p q r s t : List ℕ) → q ≡ take n (p ++ s) → r ≡ take n (q ++ t) → r ≡ take n (p ++ (s ++ t))
  then-both p q r s t e f = then (p ++ s) q r t e f ∙ ap (λ (x : List ℕ). take n x) (append_assoc p s t)

  -- a text that has room is there as a whole
  has_room : (r t : List ℕ) → r ≡ take n t → length t ≤ n → r ≡ t
  has_room r t e l = e ∙ take_all n t l

  module _ (bytes : List ℕ) (at : ℕ) (long : length bytes ≡ n) where
    -- nothing after the text of a page
    pub stays : take at bytes ≡ take n (take at bytes ++ [])
    stays = sym (take_all n (take at bytes ++ []) (omega (arith, length-append (take at bytes) [], length-take at bytes)) ∙ append-nil (take at bytes))

    -- a byte after the text of a page with room, and of a full one
    pub put-room : (byte : ℕ) → at < n → take (at + 1) (set bytes at byte) ≡ take n (take at bytes ++ (byte ∷ []))
    put-room byte l =
        ap (λ (k : ℕ). take k (set bytes at byte)) (add-one at)
        ∙ take-suc-set bytes at byte (omega arith)
        ∙ sym (take_all n (take at bytes ++ (byte ∷ [])) (omega (arith, length-append (take at bytes) (byte ∷ []), length-take at bytes)))

    pub put_full : (byte : ℕ) → n ≤ at → take at bytes ≡ take n (take at bytes ++ (byte ∷ []))
    put_full byte l =
        let e : take at bytes ≡ bytes = take_all at bytes (omega arith) in
        e ∙ sym (ap (λ (x : List ℕ). take n (x ++ (byte ∷ []))) e ∙ take-append-le n bytes (byte ∷ []) (omega arith) ∙ take_all n bytes (omega arith))

  -- ---- loops that write after the text p of a page

  -- one byte more of a text
  pub say-turn : (p q r text : List ℕ) (i : ℕ) → i < length text → q ≡ take n (p ++ take i text) → r ≡ take n (q ++ (get_or text i 0 ∷ [])) → r ≡ take n (p ++ take (i + 1) text)
  say-turn p q r text i l e f =
      then-both p q r (take i text) (get_or text i 0 ∷ []) e f
      ∙ ap (λ (x : List ℕ). take n (p ++ x)) (sym (take-suc text i 0 l) ∙ ap (λ (k : ℕ). take k text) (sym (add-one i)))

  pub say-end : (p q text : List ℕ) (i : ℕ) → length text ≤ i → q ≡ take n (p ++ take i text) → q ≡ take n (p ++ text)
  say-end p q text i l e = e ∙ ap (λ (x : List ℕ). take n (p ++ x)) (take_all i text l)

  -- one member more of a set
  pub set-turn : (p q r : List ℕ) (s i : ℕ) → q ≡ take n (p ++ members i s) → r ≡ take n (q ++ cond (member s i) (32 ∷ decimal i) []) → r ≡ take n (p ++ members (i + 1) s)
  unfolding members
  set-turn p q r s i e f =
      then-both p q r (members i s) (cond (member s i) (32 ∷ decimal i) []) e f ∙ ap (λ (k : ℕ). take n (p ++ members k s)) (sym (add-one i))

  -- one round more of a plan
  pub rounds-turn : (p q r words : List ℕ) (w i : ℕ) → q ≡ take n (p ++ round_texts w i words) → r ≡ take n (q ++ round_text w i (get_or words i 0)) → r ≡ take n (p ++ round_texts w (i + 1) words)
  unfolding round_texts
  rounds-turn p q r words w i e f =
      then-both p q r (round_texts w i words) (round_text w i (get_or words i 0)) e f ∙ ap (λ (k : ℕ). take n (p ++ round_texts w k words)) (sym (add-one i))

-- ---- the digits of a number

-- `most` does not matter if it is above the number
digits_same : (a b n : ℕ) → n < a → n < b → digits a n ≡ digits b n
unfolding digits
digits_same zero b n l m = absurd (omega arith)
digits_same (suc a) zero n l m = absurd (omega arith)
digits_same (suc a) (suc b) n l m = go (ltb n 10) refl (digits_same a b (n / 10))
  where
    last : List ℕ
    last = (48 + n % 10) ∷ []

    go : (t : Bool) → ltb n 10 ≡ t → (n / 10 < a → n / 10 < b → digits a (n / 10) ≡ digits b (n / 10))
        → cond t ((48 + n) ∷ []) (digits a (n / 10) ++ last) ≡ cond t ((48 + n) ∷ []) (digits b (n / 10) ++ last)
    go true e r = refl
    go false e r = ap (λ (x : List ℕ). x ++ last) (r (omega (arith, ltb-false n 10 e)) (omega (arith, ltb-false n 10 e)))

one-digit : (n : ℕ) → n < 10 → decimal n ≡ (48 + n) ∷ []
unfolding digits
one-digit n l = simp (lt-ltb n 10 l)

more-digits : (n : ℕ) → 10 ≤ n → decimal n ≡ decimal (n / 10) ++ ((48 + n % 10) ∷ [])
unfolding digits
more-digits n l = simp (le-ltb n 10 l) (ap (λ (x : List ℕ). x ++ ((48 + n % 10) ∷ [])) (digits_same n (suc (n / 10)) (n / 10) (omega arith) (omega arith)))

-- ---- what the functions write, on a page of n bytes, after the text p

module _ (n : ℕ) (p : List ℕ) where
  pub number-one : (r : List ℕ) (m d : ℕ) → m < 10 → d ≡ 48 + m → r ≡ take n (p ++ (d ∷ [])) → r ≡ take n (p ++ decimal m)
  number-one r m d l e f = f ∙ ap (λ (x : ℕ). take n (p ++ (x ∷ []))) e ∙ ap (λ (x : List ℕ). take n (p ++ x)) (sym (one-digit m l))

  pub number_more : (q r : List ℕ) (m d : ℕ) → 10 ≤ m → d ≡ 48 + m % 10 → q ≡ take n (p ++ decimal (m / 10)) → r ≡ take n (q ++ (d ∷ [])) → r ≡ take n (p ++ decimal m)
  number_more q r m d l e f g =
      then-both n p q r (decimal (m / 10)) (d ∷ []) f g
      ∙ ap (λ (x : ℕ). take n (p ++ (decimal (m / 10) ++ (x ∷ [])))) e
      ∙ ap (λ (x : List ℕ). take n (p ++ x)) (sym (more-digits m l))

  pub one-member : (q r : List ℕ) (s i b : ℕ) → b ≡ bit s i → b ≡ 1 → q ≡ take n (p ++ (32 ∷ [])) → r ≡ take n (q ++ decimal i) → r ≡ take n (p ++ cond (member s i) (32 ∷ decimal i) [])
  one-member q r s i b e f g h =
      then-both n p q r (32 ∷ []) (decimal i) g h
      ∙ ap (λ (t : Bool). take n (p ++ cond t (32 ∷ decimal i) [])) (sym (eq-eqb (bit s i) 1 (sym e ∙ f)))

  pub no_member : (s i b : ℕ) → b ≡ bit s i → (b ≡ 1 → ⊥) → p ≡ take n (p ++ []) → p ≡ take n (p ++ cond (member s i) (32 ∷ decimal i) [])
  no_member s i b e f g = g ∙ ap (λ (t : Bool). take n (p ++ cond t (32 ∷ decimal i) [])) (sym (ne_eqb (bit s i) 1 (λ h. f (e ∙ h))))

  pub round-made : (a b c d : List ℕ) (w i round : ℕ) → a ≡ take n (p ++ decimal (i + 1)) → b ≡ take n (a ++ (58 ∷ [])) → c ≡ take n (b ++ members w round)
      → d ≡ take n (c ++ (10 ∷ [])) → d ≡ take n (p ++ round_text w i round)
  round-made a b c d w i round e f g h =
      then-both n p c d (decimal (suc i) ++ (58 ∷ []) ++ members w round) (10 ∷ [])
      (then-both n p b c (decimal (suc i) ++ (58 ∷ [])) (members w round)
      (then-both n p a b (decimal (suc i)) (58 ∷ []) (e ∙ ap (λ (k : ℕ). take n (p ++ decimal k)) (add-one i)) f) g) h

-- ---- how long the texts are

digits-short : (k most n : ℕ) → n < 10 ^ suc k → length (digits most n) ≤ suc k
unfolding digits
digits-short k zero n l = omega arith
digits-short zero (suc most) n l = simp (lt-ltb n 10 l) (omega arith)
digits-short (suc k) (suc most) n l = go (ltb n 10) (digits-short k most (n / 10) (omega (arith, pow-suc 10 (suc k))))
  where
    last : List ℕ
    last = (48 + n % 10) ∷ []

    go : (t : Bool) → length (digits most (n / 10)) ≤ suc k → length (cond t ((48 + n) ∷ []) (digits most (n / 10) ++ last)) ≤ suc (suc k)
    go true r = omega arith
    go false r = omega (arith, length-append (digits most (n / 10)) last)

member-short : (t : Bool) (i : ℕ) → i < 100 → length (cond t (32 ∷ decimal i) []) ≤ 3
member-short true i l = omega (arith, digits-short 1 (suc i) i l)
member-short false i l = omega arith

members-short : (w s : ℕ) → w ≤ 100 → length (members w s) ≤ 3 * w
unfolding members
members-short zero s l = omega arith
members-short (suc i) s l =
    omega (arith, length-append (members i s) (cond (member s i) (32 ∷ decimal i) []), members-short i s (omega arith), member-short (member s i) i (omega arith))

round-short : (i round : ℕ) → i < 99 → length (round_text 32 i round) ≤ 100
round-short i round l = simp length-append (omega (arith, digits-short 1 (suc (suc i)) (suc i) (omega arith), members-short 32 round (omega arith)))

rounds-short : (k : ℕ) (words : List ℕ) → k ≤ 99 → length (round_texts 32 k words) ≤ 100 * k
unfolding round_texts
rounds-short zero words l = omega arith
rounds-short (suc i) words l =
    omega (arith, length-append (round_texts 32 i words) (round_text 32 i (get_or words i 0)), rounds-short i words (omega arith), round-short i (get_or words i 0) (omega arith))

pub refused-fits : (number place : ℕ) → number < 2 ^ 64 → place < 2 ^ 64 → length (refused_text number place) ≤ 2048
refused-fits number place a b =
    simp length-append (omega (arith, digits-short 19 (suc number) number (omega arith), digits-short 19 (suc place) place (omega arith)))

pub chosen-fits : (selection aside : ℕ) → length (chosen_text 64 selection aside) ≤ 2048
chosen-fits selection aside = simp length-append (omega (arith, members-short 64 selection (omega arith), members-short 64 aside (omega arith)))

pub rounds-fits : (k : ℕ) (words : List ℕ) → k ≤ 16 → length (rounds_text 32 k words) ≤ 2048
rounds-fits k words l = simp length-append (omega (arith, digits-short 1 (suc k) k (omega arith), rounds-short k words (omega arith)))

-- ---- whole texts: parts that are written one after the other on an empty page of n bytes

module _ (n : ℕ) (s t u v o a b c d : List ℕ) (empty : o ≡ []) (first : a ≡ take n (o ++ s)) (second : b ≡ take n (a ++ t)) (third : c ≡ take n (b ++ u)) (fourth : d ≡ take n (c ++ v)) where
  four : d ≡ take n (s ++ t ++ u ++ v)
  four = then n (s ++ t ++ u) c d v (then n (s ++ t) b c u (then n s a b t (first ∙ ap (λ (x : List ℕ). take n (x ++ s)) empty) second) third) fourth

  pub four-parts : length (s ++ t ++ u ++ v) ≤ n → d ≡ s ++ t ++ u ++ v
  four-parts l = has_room n d (s ++ t ++ u ++ v) four l

  pub five-parts : (w e : List ℕ) → e ≡ take n (d ++ w) → length (s ++ t ++ u ++ v ++ w) ≤ n → e ≡ s ++ t ++ u ++ v ++ w
  five-parts w e fifth l = has_room n e (s ++ t ++ u ++ v ++ w) (then n (s ++ t ++ u ++ v) d e w four fifth) l
