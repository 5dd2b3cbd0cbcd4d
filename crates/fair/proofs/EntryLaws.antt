-- Entries in a buffer: three words an order, one entry after the other. Assumes nothing.
use mathlib.Core.Path.{◌≡◌, refl, sym, ap, ap₂, ◌∙◌}
use mathlib.Core.Bool.{Bool}
use mathlib.Core.List.{List, [], ◌∷◌, ◌++◌, append_assoc, append-nil}
use Prim.Native.Nat.{ℕ, zero, suc, ◌+◌, ◌-◌, ◌*◌, ◌/◌, ◌≤◌, ◌<◌}
use native.Mathlib.Numerals.{add-one}
use native.Mathlib.Decide.{dec_lt}
use native.Mathlib.Omega.{arith}
use lib.Dec.{ltb}
use lib.ListN.{length, take, drop, get_or, set, length-drop, length-append, drop_of_length-le}
use lib.Seq.{take-suc, take_at, drop_at, drop-drop, take-length, length-take-le, take_all}
use borrow.Author.Tests.{lt-ltb, le-ltb}
use borrow.Rule.Slice.PartMut.{put_mid}
use Rattle.reading.specs.declared.Reason.TheVariants.{ShortBuffer}
use Rattle.arguments.specs.Answers.{Answer, refusal, value, unless, passed}
use Rattle.arguments.specs.Tests.{room_test}
use Rattle.calls.specs.Choose.{Chosen}
use Rattle.fair.specs.Fair.{entry_words, entry_of, entries}

-- ---- an entry

-- three words that are written one by one
pub put-words : (l : List ℕ) (x y z : ℕ) → entry_words ≤ length l → set (set (set l 0 x) 1 y) 2 z ≡ (x ∷ y ∷ z ∷ []) ++ drop entry_words l
put-words [] x y z h = absurd (omega arith)
put-words (a ∷ []) x y z h = absurd (omega arith)
put-words (a ∷ b ∷ []) x y z h = absurd (omega arith)
put-words (a ∷ b ∷ c ∷ l) x y z h = refl

-- every entry has three
pub entry_length : (a : Answer Chosen) → length (entry_of a) ≡ entry_words
entry_length (refusal reason place) = refl
entry_length (value c) = refl

-- ---- the entries of a list

-- three words an order, without a product
pub room-test : (words orders : ℕ) → room_test (words / entry_words) orders ≡ room_test words (entry_words * orders)
room-test words orders = ap (λ (short : Bool). unless short ShortBuffer passed) (go (dec_lt words (entry_words * orders)))
  where
    go : Dec (words < entry_words * orders) → ltb (words / entry_words) orders ≡ ltb words (entry_words * orders)
    go (yes h) = lt-ltb (words / entry_words) orders (omega arith) ∙ sym (lt-ltb words (entry_words * orders) h)
    go (no h) = le-ltb (words / entry_words) orders (omega arith) ∙ sym (le-ltb words (entry_words * orders) (omega arith))

module _ (answer : ℕ → Answer Chosen) where
  pub entries-length : (orders : List ℕ) → length (entries answer orders) ≡ entry_words * length orders
  unfolding entries
  entries-length [] = refl
  entries-length (o ∷ os) = length-append (entry_of (answer o)) (entries answer os) ∙ omega (arith, entry_length (answer o), entries-length os)

  entries-append : (os ps : List ℕ) → entries answer (os ++ ps) ≡ entries answer os ++ entries answer ps
  unfolding entries
  entries-append [] ps = refl
  entries-append (o ∷ os) ps = ap (λ (l : List ℕ). entry_of (answer o) ++ l) (entries-append os ps) ∙ sym (append_assoc (entry_of (answer o)) (entries answer os) (entries answer ps))

  entries-one : (o : ℕ) → entries answer (o ∷ []) ≡ entry_of (answer o)
  unfolding entries
  entries-one o = append-nil (entry_of (answer o))

  -- the first entries of a list, and one more
  entries_next : (os : List ℕ) (i : ℕ) → i < length os → entries answer (take (i + 1) os) ≡ entries answer (take i os) ++ entry_of (answer (get_or os i 0))
  entries_next os i h =
      ap (λ (k : ℕ). entries answer (take k os)) (add-one i) ∙ ap (entries answer) (take-suc os i 0 h)
      ∙ entries-append (take i os) (get_or os i 0 ∷ []) ∙ ap (λ (l : List ℕ). entries answer (take i os) ++ l) (entries-one (get_or os i 0))

  front_length : (os : List ℕ) (i : ℕ) → i ≤ length os → length (entries answer (take i os)) ≡ entry_words * i
  front_length os i h = entries-length (take i os) ∙ ap (λ (k : ℕ). entry_words * k) (length-take-le i os h)

  -- entry i of what was written
  pub entry-at : (os rest : List ℕ) (i : ℕ) → i < length os → take entry_words (drop (entry_words * i) (entries answer os ++ rest)) ≡ entry_of (answer (get_or os i 0))
  unfolding entries
  entry-at [] rest i h = absurd (omega arith)
  entry-at (o ∷ os) rest zero h =
      ap (take entry_words) (append_assoc (entry_of (answer o)) (entries answer os) rest) ∙ take_at (entry_of (answer o)) (entries answer os ++ rest) entry_words (entry_length (answer o))
  entry-at (o ∷ os) rest (suc i) h =
      ap (λ (k : ℕ). take entry_words (drop k (entries answer (o ∷ os) ++ rest))) (let e : entry_words * suc i ≡ entry_words + entry_words * i = omega arith in e)
      ∙ ap (take entry_words) (sym (drop-drop (entry_words * i) entry_words (entries answer (o ∷ os) ++ rest)))
      ∙ ap (λ (l : List ℕ). take entry_words (drop (entry_words * i) (drop entry_words l))) (append_assoc (entry_of (answer o)) (entries answer os) rest)
      ∙ ap (λ (l : List ℕ). take entry_words (drop (entry_words * i) l)) (drop_at (entry_of (answer o)) (entries answer os ++ rest) entry_words (entry_length (answer o)))
      ∙ entry-at os rest i (omega arith)

  -- ---- the loop: i entries are written, and one more is

  pub entries-start : (os old : List ℕ) → old ≡ entries answer (take 0 os) ++ drop (entry_words * 0) old
  unfolding entries
  entries-start os old = refl

  pub entries-turn : (os old words : List ℕ) (i : ℕ) → i < length os → words ≡ entries answer (take i os) ++ drop (entry_words * i) old
      → take (entry_words * i) words ++ (entry_of (answer (get_or os i 0)) ++ drop entry_words (drop (entry_words * i) words)) ≡ entries answer (take (i + 1) os) ++ drop (entry_words * (i + 1)) old
  entries-turn os old words i h e =
      let entry = entry_of (answer (get_or os i 0)) in
      let n = front_length os i (omega arith) in
      let front : take (entry_words * i) words ≡ entries answer (take i os) = ap (take (entry_words * i)) e ∙ take_at (entries answer (take i os)) (drop (entry_words * i) old) (entry_words * i) n in
      let kept : drop (entry_words * i) words ≡ drop (entry_words * i) old = ap (drop (entry_words * i)) e ∙ drop_at (entries answer (take i os)) (drop (entry_words * i) old) (entry_words * i) n in
      let past : drop entry_words (drop (entry_words * i) old) ≡ drop (entry_words * (i + 1)) old = drop-drop entry_words (entry_words * i) old ∙ ap (λ (k : ℕ). drop k old) (let z : entry_words * i + entry_words ≡ entry_words * (i + 1) = omega arith in z) in
      ap₂ (λ (p q : List ℕ). p ++ (entry ++ drop entry_words q)) front kept
      ∙ sym (append_assoc (entries answer (take i os)) entry (drop entry_words (drop (entry_words * i) old)))
      ∙ ap₂ (λ (p q : List ℕ). p ++ q) (sym (entries_next os i h)) past

  pub entries-end : (os old words : List ℕ) (i : ℕ) → i ≡ length os → words ≡ entries answer (take i os) ++ drop (entry_words * i) old → words ≡ entries answer os ++ drop (entry_words * length os) old
  entries-end os old words i e h =
      h ∙ ap (λ (k : ℕ). entries answer (take k os) ++ drop (entry_words * k) old) e ∙ ap (λ (l : List ℕ). entries answer l ++ drop (entry_words * length os) old) (take-length os)

-- ---- a part `&mut l[a..]`: what is lent, and the whole after it has come back

pub part-open : (l : List ℕ) (a : ℕ) → take (length l - a) (drop a l) ≡ drop a l
part-open l a = take_all (length l - a) (drop a l) (omega (arith, length-drop a l))

pub put-open : (l p : List ℕ) (a : ℕ) → a ≤ length l → put_mid a (length l - a) l p ≡ take a l ++ p
put-open l p a h =
    ap (λ (q : List ℕ). take a l ++ (p ++ q)) (drop_of_length-le (drop a l) {i = length l - a} (omega (arith, length-drop a l))) ∙ ap (λ (q : List ℕ). take a l ++ q) (append-nil p)
