-- Round layers as the code makes them: their vertices one by one, the mutex words by operations on sets. There is room for w facts and w steps.
-- Assumes nothing.
use mathlib.Core.Path.{◌≡◌, sym, ap, ap₂, ◌∙◌}
use mathlib.Core.Logic.{◌≢◌}
use mathlib.Core.Bool.{Bool, true, false, not, ◌&&◌, ◌||◌, cond, not-not}
use mathlib.Core.List.{List, []}
use Prim.Native.Nat.{ℕ, ◌+◌, ◌-◌, ◌^◌, ◌≤◌, ◌<◌, min, max}
use native.Mathlib.Omega.{arith}
use lib.Bits.{bit_and, bit_or, or_zero_l, and_le_l}
use lib.Dec.{eqb}
use lib.ListN.{get_or}
use lib.Pow.{pow_mono}
use borrow.Author.Tests.{lt-ltb, le-ltb, eq-eqb, ne_eqb}
use Rattle.sets.specs.Ranges.{num, given, list_to}
use Rattle.sets.specs.Sets.{bit, member, without, part, meets, set_of, gathered}
use Rattle.sets.proofs.Ranges.{num-le, given_yes, given-no, list_at}
use Rattle.sets.proofs.Bits.{bit_le, bit-and, bit-or, member-yes, member-no, meets-turned, without-le, ext}
use Rattle.sets.proofs.Made.{gathered-part}
use Rattle.planning.specs.Rounds.{Steps, listed_steps, disturb}
use Rattle.planning.specs.Layers.{mutex_with, mutex_word, Layer, mutexes, opposed, stands, rivals, standing, round_over}
use Rattle.layers.specs.Meaning.{layer, vertex_words, uses}
use Rattle.layers.proofs.SetCode.{member-bit, set-by-bits, bit-less}

-- ---- a table of steps as one of vertices

-- a keeper's word is made from the empty set
pub vertex-keeper : (w x r : ℕ) (kept : Bool) (steps : List ℕ) → x < w → r ≡ bit_or 0 (given kept (2 ^ x)) → r ≡ vertex_words w kept steps x
vertex-keeper w x r kept steps l e =
    e ∙ or_zero_l (given kept (2 ^ x)) ∙ sym (ap (λ (t : Bool). cond t (given kept (2 ^ x)) (get_or steps (x - w) 0)) (lt-ltb x w l))

pub vertex-step : (w x : ℕ) (kept : Bool) (steps : List ℕ) → w ≤ x → get_or steps (x - w) 0 ≡ vertex_words w kept steps x
vertex-step w x kept steps l = sym (ap (λ (t : Bool). cond t (given kept (2 ^ x)) (get_or steps (x - w) 0)) (le-ltb x w l))

-- ---- what the members of a set have together

-- if no member is at or above n, the rows from n on do not count
pub gathered-room : (n m s : ℕ) (f : ℕ → ℕ) → n ≤ m → s < 2 ^ n → gathered m s f ≡ gathered n s f
gathered-room n m s f l h = ext (gathered m s f) (gathered n s f) (λ i. omega (arith, gathered-part m n s f h i, gathered-part n m s f (omega (arith, pow_mono l)) i))

-- so the facts that are mutex with a set of w facts may be gathered from more than w words
pub opposed-made : (w n facts s r : ℕ) (words : List ℕ) → w ≤ n → s < 2 ^ w → r ≡ gathered n s (λ i. get_or words i 0) → r ≡ opposed w (layer facts words) s
unfolding opposed
opposed-made w n facts s r words l h e = e ∙ gathered-room w n s (λ i. get_or words i 0) l h

-- ---- whether a vertex may stand

module _ (w : ℕ) (S : Steps) (L : Layer) (x : ℕ) where
  -- a need is missing
  pub stands-lacks : (r : ℕ) → r ≡ without (S.needs x) L.members → r ≢ 0 → false ≡ stands w S L x
  unfolding stands part
  stands-lacks r e d =
      sym (ap (λ (t : Bool). t && not (meets (opposed w L (S.needs x)) (S.needs x))) (ne_eqb (without (S.needs x) L.members) 0 (λ q. d (e ∙ q))))

  -- none is missing: it stands if no need is opposed
  pub stands-there : (r g : ℕ) → r ≡ without (S.needs x) L.members → r ≡ 0 → g ≡ opposed w L (S.needs x) → eqb (bit_and g (S.needs x)) 0 ≡ stands w S L x
  unfolding stands part meets
  stands-there r g e z eg =
      ap (λ (o : ℕ). eqb (bit_and o (S.needs x)) 0) eg
      ∙ sym (not-not (eqb (bit_and (opposed w L (S.needs x)) (S.needs x)) 0))
      ∙ sym (ap (λ (t : Bool). t && not (meets (opposed w L (S.needs x)) (S.needs x))) (eq-eqb (without (S.needs x) L.members) 0 (sym e ∙ z)))

-- ---- the vertices that one is mutex with

-- a bit of the row: a member, another one, and one of three tests passes
round-bit : (m e a b c : Bool) → min (num m - num e) (max (max (num a) (num b)) (num c)) ≡ num (m && (not e && (a || b || c)))
round-bit false e a b c = omega arith
round-bit true true a b c = omega arith
round-bit true false true b c = omega (arith, num-le b, num-le c)
round-bit true false false true c = omega (arith, num-le c)
round-bit true false false false c = omega (arith, num-le c)

-- The row of x as the code makes it. Of the others it has those y that need or give what x takes, those that take what x needs or gives, and
-- those that need what is opposed to x.
pub row_made : (w n : ℕ) (S : Steps) (L : Layer) (m x others a b c : ℕ) → m < 2 ^ n → others ≡ without m (2 ^ x)
    → ((y : ℕ) → y < n → member a y ≡ meets (S.takes x) (get_or (list_to n (uses S)) y 0))
    → ((y : ℕ) → y < n → member b y ≡ meets (uses S x) (S.takes y))
    → ((y : ℕ) → y < n → member c y ≡ meets (opposed w L (S.needs x)) (S.needs y))
    → bit_and others (bit_or (bit_or a b) c) ≡ set_of n (mutex_with m (rivals w S L) x)
unfolding rivals disturb
row_made w n S L m x others a b c h eo ea eb ec = set-by-bits n made (mutex_with m (rivals w S L) x) below each
  where
    made : ℕ
    made = bit_and others (bit_or (bit_or a b) c)

    below : made < 2 ^ n
    below = omega (arith, and_le_l others (bit_or (bit_or a b) c), without-le m (2 ^ x))

    each : (y : ℕ) → y < n → bit made y ≡ num (mutex_with m (rivals w S L) x y)
    each y l =
        bit-and others (bit_or (bit_or a b) c) y
        ∙ ap₂ min (ap (λ (s : ℕ). bit s y) eo ∙ bit-less m x y)
        (bit-or (bit_or a b) c y ∙ ap₂ max
        (bit-or a b y ∙ ap₂ max
        (member-bit a y (ea y l ∙ ap (meets (S.takes x)) (list_at n (uses S) 0 y l)))
        (member-bit b y (eb y l ∙ meets-turned (uses S x) (S.takes y))))
        (member-bit c y (ec y l)))
        ∙ round-bit (member m y) (eqb x y) (meets (S.takes x) (uses S y)) (meets (S.takes y) (uses S x)) (meets (opposed w L (S.needs x)) (S.needs y))

-- ---- the sets, and the round layer

pub word-absent : (n m : ℕ) (test : ℕ → ℕ → Bool) (x b : ℕ) → b ≡ bit m x → b ≡ 0 → 0 ≡ mutex_word n m test x
word-absent n m test x b e z = sym (given-no (member m x) (set_of n (mutex_with m test x)) (member-no m x (sym e ∙ z)))

pub word-there : (n m : ℕ) (test : ℕ → ℕ → Bool) (x b r : ℕ) → b ≡ bit m x → b ≢ 0 → r ≡ set_of n (mutex_with m test x) → r ≡ mutex_word n m test x
word-there n m test x b r e d er =
    er ∙ sym (given_yes (member m x) (set_of n (mutex_with m test x)) (member-yes m x (omega (arith, bit_le m x))))

-- The layer in two parts. Of the steps, only what they need tells which vertices are in it; of the fact layer, only its words tell the mutex words. So
-- the code hands on no more than that.
pub round-made : (w : ℕ) (needs gives takes : List ℕ) (top facts m : ℕ) (words mutex : List ℕ) → m ≡ standing w (listed_steps needs [] []) top (layer facts words)
    → mutex ≡ mutexes (w + w) m (rivals w (listed_steps needs gives takes) (layer 0 words))
    → layer m mutex ≡ round_over w (listed_steps needs gives takes) top (layer facts words)
unfolding standing stands rivals opposed round_over
round-made w needs gives takes top facts m words mutex em ew =
    ap₂ layer em (ew ∙ ap (λ (s : ℕ). mutexes (w + w) s (rivals w (listed_steps needs gives takes) (layer facts words))) em)
