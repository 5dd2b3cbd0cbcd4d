-- What is asked of one round layer: which vertices the facts open, its mutex words, and the facts that no selection covers. Assumes nothing.
use mathlib.Core.Path.{◌≡◌, refl, sym, ap, subst, ◌∙◌}
use mathlib.Core.Logic.{⊎_elim}
use mathlib.Core.Bool.{Bool, true, false, true≢false}
use mathlib.Core.List.{List, append-nil}
use mathlib.Core.Option.{Option, none, some}
use Rattle.std.specs.Prelude as code
use Prim.Native.Nat.{ℕ, ◌+◌, ◌-◌, ◌*◌, ◌^◌, ◌≤◌, ◌<◌, zero-le}
use native.Mathlib.Omega.{arith}
use lib.Bits.{bit_or}
use lib.ListN.{length, get_or, take, drop, replicate}
use lib.Seq.{take-take, paste}
use Rattle.sets.specs.Ranges.{given}
use Rattle.sets.specs.Sets.{bit, ◌∈◌, ◌⊆◌, part, without, lowest}
use Rattle.sets.specs.First.{Smallest}
use Rattle.sets.proofs.Bits.{bit-or, bit-without, bit-empty, ext, ext-at, part-refl, part_in, in-part, part-yes, yes-part, in_without, in-more, less-in, less-same, less_other, more_same, more-other, or_left, member-differs}
use Rattle.sets.proofs.Lowest.{lowest-in}
use Rattle.network.specs.Network.{Network, listed, Cover}
use Rattle.choice.specs.Choice.{smallest}
use Rattle.choice.specs.Search.{Finds}
use Rattle.choice.specs.Meaning.{found_by, is_some}
use Rattle.choice.proofs.ChoiceLaws.{smallest-right}
use Rattle.supports.specs.Supports.{row_of, Opens, Uncovered}

-- ---- a loop over the members of m, from the lowest up: those visited are the members that are not left, `without m left`

without-part : (a b m : ℕ) → a ⊆ m → without a b ⊆ m
without-part a b m h i = omega (arith, bit-without a b i, h i)

-- the lowest member of what is left, as the code finds it
pub lowest-one : (w left : ℕ) {a : ℕ} → a ≡ lowest w left → a < w → a ∈ left
lowest-one w left e l = ap (bit left) e ∙ lowest-in w left (omega arith)

visited-none : (m : ℕ) → without m m ≡ 0
visited-none m = ext (without m m) 0 (λ i. omega (arith, bit-without m m i, bit-empty i))

visited-more : (m left a : ℕ) → left ⊆ m → a ∈ left → without m (without left (2 ^ a)) ≡ bit_or (without m left) (2 ^ a)
visited-more m left a h e =
    let rest = without left (2 ^ a) in
    ext-at a (without m rest) (bit_or (without m left) (2 ^ a))
    (omega (arith, bit-without m rest a, less-same left a, part_in left m h a e, more_same (without m left) a))
    (λ i d. omega (arith, bit-without m rest i, less_other left a i d, more-other (without m left) a i d, bit-without m left i))

visited-all : (m : ℕ) → without m 0 ≡ m
visited-all m = ext (without m 0) m (λ i. omega (arith, bit-without m 0 i, bit-empty i))

-- ---- the vertices that the facts open

module _ (needs : List ℕ) (may : ℕ) where
  opens-none : Opens needs 0 may 0
  opens-none = record {
    within = part-refl 0;
    inside = λ i e. absurd (omega (arith, bit-empty i));
    whole = λ i e h. absurd (omega (arith, bit-empty i));
  }

  -- one vertex more to look at
  opens-more : (m v a : ℕ) → Opens needs m may v → Opens needs (bit_or m (2 ^ a)) may (bit_or v (given (part (get_or needs a 0) may) (2 ^ a)))
  opens-more m v a o = go (part (get_or needs a 0) may) refl
    where
      shut : part (get_or needs a 0) may ≡ false → get_or needs a 0 ⊆ may → ⊥
      shut t h = true≢false (sym (part-yes (get_or needs a 0) may h) ∙ t)

      go : (t : Bool) → part (get_or needs a 0) may ≡ t → Opens needs (bit_or m (2 ^ a)) may (bit_or v (given t (2 ^ a)))
      go true t = record {
        within = λ i. omega (arith, bit-or v (2 ^ a) i, bit-or m (2 ^ a) i, o.within i);
        inside = λ i e. ⊎_elim (λ q. subst (λ (u : ℕ). get_or needs u 0 ⊆ may) (sym q) (yes-part (get_or needs a 0) may t)) (o.inside i) (in-more v a i e);
        whole = λ i e h. ⊎_elim (λ q. ap (bit (bit_or v (2 ^ a))) q ∙ more_same v a) (λ k. or_left v (2 ^ a) i (o.whole i k h)) (in-more m a i e);
      }
      go false t = record {
        within = λ i. omega (arith, bit-or v 0 i, bit-empty i, bit-or m (2 ^ a) i, o.within i);
        inside = λ i e. o.inside i (omega (arith, bit-or v 0 i, bit-empty i));
        whole = λ i e h. ⊎_elim (λ q. absurd (shut t (subst (λ (u : ℕ). get_or needs u 0 ⊆ may) q h))) (λ k. or_left v 0 i (o.whole i k h)) (in-more m a i e);
      }

  -- the vertices left are members, and of the other members v has those that the facts open
  abbrev pub Opening : ℕ → ℕ → ℕ → Type 0
  Opening m v left = (left ⊆ m) × Opens needs (without m left) may v

  pub opening-start : (m : ℕ) → Opening m 0 m
  opening-start m = (part-refl m, subst (λ (s : ℕ). Opens needs s may 0) (sym (visited-none m)) opens-none)

  pub opening-turn : (w m v left : ℕ) {a v' rest : ℕ} {up : Bool} → Opening m v left → a ≡ lowest w left → a < w → up ≡ part (get_or needs a 0) may
      → v' ≡ bit_or v (given up (2 ^ a)) → rest ≡ without left (2 ^ lowest w left) → Opening m v' rest
  opening-turn w m v left {a} {v'} (p, o) ea l eu ev er =
      subst (λ (r : ℕ). Opening m v' r) (ap (λ (i : ℕ). without left (2 ^ i)) ea ∙ sym er) (
        without-part left (2 ^ a) m p,
        subst (λ (s : ℕ). Opens needs s may v') (sym (visited-more m left a p (lowest-one w left ea l)))
            (subst (λ (x : ℕ). Opens needs (bit_or (without m left) (2 ^ a)) may x) (sym (ev ∙ ap (λ (t : Bool). bit_or v (given t (2 ^ a))) eu)) (opens-more (without m left) v a o)),
      )

  pub opening-end : (m v left : ℕ) → Opening m v left → left ≡ 0 → Opens needs m may v
  opening-end m v left (p, o) e = subst (λ (s : ℕ). Opens needs s may v) (ap (without m) e ∙ visited-all m) o

-- ---- the mutex words of a round layer

-- a copy of them, over 64 words
pub row_copied : (words all : List ℕ) (j : ℕ) → 64 * j + 64 ≤ length words → all ≡ paste (replicate {A = ℕ} 64 0) 0 (take (length words - 64 * j) (drop (64 * j) words)) 64
    → all ≡ row_of words j
unfolding row_of
row_copied words all j h e =
    e ∙ append-nil (take 64 (take (length words - 64 * j) (drop (64 * j) words))) ∙ take-take 64 (length words - 64 * j) (drop (64 * j) words) (omega arith)

-- ---- the question

-- it may be asked of a copy of the mutex words
pub asked-row : (n : ℕ) (gives : List ℕ) (allowed need : ℕ) {copy row : List ℕ} {r : code.Option ℕ} → copy ≡ row → r ≡ found_by (smallest (listed n gives copy) allowed need 0)
    → r ≡ found_by (smallest (listed n gives row) allowed need 0)
asked-row n gives allowed need q e = e ∙ ap (λ (words : List ℕ). found_by (smallest (listed n gives words) allowed need 0)) q

-- the answer is a cover, or there is none
pub asked : (N : Network) (allowed need : ℕ) {r : code.Option ℕ} → allowed < 2 ^ N.articles → r ≡ found_by (smallest N allowed need 0) → Finds N allowed need r
asked N allowed need h e =
    subst (λ (f : code.Option ℕ). Finds N allowed need f) (sym e) (go (smallest N allowed need 0) (smallest-right N allowed need 0 h))
  where
    go : (a : Option ℕ) → Smallest (Cover N allowed need) 0 a → Finds N allowed need (found_by a)
    go (some x) s = s.holds
    go none s = λ y c. s y c zero-le

-- if the test says that there is none, there is none
pub coverable-none : (N : Network) (allowed need : ℕ) → allowed < 2 ^ N.articles → false ≡ is_some (smallest N allowed need 0) → (x : ℕ) → Cover N allowed need x → ⊥
coverable-none N allowed need h e = go (smallest N allowed need 0) (smallest-right N allowed need 0 h) e
  where
    go : (a : Option ℕ) → Smallest (Cover N allowed need) 0 a → false ≡ is_some a → (x : ℕ) → Cover N allowed need x → ⊥
    go (some y) s q x c = absurd (true≢false (sym q))
    go none s q x c = s x c zero-le

pub asked-none : (N : Network) (allowed need : ℕ) {r : code.Option ℕ} → allowed < 2 ^ N.articles → r ≡ found_by (smallest N allowed need 0) → r ≡ code.None
    → (x : ℕ) → Cover N allowed need x → ⊥
asked-none N allowed need h e q = subst (λ (f : code.Option ℕ). Finds N allowed need f) q (asked N allowed need h e)

-- ---- facts that no selection covers

-- one fact less, if it is not of why and none covers the others either
pub fewer-uncovered : (gives row : List ℕ) (v g why e b : ℕ) {less : ℕ} → bit why b ≡ 0 → Uncovered gives row v g why e → less ≡ without e (2 ^ b)
    → ((x : ℕ) → Cover (listed 64 gives row) v less x → ⊥) → Uncovered gives row v g why less
fewer-uncovered gives row v g why e b z u q h = record {
  keeps = subst (λ (s : ℕ). why ⊆ s) (sym q) (in-part why (without e (2 ^ b)) (λ i m. less-in e b i (part_in why e u.keeps i m) (member-differs why i b m z)));
  part = subst (λ (s : ℕ). s ⊆ g) (sym q) (without-part e (2 ^ b) g u.part);
  uncovered = h;
}

-- the facts left to try are outside why
abbrev pub Outside : ℕ → ℕ → Type 0
Outside why left = (i : ℕ) → i ∈ left → bit why i ≡ 0

pub outside-start : (g why : ℕ) {left : ℕ} → left ≡ without g why → Outside why left
outside-start g why e i m = (in_without g why i (subst (λ (s : ℕ). i ∈ s) e m)).1

pub outside-turn : (why left x : ℕ) {rest : ℕ} → Outside why left → rest ≡ without left x → Outside why rest
outside-turn why left x o e i m = o i (in_without left x i (subst (λ (s : ℕ). i ∈ s) e m)).0

pub outside-lowest : (w why left : ℕ) {b : ℕ} → Outside why left → b ≡ lowest w left → b < w → bit why b ≡ 0
outside-lowest w why left {b} o e l = o b (lowest-one w left e l)
