-- The words of the layers: between which members they lie, that they are symmetric, and that nothing is mutex with itself. Assumes nothing.
use mathlib.Core.Path.{◌≡◌, refl, sym, ap, ap₂, ◌∙◌}
use mathlib.Core.Logic.{◌⊎◌, inl, inr, ◌≢◌}
use mathlib.Core.Bool.{Bool, true, false, not, ◌&&◌, ◌||◌, or_comm}
use Prim.Native.Nat.{ℕ, zero, suc, ◌+◌, ◌^◌, ◌≤◌, ◌<◌}
use native.Mathlib.Decide.{dec_lt}
use native.Mathlib.Omega.{arith}
use lib.Bits.{bit_or}
use lib.Dec.{eqb}
use lib.ListN.{length, get_or}
use lib.Pow.{pow_pos}
use borrow.Author.Tests.{ne_eqb, eqb-false, not-true}
use Rattle.sets.specs.Ranges.{given, every_to}
use Rattle.sets.specs.Sets.{bit, ◌∈◌, member, part, meets, set_of, gathered}
use Rattle.sets.proofs.Ranges.{both_true, true-both, neither, same_true, same_false, given-le, every-at, at_every, list_length, list_at, list-past}
use Rattle.sets.proofs.Bits.{bit-cases, bit-empty, member-num, not_in, no_member, member_below, member-yes, yes-member, member-no, where-in, in-where, part_in, in-part, part-yes, yes-part, meets-no, no-meets}
use Rattle.sets.proofs.Made.{set_below, set-bit, in-set, gathered-at, gathered-from}
use Rattle.planning.specs.Rounds.{Steps, Fitting, disturb}
use Rattle.planning.specs.Layers.{Layer, mutex_with, mutex_word, mutexes, vertices, opposed, rivals, standing, round_over, givers, excluded, given_by, facts_over, fact_layer}

-- ---- the words of a layer

module _ (n m : ℕ) (test : ℕ → ℕ → Bool) where
  word-here : (p : ℕ) → p < n → get_or (mutexes n m test) p 0 ≡ mutex_word n m test p
  unfolding mutexes
  word-here p l = list_at n (mutex_word n m test) 0 p l

  word-past : (p : ℕ) → n ≤ p → get_or (mutexes n m test) p 0 ≡ 0
  unfolding mutexes
  word-past p l = list-past n (mutex_word n m test) 0 p l

  pub words-length : length (mutexes n m test) ≡ n
  unfolding mutexes
  words-length = list_length n (mutex_word n m test)

  pub words-at : (p q : ℕ) → p < n → q < n → member (get_or (mutexes n m test) p 0) q ≡ (member m p && (member m q && (not (eqb p q) && test p q)))
  words-at p q lp lq = ap (λ (x : ℕ). member x q) (word-here p lp) ∙ go (member m p)
    where
      go : (b : Bool) → member (given b (set_of n (mutex_with m test p))) q ≡ (b && mutex_with m test p q)
      go true = member-num (set_of n (mutex_with m test p)) q (mutex_with m test p q) (set-bit n (mutex_with m test p) q lq)
      go false = member-no 0 q (bit-empty q)

  -- of two members the test alone tells
  pub words-test : (p q : ℕ) → p < n → q < n → p ∈ m → q ∈ m → p ≢ q → member (get_or (mutexes n m test) p 0) q ≡ test p q
  words-test p q lp lq a b d = words-at p q lp lq ∙ rw (member-yes m p a, member-yes m q b, ne_eqb p q d)

  -- also past the end
  pub words-below : (p : ℕ) → get_or (mutexes n m test) p 0 < 2 ^ n
  words-below p = go (dec_lt p n)
    where
      go : Dec (p < n) → get_or (mutexes n m test) p 0 < 2 ^ n
      go (yes l) = omega (arith, word-here p l, given-le (member m p) (set_of n (mutex_with m test p)), set_below n (mutex_with m test p))
      go (no l) = omega (arith, word-past p (omega arith), pow_pos n)

  -- what it says that q is in p's word, and when it is
  pub in_words : (p q : ℕ) → q ∈ get_or (mutexes n m test) p 0 → (p < n) × (q < n) × (p ∈ m) × (q ∈ m) × (p ≢ q) × (test p q ≡ true)
  in_words p q e = go (dec_lt p n)
    where
      go : Dec (p < n) → (p < n) × (q < n) × (p ∈ m) × (q ∈ m) × (p ≢ q) × (test p q ≡ true)
      go (yes lp) =
          let lq = member_below (get_or (mutexes n m test) p 0) n q (words-below p) e in
          let (a, t) = both_true (member m p) (mutex_with m test p q) (sym (words-at p q lp lq) ∙ member-yes (get_or (mutexes n m test) p 0) q e) in
          let (b, u) = both_true (member m q) (not (eqb p q) && test p q) t in
          let (d, v) = both_true (not (eqb p q)) (test p q) u in
          (lp, lq, yes-member m p a, yes-member m q b, eqb-false p q (not-true (eqb p q) d), v)
      go (no l) = absurd (omega (arith, ap (λ (x : ℕ). bit x q) (word-past p (omega arith)), bit-empty q))

  pub words-in : (p q : ℕ) → p < n → q < n → p ∈ m → q ∈ m → p ≢ q → test p q ≡ true → q ∈ get_or (mutexes n m test) p 0
  words-in p q lp lq a b d t = yes-member (get_or (mutexes n m test) p 0) q (words-test p q lp lq a b d ∙ t)

  pub words-absent : (p : ℕ) → bit m p ≡ 0 → get_or (mutexes n m test) p 0 ≡ 0
  words-absent p z = no_member (get_or (mutexes n m test) p 0) (λ q e. omega (arith, (in_words p q e).2))

  pub words-self : (p : ℕ) → bit (get_or (mutexes n m test) p 0) p ≡ 0
  words-self p = not_in (get_or (mutexes n m test) p 0) p (λ e. (in_words p p e).4 refl)

  pub words-turned : ((p q : ℕ) → test p q ≡ test q p) → (p q : ℕ) → bit (get_or (mutexes n m test) p 0) q ≡ bit (get_or (mutexes n m test) q 0) p
  words-turned h p q = omega (arith, half p q (bit-cases (get_or (mutexes n m test) p 0) q), half q p (bit-cases (get_or (mutexes n m test) q 0) p))
    where
      half : (p q : ℕ) → (bit (get_or (mutexes n m test) p 0) q ≡ 0) ⊎ (q ∈ get_or (mutexes n m test) p 0) → bit (get_or (mutexes n m test) p 0) q ≤ bit (get_or (mutexes n m test) q 0) p
      half p q (inl z) = omega arith
      half p q (inr e) =
          let (lp, lq, a, b, d, t) = in_words p q e in
          omega (arith, words-in q p lq lp b a (λ s. d (sym s)) (h q p ∙ t))

-- ---- symmetric words

-- to be mutex counts both ways
abbrev pub Mutual : Layer → Type 0
Mutual L = (p q : ℕ) → bit (get_or L.words p 0) q ≡ bit (get_or L.words q 0) p

pub disturb-turned : (S : Steps) (a b : ℕ) → disturb S a b ≡ disturb S b a
unfolding disturb
disturb-turned S a b = or_comm (meets (S.takes a) (bit_or (S.needs b) (S.gives b))) (meets (S.takes b) (bit_or (S.needs a) (S.gives a)))

-- neither of two steps that do not disturb each other takes what the other needs or gives
pub undisturbed : (S : Steps) (a b : ℕ) → disturb S a b ≡ false → meets (S.takes a) (bit_or (S.needs b) (S.gives b)) ≡ false
unfolding disturb
undisturbed S a b e = (neither (meets (S.takes a) (bit_or (S.needs b) (S.gives b))) (meets (S.takes b) (bit_or (S.needs a) (S.gives a))) e).0

module _ (w : ℕ) (F : Fitting) where
  -- a member of s is mutex with one of t, or the other way round
  opposed-turned : (L : Layer) → ((p : ℕ) → get_or L.words p 0 < 2 ^ w) → Mutual L → (s t : ℕ) → meets (opposed w L s) t ≡ meets (opposed w L t) s
  unfolding opposed
  opposed-turned L below turned s t = same_false (meets (opposed w L s) t) (meets (opposed w L t) s) (half s t) (half t s)
    where
      f : ℕ → ℕ
      f i = get_or L.words i 0

      half : (s t : ℕ) → meets (opposed w L s) t ≡ false → meets (opposed w L t) s ≡ false
      half s t e =
          meets-no (gathered w t f) s
          (λ i a b.
          let (j, l, c, d) = gathered-from w f t i a in
          no-meets (gathered w s f) t e j (part_in (f i) (gathered w s f) (gathered-at w f s i (member_below (f j) w i (below j) d) b) j (turned i j ∙ d)) c)

  pub rivals-turned : (L : Layer) → ((p : ℕ) → get_or L.words p 0 < 2 ^ w) → Mutual L → (x y : ℕ) → rivals w (vertices w F) L x y ≡ rivals w (vertices w F) L y x
  unfolding rivals
  rivals-turned L below turned x y =
      ap₂ ◌||◌ (disturb-turned (vertices w F) x y) (opposed-turned L below turned ((vertices w F).needs x) ((vertices w F).needs y))

  abbrev against : Layer → ℕ → ℕ → ℕ → Bool
  against R p q x = not (member (givers w (vertices w F) R p) x) || part (givers w (vertices w F) R q) (get_or R.words x 0)

  -- what it says that p and q are mutex, and when they are
  pub in-excluded : (R : Layer) (p q : ℕ) → excluded w (vertices w F) R p q ≡ true
      → ((x y : ℕ) → x ∈ givers w (vertices w F) R p → y ∈ givers w (vertices w F) R q → y ∈ get_or R.words x 0) × ((x : ℕ) → x ∈ givers w (vertices w F) R p → x ∈ givers w (vertices w F) R q → ⊥)
  unfolding excluded givers
  in-excluded R p q e =
      let (a, b) = both_true (every_to (w + w) (against R p q)) (not (meets (givers w (vertices w F) R p) (givers w (vertices w F) R q))) e in (
        λ x y gx gy.
            let l = (in-set (w + w) (λ x. member R.members x && member ((vertices w F).gives x) p) x gx).0 in
            part_in (givers w (vertices w F) R q) (get_or R.words x 0) (yes-part (givers w (vertices w F) R q) (get_or R.words x 0)
            (in-where (givers w (vertices w F) R p) x (part (givers w (vertices w F) R q) (get_or R.words x 0)) gx (every-at (w + w) (against R p q) a x l))) y gy,
        no-meets (givers w (vertices w F) R p) (givers w (vertices w F) R q) (not-true (meets (givers w (vertices w F) R p) (givers w (vertices w F) R q)) b),
      )

  pub excluded-in : (R : Layer) (p q : ℕ) → ((x y : ℕ) → x ∈ givers w (vertices w F) R p → y ∈ givers w (vertices w F) R q → y ∈ get_or R.words x 0)
      → ((x : ℕ) → x ∈ givers w (vertices w F) R p → x ∈ givers w (vertices w F) R q → ⊥) → excluded w (vertices w F) R p q ≡ true
  unfolding excluded
  excluded-in R p q h d =
      true-both (every_to (w + w) (against R p q)) (not (meets (givers w (vertices w F) R p) (givers w (vertices w F) R q)))
      (at_every (w + w) (against R p q) (λ x l. where-in (givers w (vertices w F) R p) x (part (givers w (vertices w F) R q) (get_or R.words x 0))
      (λ gx. part-yes (givers w (vertices w F) R q) (get_or R.words x 0) (in-part (givers w (vertices w F) R q) (get_or R.words x 0) (λ y gy. h x y gx gy)))))
      (ap not (meets-no (givers w (vertices w F) R p) (givers w (vertices w F) R q) d))

  pub excluded-turned : (R : Layer) → Mutual R → (p q : ℕ) → excluded w (vertices w F) R p q ≡ excluded w (vertices w F) R q p
  excluded-turned R turned p q = same_true (excluded w (vertices w F) R p q) (excluded w (vertices w F) R q p) (half p q) (half q p)
    where
      half : (p q : ℕ) → excluded w (vertices w F) R p q ≡ true → excluded w (vertices w F) R q p ≡ true
      half p q e = let (h, d) = in-excluded R p q e in excluded-in R q p (λ x y gx gy. turned x y ∙ h y x gy gx) (λ x gx gy. d x gy gx)

  -- ---- the words of every layer

  pub start_word : (p : ℕ) → get_or (fact_layer w F 0).words p 0 ≡ 0
  unfolding fact_layer
  start_word p = go (dec_lt p w)
    where
      go : Dec (p < w) → get_or (fact_layer w F 0).words p 0 ≡ 0
      go (yes l) = list_at w (λ p. 0) 0 p l
      go (no l) = list-past w (λ p. 0) 0 p (omega arith)

  pub facts-words : (k p : ℕ) → get_or (fact_layer w F k).words p 0 < 2 ^ w
  unfolding fact_layer facts_over
  facts-words zero p = omega (arith, start_word p, pow_pos w)
  facts-words (suc k) p = words-below w (given_by w (vertices w F) (round_over w (vertices w F) (w + F.count) (fact_layer w F k))) (excluded w (vertices w F) (round_over w (vertices w F) (w + F.count) (fact_layer w F k))) p

  pub rounds-words : (L : Layer) (p : ℕ) → get_or (round_over w (vertices w F) (w + F.count) L).words p 0 < 2 ^ (w + w)
  unfolding round_over
  rounds-words L p = words-below (w + w) (standing w (vertices w F) (w + F.count) L) (rivals w (vertices w F) L) p

  -- a round layer over symmetric words has symmetric words
  pub over-turned : (L : Layer) → ((p : ℕ) → get_or L.words p 0 < 2 ^ w) → Mutual L → Mutual (round_over w (vertices w F) (w + F.count) L)
  unfolding round_over
  over-turned L below turned = words-turned (w + w) (standing w (vertices w F) (w + F.count) L) (rivals w (vertices w F) L) (rivals-turned L below turned)

  pub facts-turned : (k : ℕ) → Mutual (fact_layer w F k)
  unfolding fact_layer facts_over
  facts-turned zero p q = omega (arith, ap (λ (x : ℕ). bit x q) (start_word p), ap (λ (x : ℕ). bit x p) (start_word q), bit-empty p, bit-empty q)
  facts-turned (suc k) p q =
      words-turned w (given_by w (vertices w F) (round_over w (vertices w F) (w + F.count) (fact_layer w F k))) (excluded w (vertices w F) (round_over w (vertices w F) (w + F.count) (fact_layer w F k)))
      (excluded-turned (round_over w (vertices w F) (w + F.count) (fact_layer w F k)) (over-turned (fact_layer w F k) (facts-words k) (facts-turned k))) p q

  pub rounds-turned : (k : ℕ) → Mutual (round_over w (vertices w F) (w + F.count) (fact_layer w F k))
  rounds-turned k = over-turned (fact_layer w F k) (facts-words k) (facts-turned k)

  pub facts-self : (k p : ℕ) → bit (get_or (fact_layer w F k).words p 0) p ≡ 0
  unfolding fact_layer facts_over
  facts-self zero p = ap (λ (x : ℕ). bit x p) (start_word p) ∙ bit-empty p
  facts-self (suc k) p = words-self w (given_by w (vertices w F) (round_over w (vertices w F) (w + F.count) (fact_layer w F k))) (excluded w (vertices w F) (round_over w (vertices w F) (w + F.count) (fact_layer w F k))) p

  pub rounds-self : (L : Layer) (p : ℕ) → bit (get_or (round_over w (vertices w F) (w + F.count) L).words p 0) p ≡ 0
  unfolding round_over
  rounds-self L p = words-self (w + w) (standing w (vertices w F) (w + F.count) L) (rivals w (vertices w F) L) p
