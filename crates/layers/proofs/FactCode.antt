-- A fact layer as the code computes it: by the givers of each fact, those that are mutex with all of them, and what these give. Assumes nothing.
use mathlib.Core.Path.{◌≡◌, refl, sym, ap, ap₂, subst, ◌∙◌}
use mathlib.Core.Logic.{◌⊎◌, inl, inr, ◌≢◌}
use mathlib.Core.Bool.{Bool, true, false, not, ◌&&◌, ◌||◌, false≢true}
use mathlib.Core.List.{List, []}
use Prim.Native.Nat.{ℕ, ◌+◌, ◌-◌, ◌^◌, ◌<◌, min}
use native.Mathlib.Decide.{ℕ_discrete}
use native.Mathlib.Omega.{arith}
use lib.Bits.{bit_and, and_le_r}
use lib.Dec.{eqb}
use lib.ListN.{get_or}
use borrow.Author.Tests.{not-true}
use Rattle.sets.specs.Ranges.{num, every_to}
use Rattle.sets.specs.Sets.{bit, ◌∈◌, ◌⊆◌, member, without, part, meets, full, set_of, gathered, lowest}
use Rattle.sets.proofs.Ranges.{both_true, same_true, num-le, num-both, every-at, at_every}
use Rattle.sets.proofs.Bits.{ext, bit_le, bit-cases, bit-empty, bit-and, bit-without, bit-full, full-below, member-yes, yes-member, num-member, part_in, in-part, part-yes, yes-part, part-full, part-below, member_below, without_in, in_without, without-le, meets-no, no-meets, in-less, less-in}
use Rattle.sets.proofs.Made.{set_below, set-bit, set-in, in-set, gathered-at, gathered-from}
use Rattle.sets.proofs.Lowest.{lowest-below, lowest-member}
use Rattle.jobfile.specs.Meaning.{padded}
use Rattle.sets.specs.Tables.{transposed}
use Rattle.sets.proofs.Tables.{turned-at}
use Rattle.planning.specs.Rounds.{Steps, listed_steps}
use Rattle.planning.specs.Layers.{mutex_with, mutexes, givers, excluded, given_by, facts_over}
use Rattle.layers.specs.Meaning.{layer, roomy}
use Rattle.layers.proofs.SetCode.{member-bit, set-by-bits, bit-less, gathered-meets}

-- ---- the givers of each fact

module _ (w members : ℕ) (gives words : List ℕ) where
  abbrev givers_of : ℕ → ℕ
  givers_of = givers w (listed_steps [] gives []) (layer members words)

  giver-num : (p x : ℕ) → num (member members x && member (get_or gives x 0) p) ≡ min (bit members x) (bit (get_or gives x 0) p)
  giver-num p x = num-both (member members x) (member (get_or gives x 0) p) ∙ ap₂ min (num-member members x) (num-member (get_or gives x 0) p)

  giver-bit : (p x : ℕ) → x < w + w → bit (givers_of p) x ≡ min (bit members x) (bit (get_or gives x 0) p)
  unfolding givers
  giver-bit p x l = set-bit (w + w) (λ x. member members x && member (get_or gives x 0) p) x l ∙ giver-num p x

  givers-below : (p : ℕ) → givers_of p < 2 ^ (w + w)
  unfolding givers
  givers-below p = set_below (w + w) (λ x. member members x && member (get_or gives x 0) p)

  givers-in : (p : ℕ) → givers_of p ⊆ members
  givers-in p = in-part (givers_of p) members (λ x e. omega (arith, giver-bit p x (member_below (givers_of p) (w + w) x (givers-below p) e), bit_le members x))

  -- made from the table turned round
  pub givers-made : (turned : List ℕ) (p : ℕ) → members < 2 ^ (w + w) → p < w + w → turned ≡ transposed (w + w) gives → bit_and (get_or turned p 0) members ≡ givers_of p
  unfolding givers
  givers-made turned p h lp e =
      set-by-bits (w + w) (bit_and (get_or turned p 0) members) (λ x. member members x && member (get_or gives x 0) p)
      (omega (arith, and_le_r (get_or turned p 0) members))
      (λ x l. bit-and (get_or turned p 0) members x ∙ omega (arith, ap (λ (t : List ℕ). bit (get_or t p 0) x) e, turned-at (w + w) gives p x lp l, giver-num p x))

  -- what members of the layer give
  given-meets : (s q : ℕ) → s ⊆ members → q < w + w → member (gathered (w + w) s (λ x. get_or gives x 0)) q ≡ meets s (givers_of q)
  given-meets s q h lq =
      gathered-meets (w + w) s (givers_of q) q (λ x. get_or gives x 0)
      (λ x l e. omega (arith, giver-bit q x l, h x, bit_le members x, bit_le (get_or gives x 0) q))
      (λ x e g. member_below (givers_of q) (w + w) x (givers-below q) g)

-- ---- every member of a set

module _ (n s : ℕ) (test : ℕ → Bool) where
  pub every-member : every_to n (λ x. not (member s x) || test x) ≡ true → (x : ℕ) → x < n → x ∈ s → test x ≡ true
  every-member t x l e = rw (member-yes s x e) at (every-at n (λ x. not (member s x) || test x) t x l)

  pub member-every : ((x : ℕ) → x < n → x ∈ s → test x ≡ true) → every_to n (λ x. not (member s x) || test x) ≡ true
  member-every h = at_every n (λ x. not (member s x) || test x) (λ x l. go x l (member s x) refl)
    where
      go : (x : ℕ) → x < n → (m : Bool) → member s x ≡ m → not m || test x ≡ true
      go x l true e = h x l (yes-member s x e)
      go x l false e = refl

-- ---- those that are in the row of every member

abbrev pub in_all : ℕ → ℕ → (ℕ → ℕ) → ℕ
in_all n s row = set_of n (λ y. every_to n (λ x. not (member s x) || member (row x) y))

module _ (n : ℕ) (row : ℕ → ℕ) where
  -- said by members, both ways
  all_in : (s y : ℕ) → y < n → ((x : ℕ) → x < n → x ∈ s → y ∈ row x) → y ∈ in_all n s row
  all_in s y l h =
      set-in n (λ y. every_to n (λ x. not (member s x) || member (row x) y)) y l
      (member-every n s (λ x. member (row x) y) (λ x k e. member-yes (row x) y (h x k e)))

  in_all_lem : (s y : ℕ) → y ∈ in_all n s row → (y < n) × ((x : ℕ) → x < n → x ∈ s → y ∈ row x)
  in_all_lem s y e =
      let (l, t) = in-set n (λ y. every_to n (λ x. not (member s x) || member (row x) y)) y e in
      (l, λ x k m. yes-member (row x) y (every-member n s (λ x. member (row x) y) t x k m))

  -- a member apart
  all-less : (s a : ℕ) → a < n → a ∈ s → bit_and (row a) (in_all n (without s (2 ^ a)) row) ≡ in_all n s row
  all-less s a l e = ext (bit_and (row a) others) (in_all n s row) (λ y. omega (arith, there y, back y))
    where
      others : ℕ
      others = in_all n (without s (2 ^ a)) row

      there : bit_and (row a) others ⊆ in_all n s row
      there = in-part (bit_and (row a) others) (in_all n s row) (λ y g.
          let here : y ∈ row a = omega (arith, bit-and (row a) others y, bit_le (row a) y) in
          let (k, h) = in_all_lem (without s (2 ^ a)) y (omega (arith, bit-and (row a) others y, bit_le others y)) in
          all_in s y k (λ x j m. go y here h x j m (ℕ_discrete x a)))
        where
          go : (y : ℕ) → y ∈ row a → ((x : ℕ) → x < n → x ∈ without s (2 ^ a) → y ∈ row x) → (x : ℕ) → x < n → x ∈ s → Dec (x ≡ a) → y ∈ row x
          go y here h x j m (yes q) = rw q here
          go y here h x j m (no d) = h x j (less-in s a x m d)

      back : in_all n s row ⊆ bit_and (row a) others
      back = in-part (in_all n s row) (bit_and (row a) others) (λ y g.
          let (k, h) = in_all_lem s y g in
          omega (arith, bit-and (row a) others y, h a l e, all_in (without s (2 ^ a)) y k (λ x j m. h x j (in-less s a x m).0)))

  -- A loop that visits the members of s from the lowest up: `all` is what the rows of those visited share. It starts from all numbers,
  pub all_start : (s : ℕ) → bit_and (full n) (in_all n s row) ≡ in_all n s row
  all_start s = ext (bit_and (full n) (in_all n s row)) (in_all n s row)
      (λ y. omega (arith, bit-and (full n) (in_all n s row) y, part-full n (in_all n s row) (set_below n (λ y. every_to n (λ x. not (member s x) || member (row x) y))) y))

  -- takes the lowest member a, with r the rest,
  pub all-visit : (all s a r : ℕ) → s < 2 ^ n → s ≢ 0 → a ≡ lowest n s → r ≡ without s (2 ^ lowest n s)
      → bit_and (bit_and all (row a)) (in_all n r row) ≡ bit_and all (in_all n s row)
  all-visit all s a r h d ea er =
      ap₂ (λ (x y : ℕ). bit_and (bit_and all (row x)) (in_all n y row)) ea er
      ∙ ext (bit_and (bit_and all (row low)) others) (bit_and all (bit_and (row low) others))
      (λ y. omega (arith, bit-and (bit_and all (row low)) others y, bit-and all (row low) y, bit-and all (bit_and (row low) others) y, bit-and (row low) others y))
      ∙ ap (bit_and all) (all-less s low (lowest-below n s h d) (lowest-member n s h d))
    where
      low : ℕ
      low = lowest n s

      others : ℕ
      others = in_all n (without s (2 ^ low)) row

  -- and ends when none is left
  pub all_end : (all s : ℕ) → all < 2 ^ n → s ≡ 0 → bit_and all (in_all n s row) ≡ all
  all_end all s h e =
      ap (λ (t : ℕ). bit_and all (in_all n t row)) e
      ∙ ext (bit_and all (in_all n 0 row)) all (λ y. omega (arith, bit-and all (in_all n 0 row) y, whole y))
    where
      whole : all ⊆ in_all n 0 row
      whole = in-part all (in_all n 0 row) (λ y m. all_in 0 y (member_below all n y h m) (λ x l k. absurd (omega (arith, bit-empty x))))

  -- a set lies in all these rows exactly if it lies in what they share
  pub all-part : (s g : ℕ) → g < 2 ^ n → part g (in_all n s row) ≡ every_to n (λ x. not (member s x) || part g (row x))
  all-part s g h = same_true (part g (in_all n s row)) (every_to n (λ x. not (member s x) || part g (row x))) each shared
    where
      each : part g (in_all n s row) ≡ true → every_to n (λ x. not (member s x) || part g (row x)) ≡ true
      each t = member-every n s (λ x. part g (row x)) (λ x l e.
          part-yes g (row x) (in-part g (row x) (λ y m. (in_all_lem s y (part_in g (in_all n s row) (yes-part g (in_all n s row) t) y m)).1 x l e)))

      shared : every_to n (λ x. not (member s x) || part g (row x)) ≡ true → part g (in_all n s row) ≡ true
      shared t = part-yes g (in_all n s row) (in-part g (in_all n s row) (λ y m.
          all_in s y (member_below g n y h m) (λ x l e. part_in g (row x) (yes-part g (row x) (every-member n s (λ x. part g (row x)) t x l e)) y m)))

-- ---- the facts that one is mutex with

-- what a leaves of m shares nothing with t exactly if all of t in m lies in a
outside : (m a t : ℕ) → not (meets (without m a) t) ≡ part (bit_and t m) a
outside m a t = same_true (not (meets (without m a) t)) (part (bit_and t m) a) there back
  where
    there : not (meets (without m a) t) ≡ true → part (bit_and t m) a ≡ true
    there z = part-yes (bit_and t m) a (in-part (bit_and t m) a (λ i e. go i e (bit-cases a i)))
      where
        go : (i : ℕ) → i ∈ bit_and t m → (bit a i ≡ 0) ⊎ (i ∈ a) → i ∈ a
        go i e (inl o) =
            absurd (no-meets (without m a) t (not-true (meets (without m a) t) z) i
            (without_in m a i (omega (arith, bit-and t m i, bit_le m i)) o) (omega (arith, bit-and t m i, bit_le t i)))
        go i e (inr k) = k

    back : part (bit_and t m) a ≡ true → not (meets (without m a) t) ≡ true
    back y = ap not (meets-no (without m a) t (λ i e k.
        let (g, o) = in_without m a i e in
        omega (arith, bit-and t m i, yes-part (bit_and t m) a y i)))

-- a bit of the row: a fact, another one, whose givers are all against p, and none of them gives both. Such a fact is near.
fact-bit : (f e n s g : Bool) → (f ≡ true → g ≡ true → n ≡ true) → min (min (min (num f - num e) (num n)) 1 - num s) (num g) ≡ num (f && (not e && (g && not s)))
fact-bit false e n s g h = omega arith
fact-bit true true n s g h = omega arith
fact-bit true false n s false h = omega arith
fact-bit true false n true true h = omega (arith, num-le n)
fact-bit true false true false true h = omega arith
fact-bit true false false false true h = absurd (false≢true (h refl refl))

-- The row of p as the code makes it. Near are the facts that vertices against p give, shared those that givers of p give, and likely the other
-- facts that are near and not shared. Of these the row has those that no free vertex gives: no member that is not against p.
module _ (w members facts p : ℕ) (gives words turned : List ℕ) (fits : members < 2 ^ (w + w)) (around : turned ≡ transposed (w + w) gives)
    (known : facts ≡ gathered (w + w) members (λ x. get_or gives x 0)) where
  abbrev G : ℕ → ℕ
  G = givers_of w members gives words

  -- a fact whose givers are all in a set is given by that set
  near-given : (a q : ℕ) → q < w + w → member facts q ≡ true → part (G q) a ≡ true → member (gathered (w + w) a (λ x. get_or gives x 0)) q ≡ true
  near-given a q l f y =
      let (x, k, e, m) = gathered-from (w + w) (λ x. get_or gives x 0) members q (subst (λ (s : ℕ). q ∈ s) known (yes-member facts q f)) in
      let here : x ∈ a = part_in (G q) a (yes-part (G q) a y) x (omega (arith, giver-bit w members gives words q x k)) in
      member-yes (gathered (w + w) a (λ x. get_or gives x 0)) q (part_in (get_or gives x 0) (gathered (w + w) a (λ x. get_or gives x 0)) (gathered-at (w + w) (λ x. get_or gives x 0) a x k here) q m)

  pub row_made : (others against near shared likely free r : ℕ) → p < w + w
      → others ≡ without facts (2 ^ p)
      → against ≡ in_all (w + w) (bit_and (get_or turned p 0) members) (λ x. get_or words x 0)
      → near ≡ gathered (w + w) against (λ x. get_or gives x 0)
      → shared ≡ gathered (w + w) (bit_and (get_or turned p 0) members) (λ x. get_or gives x 0)
      → likely ≡ without (bit_and (bit_and others near) (full w)) shared
      → free ≡ without members against
      → r ≡ set_of (w + w) (λ q. member likely q && not (meets free (get_or turned q 0)))
      → r ≡ set_of w (mutex_with facts (excluded w (listed_steps [] gives []) (layer members words)) p)
  unfolding excluded
  row_made others against near shared likely free r lp eo ea en es el ef er =
      er ∙ set-by-bits w made (mutex_with facts (excluded w (listed_steps [] gives []) (layer members words)) p) below each
    where
      test : ℕ → Bool
      test q = member likely q && not (meets free (get_or turned q 0))

      made : ℕ
      made = set_of (w + w) test

      own : bit_and (get_or turned p 0) members ≡ G p
      own = givers-made w members gives words turned p fits lp around

      closed : ℕ → Bool
      closed q = every_to (w + w) (λ x. not (member (G p) x) || part (G q) (get_or words x 0))

      below : made < 2 ^ w
      below = part-below w made likely
          (in-part made likely (λ q e. yes-member likely q (both_true (member likely q) (not (meets free (get_or turned q 0))) (in-set (w + w) test q e).1).0))
          (omega (arith, without-le (bit_and (bit_and others near) (full w)) shared, and_le_r (bit_and others near) (full w), full-below w))

      -- the givers of q are all against p
      against-all : (q : ℕ) → q < w → part (G q) against ≡ closed q
      against-all q l = ap (part (G q)) (ea ∙ ap (λ (s : ℕ). in_all (w + w) s (λ x. get_or words x 0)) own) ∙ all-part (w + w) (λ x. get_or words x 0) (G p) (G q) (givers-below w members gives words q)

      unfree : (q : ℕ) → q < w → not (meets free (get_or turned q 0)) ≡ closed q
      unfree q l =
          ap (λ (s : ℕ). not (meets s (get_or turned q 0))) ef ∙ outside members against (get_or turned q 0)
          ∙ ap (λ (s : ℕ). part s against) (givers-made w members gives words turned q fits (omega arith) around) ∙ against-all q l

      both : (q : ℕ) → q < w → member shared q ≡ meets (G p) (G q)
      both q l =
          ap (λ (s : ℕ). member s q) (es ∙ ap (λ (s : ℕ). gathered (w + w) s (λ x. get_or gives x 0)) own)
          ∙ given-meets w members gives words (G p) q (givers-in w members gives words p) (omega arith)

      likely-bit : (q : ℕ) → q < w → bit likely q ≡ min (min (num (member facts q) - num (eqb p q)) (num (member near q))) 1 - num (meets (G p) (G q))
      likely-bit q l =
          ap (λ (s : ℕ). bit s q) el ∙ bit-without (bit_and (bit_and others near) (full w)) shared q
          ∙ ap₂ ◌-◌
          (bit-and (bit_and others near) (full w) q
          ∙ ap₂ min (bit-and others near q ∙ ap₂ min (ap (λ (s : ℕ). bit s q) eo ∙ bit-less facts p q) (sym (num-member near q))) (bit-full w q l))
          (member-bit shared q (both q l))

      each : (q : ℕ) → q < w → bit made q ≡ num (mutex_with facts (excluded w (listed_steps [] gives []) (layer members words)) p q)
      each q l =
          set-bit (w + w) test q (omega arith)
          ∙ num-both (member likely q) (not (meets free (get_or turned q 0)))
          ∙ ap₂ min (num-member likely q ∙ likely-bit q l) (ap num (unfree q l))
          ∙ fact-bit (member facts q) (eqb p q) (member near q) (meets (G p) (G q)) (closed q)
          (λ f y. ap (λ (s : ℕ). member s q) en ∙ near-given against q (omega arith) f (against-all q l ∙ y))

-- ---- the fact layer

-- what the code made is the layer
pub facts-made : (S : Steps) (members made : ℕ) (ws words : List ℕ) → made ≡ gathered 64 members S.gives
    → words ≡ padded 64 (mutexes 32 made (excluded 32 S (layer members ws))) → layer made words ≡ roomy 64 (facts_over 32 S (layer members ws))
unfolding facts_over given_by
facts-made S members made ws words eg ew =
    ap₂ layer eg (ew ∙ ap (λ (m : ℕ). padded 64 (mutexes 32 m (excluded 32 S (layer members ws)))) eg)
