-- The laws of working back: parts of a goal, the words of a plan, and the boxes that the needs of a selection lie in. Assumes nothing.
use mathlib.Core.Path.{◌≡◌, sym, ap, subst, ◌∙◌}
use mathlib.Core.Logic.{◌⊎◌, inl, inr, ◌≢◌}
use mathlib.Core.Bool.{Bool, true, ◌&&◌}
use mathlib.Core.List.{List}
use Prim.Native.Nat.{ℕ, zero, suc, ◌+◌, ◌-◌, ◌*◌, ◌/◌, ◌^◌, ◌≤◌, ◌<◌, max}
use native.Mathlib.Nat.{le_trans}
use native.Mathlib.Omega.{arith}
use Rattle.std.specs.Prelude as code
use lib.Bits.{bit_or}
use lib.Dec.{eqb}
use lib.ListN.{length, get_or, set}
use lib.Seq.{get_or-set_same, get_or-set_other}
use Rattle.sets.specs.Sets.{bit, ◌∈◌, ◌⊆◌, without}
use Rattle.sets.proofs.Bits.{bit_le, bit-cases, bit-empty, bit-or, bit-without, member_below, one-alone, part-refl, part_in, in-part, part-below, without-part, in_without, less-in, more_same, member-differs}
use Rattle.sets.proofs.Made.{gathered-at, gathered-from}
use Rattle.network.specs.Network.{Network, listed, Cover}
use Rattle.network.specs.Tables.{Tabled}
use Rattle.choice.specs.Choice.{smallest}
use Rattle.choice.specs.Search.{Finds}
use Rattle.choice.specs.Meaning.{found_by}
use Rattle.choice.proofs.CoverLaws.{widened}
use Rattle.supports.specs.Supports.{row_of, Opens, Uncovered}
use Rattle.supports.proofs.LayerLaws.{asked}
use Rattle.extraction.specs.Extraction.{all_facts, Graph, Picks, needs_of, Back, Held, Fine, Nogoods, StoredIf, Blocked, Lacking, Refutes}
use Rattle.extraction.proofs.NogoodLaws.{stored-if, whole-box}

-- ---- sets

one-part : (f s : ℕ) → f ∈ s → 2 ^ f ⊆ s
one-part f s m = in-part (2 ^ f) s (λ i e. subst (λ (j : ℕ). j ∈ s) (sym (one-alone f i e)) m)

-- what lacks f and lies in a lies in a less f
lacking-part : (s a f : ℕ) → bit s f ≡ 0 → s ⊆ a → s ⊆ without a (2 ^ f)
lacking-part s a f z h = in-part s (without a (2 ^ f)) (λ i m. less-in a f i (part_in s a h i m) (member-differs s i f m z))

-- a cover of g covers a part of g
pub cover-part : (N : Network) {allowed x : ℕ} (g h : ℕ) → h ⊆ g → Cover N allowed g x → Cover N allowed h x
cover-part N g h p c = record { within = c.within; free = c.free; covers = λ i. le_trans (p i) (c.covers i) }

-- a selection that a question is answered with covers the facts
pub asked-set : (N : Network) (allowed need : ℕ) {r : code.Option ℕ} {x : ℕ} → allowed < 2 ^ N.articles → r ≡ found_by (smallest N allowed need 0) → r ≡ code.Some x
    → Cover N allowed need x
asked-set N allowed need h e q = subst (λ (f : code.Option ℕ). Finds N allowed need f) q (asked N allowed need h e)

module _ (T : Graph) where
  -- the network of round layer j + 1
  abbrev layer : ℕ → Network
  layer j = listed 64 T.gives (row_of T.words j)

  pub back-part : (k g h : ℕ) → h ⊆ g → Back T k g → Back T k h
  unfolding Back
  back-part zero g h p b = λ i. le_trans (p i) (b i)
  back-part (suc j) g h p (x, c, b) = (x, cover-part (layer j) g h p c, b)

  -- ---- the words of a plan

  -- a word from k on is not one of them
  held-set : (k g : ℕ) (q : List ℕ) (i w : ℕ) → k ≤ i → Held T k g q → Held T k g (set q i w)
  unfolding Held
  held-set zero g q i w l h = h
  held-set (suc j) g q i w l (x, c, e, h) =
      (x, c, get_or-set_other q i j w 0 (λ z. let y : j ≡ i = z in let f : ⊥ = omega arith in f) ∙ e, held-set j (needs_of T x) q i w (omega arith) h)

  pub held_more : (k g n x w : ℕ) (q : List ℕ) → k ≢ 0 → k - 1 < length q → Picks T (k - 1) g x → n ≡ needs_of T x → w ≡ x / 2 ^ 32 → Held T (k - 1) n q
      → Held T k g (set q (k - 1) w)
  unfolding Held
  held_more k g n x w q d l c en ew h =
      subst (λ (r : ℕ). Held T r g (set q (k - 1) w)) (let e : suc (k - 1) ≡ k = omega arith in e)
      (x, c, get_or-set_same q (k - 1) w 0 l ∙ ew, held-set (k - 1) (needs_of T x) q (k - 1) w (omega arith) (subst (λ (y : ℕ). Held T (k - 1) y q) en h))

  -- ---- no round left

  pub bottom-held : (k g lack : ℕ) (q : List ℕ) → k ≡ 0 → lack ≡ without g T.start → lack ≡ 0 → Held T k g q
  unfolding Held
  bottom-held k g lack q ek el z = subst (λ (r : ℕ). Held T r g q) (sym ek) (without-part g T.start (sym el ∙ z))

  -- one fact of the goal that the start lacks is enough
  pub bottom-lacks : (k g may must why lack f e : ℕ) → k ≡ 0 → lack ≡ without g T.start → f ∈ lack → why ⊆ g → e ≡ bit_or why (2 ^ f) → Refutes T k g may must why e
  bottom-lacks k g may must why lack f e ek el m h ee =
      subst (λ (r : ℕ). Refutes T r g may must why e) (sym ek) (subst (λ (y : ℕ). Lacking T g why y) (sym ee) (record {
        keeps = λ i. omega (arith, bit-or why (2 ^ f) i);
        part = λ i. omega (arith, bit-or why (2 ^ f) i, h i, one-part f g out.0 i);
        lacks = λ s. omega (arith, s f, more_same why f, out.1);
      }))
    where
      out : (f ∈ g) × (bit T.start f ≡ 0)
      out = in_without g T.start f (subst (λ (y : ℕ). f ∈ y) el m)

  -- ---- a round is left

  pub blocked-refutes : (k g may must why e : ℕ) → k ≢ 0 → Blocked T (k - 1) g may must why e → Refutes T k g may must why e
  blocked-refutes k g may must why e d b = subst (λ (r : ℕ). Refutes T r g may must why e) (let q : suc (k - 1) ≡ k = omega arith in q) b

  pub refutes-blocked : (k g may must why e : ℕ) → k ≢ 0 → Refutes T k g may must why e → Blocked T (k - 1) g may must why e
  refutes-blocked k g may must why e d b = subst (λ (r : ℕ). Refutes T r g may must why e) (let q : k ≡ suc (k - 1) = omega arith in q) b

  -- facts that are refuted, in any box
  pub known-refutes : (k g may must why c : ℕ) → k ≢ 0 → c ⊆ g → (Back T k c → ⊥) → why ⊆ g → Refutes T k g may must why (bit_or c why)
  unfolding Back
  known-refutes k g may must why c d hc none hw =
      blocked-refutes k g may must why (bit_or c why) d (record {
        keeps = λ i. omega (arith, bit-or c why i);
        part = λ i. omega (arith, bit-or c why i, hc i, hw i);
        blocked = λ x p _ _ b. none (subst (λ (r : ℕ). Back T r c) (let q : suc (k - 1) ≡ k = omega arith in q)
            (x, cover-part (layer (k - 1)) (bit_or c why) c (λ i. omega (arith, bit-or c why i)) p, b));
      })

  -- ---- the vertices whose needs lie in the box

  module _ (j may v : ℕ) (o : Opens T.needs (get_or T.members j 0) may v) where
    pub open-picks : (g x : ℕ) → Cover (layer j) v g x → Picks T j g x
    open-picks g x c = widened (layer j) o.within c

    pub open-needs : (g x : ℕ) → Cover (layer j) v g x → needs_of T x ⊆ may
    open-needs g x c =
        in-part (needs_of T x) may
        (λ i m. let (u, l, mu, mi) = gathered-from 64 (λ v. get_or T.needs v 0) x i m in
        part_in (get_or T.needs u 0) may (o.inside u (part_in x v c.within u mu)) i mi)

    -- a selection in the box uses only them, so that facts that these do not cover are blocked
    pub leaf : (g must why e : ℕ) → get_or T.members j 0 < 2 ^ 64 → Uncovered T.gives (row_of T.words j) v g why e → Blocked T j g may must why e
    leaf g must why e h u = record {
      keeps = u.keeps;
      part = u.part;
      blocked = λ x p _ inside _. u.uncovered x (record { within = in-part x v (uses x p inside); free = p.free; covers = p.covers });
    }
      where
        uses : (x : ℕ) → Picks T j e x → needs_of T x ⊆ may → (i : ℕ) → i ∈ x → i ∈ v
        uses x p inside i m =
            let n = part_in x (get_or T.members j 0) p.within i m in
            o.whole i n (λ f. le_trans (gathered-at 64 (λ v. get_or T.needs v 0) x i (member_below (get_or T.members j 0) 64 i h n) m f) (inside f))

  -- ---- box after box

  -- c, needs of a selection, is refuted. Of its facts those of `rest` are still to be left out of the box, one at a time, and those of `kept`
  -- have been: whatever selection for `reason` in the box can be worked back needs all of them.
  pub record Turning (j g may must why c rest kept reason : ℕ) : Type 0 where
    pub keeps : why ⊆ reason
    pub part : reason ⊆ g
    pub left : rest ⊆ may
    pub rise : (i : ℕ) → bit c i ≤ max (bit kept i) (bit rest i)
    pub done : (x : ℕ) → Picks T j reason x → must ⊆ needs_of T x → needs_of T x ⊆ may → Back T j (needs_of T x) → kept ⊆ needs_of T x

  pub turning-start : (j g may must why c n rest : ℕ) → why ⊆ g → c ⊆ n → n ⊆ may → rest ≡ without c must → Turning j g may must why c rest must why
  turning-start j g may must why c n rest hw hc hn e = subst (λ (r : ℕ). Turning j g may must why c r must why) (sym e) (record {
    keeps = part-refl why;
    part = hw;
    left = λ i. omega (arith, bit-without c must i, hc i, hn i);
    rise = λ i. omega (arith, bit-without c must i, bit_le c i);
    done = λ x p h _ _. h;
  })

  -- a selection that lacks f lies in the box less f, and is blocked there
  pub turning-more : (j g may must why c rest kept reason f less e kept' rest' : ℕ) → Turning j g may must why c rest kept reason → less ≡ without may (2 ^ f)
      → Blocked T j g less kept reason e → kept' ≡ bit_or kept (2 ^ f) → rest' ≡ without rest (2 ^ f) → Turning j g may must why c rest' kept' e
  turning-more j g may must why c rest kept reason f less e kept' rest' t el b ek er = record {
    keeps = λ i. le_trans (t.keeps i) (b.keeps i);
    part = b.part;
    left = λ i. omega (arith, off i, t.left i);
    rise = λ i. omega (arith, off i, on i, t.rise i, bit_le c i);
    done = λ x p hm ha hb i. let old = t.done x (cover-part (layer j) e reason b.keeps p) hm ha hb in
        omega (arith, on i, old i, one-part f (needs_of T x) (has x p ha hb old (bit-cases (needs_of T x) f)) i);
  }
    where
      off : (i : ℕ) → bit rest' i ≡ bit rest i - bit (2 ^ f) i
      off i = ap (λ (y : ℕ). bit y i) er ∙ bit-without rest (2 ^ f) i

      on : (i : ℕ) → bit kept' i ≡ max (bit kept i) (bit (2 ^ f) i)
      on i = ap (λ (y : ℕ). bit y i) ek ∙ bit-or kept (2 ^ f) i

      has : (x : ℕ) → Picks T j e x → needs_of T x ⊆ may → Back T j (needs_of T x) → kept ⊆ needs_of T x → (bit (needs_of T x) f ≡ 0) ⊎ (bit (needs_of T x) f ≡ 1) → f ∈ needs_of T x
      has x p ha hb old (inl z) = absurd (b.blocked x p old (subst (λ (y : ℕ). needs_of T x ⊆ y) (sym el) (lacking-part (needs_of T x) may f z ha)) hb)
      has x p ha hb old (inr o) = o

  -- a selection that needs all of c is refuted with it
  pub turning-last : (j g may must why c rest kept reason : ℕ) → (Back T j c → ⊥) → Turning j g may must why c rest kept reason → rest ≡ 0 → Blocked T j g may must why reason
  turning-last j g may must why c rest kept reason none t z = record {
    keeps = t.keeps;
    part = t.part;
    blocked = λ x p hm ha hb. none (back-part j (needs_of T x) c (λ i. omega (arith, t.rise i, t.done x p hm ha hb i, ap (λ (y : ℕ). bit y i) z, bit-empty i)) hb);
  }

  module _ (carriers : List ℕ) (fine : Fine T carriers) where
    -- ---- what the code asks of its parts

    pub layer-asked : (k : ℕ) → k ≢ 0 → k ≤ length T.members → (k - 1 < 16) × (64 * (k - 1) + 64 ≤ length T.words) × Tabled 64 T.gives (row_of T.words (k - 1)) carriers
    layer-asked k d l = (omega (arith, fine.short), omega (arith, fine.rows), fine.tabled (k - 1) (omega arith))

    pub entry-asked : (k g e : ℕ) → k ≤ length T.members → g ⊆ all_facts → e ⊆ g → (k ≤ 16) × (e < 2 ^ 32)
    entry-asked k g e l hg he = (omega (arith, fine.short), part-below 32 e all_facts (λ i. le_trans (he i) (hg i)) (omega arith))

    -- ---- the whole box: every selection lies in it

    pub refutes-whole : (k g why e : ℕ) → Refutes T k g all_facts 0 why e → (e ⊆ g) × (Back T k e → ⊥)
    unfolding Back
    refutes-whole zero g why e r = (r.part, r.lacks)
    refutes-whole (suc j) g why e r = (r.part, λ (x, p, b). r.blocked x p (λ i. omega (arith, bit-empty i)) (inside x) b)
      where
        inside : (x : ℕ) → needs_of T x ⊆ all_facts
        inside x =
            in-part (needs_of T x) all_facts
            (λ i m. let (u, l, mu, mi) = gathered-from 64 (λ v. get_or T.needs v 0) x i m in part_in (get_or T.needs u 0) all_facts (fine.inside u) i mi)

    -- so that what is refused there may be stored
    pub stored_refused : (first : Bool) (old new : List ℕ) (k g may must why e : ℕ) → first ≡ (eqb may all_facts && eqb must 0) → k ≤ length T.members → e < 2 ^ 32
        → Refutes T k g may must why e → Nogoods T old → StoredIf first k e old new → Nogoods T new
    stored_refused first old new k g may must why e q few below r known stored = stored-if T first old new known k e stored few below none
      where
        none : first ≡ true → Back T k e → ⊥
        none on =
            let (same, empty) = whole-box may all_facts must (sym q ∙ on) in
            (refutes-whole k g why e (subst (λ (x : ℕ). Refutes T k g x 0 why e) same (subst (λ (y : ℕ). Refutes T k g may y why e) empty r))).1
