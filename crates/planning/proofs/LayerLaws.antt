-- The layers are sound: after k rounds all facts that hold are in fact layer k, and no two of them are mutex there. Assumes nothing.
use mathlib.Core.Path.{◌≡◌, refl, sym, ap, ◌∙◌, subst}
use mathlib.Core.Logic.{◌⊎◌, inl, inr, ◌≢◌}
use mathlib.Core.Bool.{false, ◌&&◌, true≢false}
use mathlib.Core.List.{List, [], ◌∷◌}
use Prim.Native.Nat.{ℕ, zero, suc, ◌+◌, ◌^◌, ◌≤◌, ◌<◌}
use native.Mathlib.Nat.{add-suc, suc-add, add-zero, zero-add}
use native.Mathlib.Decide.{dec_lt}
use native.Mathlib.Omega.{arith}
use lib.Bits.{bit_or, or_lt, or_self}
use lib.ListN.{length, get_or}
use lib.Pow.{pow_mono, pow-lt}
use Rattle.sets.specs.Sets.{bit, ◌∈◌, member, without, ◌⊆◌, meets, gathered}
use Rattle.sets.proofs.Ranges.{true-both, both_false}
use Rattle.sets.proofs.Bits.{bit-empty, one-alone, not_in, member_below, member-yes, part-refl, part_in, in-part, part-below, without-le, meets-no}
use Rattle.sets.proofs.Made.{set-in, gathered-at, gathered-from, gathered-below}
use Rattle.planning.specs.Rounds.{Fitting, disturb, after, Round, run, Rounds}
use Rattle.planning.specs.Layers.{Layer, vertices, opposed, rivals, standing, round_over, givers, excluded, given_by, facts_over, fact_layer}
use Rattle.planning.specs.Back.{Sized}
use Rattle.planning.proofs.PlanLaws.{taken_by, in_after}
use Rattle.planning.proofs.VertexLaws.{keeper-needs, keeper-gives, keeper-takes, step-needs, step_gives, step-takes, vertex-cases, needs-own, gives-own, standing-in, in-standing}
use Rattle.planning.proofs.WordLaws.{in_words, disturb-turned, undisturbed, in-excluded, start_word}

-- the facts s lie in the fact layer, and no two of them are mutex there
abbrev pub Holds : Layer → ℕ → Type 0
Holds L s = (s ⊆ L.members) × ((p q : ℕ) → p ∈ s → q ∈ s → bit (get_or L.words p 0) q ≡ 0)

-- the vertices of a round after the facts s: the keepers of those that no step takes, and the steps
abbrev pub Used : ℕ → Fitting → ℕ → ℕ → ℕ → Type 0
Used w F s r x = ((x < w) × (x ∈ s) × (bit (taken_by F r) x ≡ 0)) ⊎ ((a : ℕ) × (x ≡ w + a) × (a ∈ r))

-- ---- vertices whose needs hold

module _ (w : ℕ) (F : Fitting) where
  -- among facts that hold together no need opposes another
  pub unopposed : (L : Layer) (s m n : ℕ) → Holds L s → m ⊆ s → n ⊆ s → meets (opposed w L m) n ≡ false
  unfolding opposed
  unopposed L s m n holds hm hn =
      meets-no (gathered w m (λ i. get_or L.words i 0)) n
      (λ i e f.
      let (u, l, a, b) = gathered-from w (λ i. get_or L.words i 0) m i e in
      omega (arith, b, holds.1 u i (part_in m s hm u a) (part_in n s hn i f)))

  -- so a vertex whose needs hold is in the round layer
  pub ready-stands : (L : Layer) (s x : ℕ) → Holds L s → x < w + F.count → (vertices w F).needs x ⊆ s → x ∈ standing w (vertices w F) (w + F.count) L
  ready-stands L s x holds l h =
      let n = (vertices w F).needs x in
      standing-in w F L x l (in-part n L.members (λ i e. part_in s L.members holds.0 i (part_in n s h i e))) (unopposed L s n n holds h h)

  -- the keeper of a fact that holds is such a vertex
  pub keeper-ready : (s t : ℕ) → t < w → t ∈ s → (vertices w F).needs t ⊆ s
  keeper-ready s t l e =
      rw (keeper-needs w F t l) (in-part (2 ^ t) s (λ i m. ap (bit s) (one-alone t i m) ∙ e))

  pub keeper-stands : (L : Layer) (s t : ℕ) → Holds L s → t < w → t ∈ s → t ∈ standing w (vertices w F) (w + F.count) L
  keeper-stands L s t holds l e = ready-stands L s t holds (omega arith) (keeper-ready s t l e)

-- ---- the vertices of a round

module _ (w : ℕ) (F : Fitting) (s r : ℕ) (round : Round F s r) where
  pub used-below : (x : ℕ) → Used w F s r x → x < w + F.count
  used-below x (inl h) = omega (arith, h.0)
  used-below x (inr (a, q, e)) = omega (arith, member_below r F.count a round.within e)

  pub used-ready : (x : ℕ) → Used w F s r x → (vertices w F).needs x ⊆ s
  used-ready x (inl (l, e, z)) = keeper-ready w F s x l e
  used-ready x (inr (a, q, e)) = rw (q, step-needs w F a) (round.ready a e)

  -- its steps are calm in either order
  pub steps-calm : (a b : ℕ) → a ≢ b → a ∈ r → b ∈ r → disturb F.steps a b ≡ false
  steps-calm a b d ea eb = go (dec_lt a b)
    where
      go : Dec (a < b) → disturb F.steps a b ≡ false
      go (yes l) = round.calm a b l ea eb
      go (no l) = disturb-turned F.steps a b ∙ round.calm b a (omega (arith, d)) eb ea

  -- no vertex takes what another one needs or gives
  spared : (x y : ℕ) → Used w F s r x → Used w F s r y → x ≢ y → meets ((vertices w F).takes x) (bit_or ((vertices w F).needs y) ((vertices w F).gives y)) ≡ false
  spared x y (inl h) uy d =
      rw (keeper-takes w F x h.0) (meets-no 0 (bit_or ((vertices w F).needs y) ((vertices w F).gives y)) (λ i e m. omega (arith, bit-empty i)))
  spared x y (inr (a, q, e)) (inl (l, m, z)) d =
      rw (q, step-takes w F a, keeper-needs w F y l, keeper-gives w F y l, or_self (2 ^ y)) (meets-no (F.steps.takes a) (2 ^ y) hit)
    where
      hit : (i : ℕ) → i ∈ F.steps.takes a → i ∈ 2 ^ y → ⊥
      hit i t o =
          let all = gathered-at F.count F.steps.takes r a (member_below r F.count a round.within e) e in
          omega (arith, z, ap (bit (taken_by F r)) (one-alone y i o), part_in (F.steps.takes a) (taken_by F r) all i t)
  spared x y (inr (a, p, ea)) (inr (b, q, eb)) d =
      rw (p, q, step-takes w F a, step-needs w F b, step_gives w F b)
      (undisturbed F.steps a b (steps-calm a b (λ c. d (p ∙ ap (λ (n : ℕ). w + n) c ∙ sym q)) ea eb))

  -- what gives a fact that holds after the round
  pub giver : s < 2 ^ w → (p : ℕ) → p ∈ after F s r → (x : ℕ) × Used w F s r x × (p ∈ (vertices w F).gives x)
  giver h p e = go (in_after F s r p e)
    where
      go : ((p ∈ s) × (bit (taken_by F r) p ≡ 0)) ⊎ ((a : ℕ) × (a < F.count) × (a ∈ r) × (p ∈ F.steps.gives a)) → (x : ℕ) × Used w F s r x × (p ∈ (vertices w F).gives x)
      go (inl (a, z)) = let l = member_below s w p h a in (p, inl (l, a, z), gives-own w F p l)
      go (inr (a, l, m, b)) = (w + a, inr (a, refl, m), ap (λ (x : ℕ). bit x p) (step_gives w F a) ∙ b)

  -- if the facts hold in a fact layer, these vertices are in the round layer over it, and no two of them are mutex
  module _ (L : Layer) (holds : Holds L s) where
    pub vertex-stands : (x : ℕ) → Used w F s r x → x ∈ standing w (vertices w F) (w + F.count) L
    vertex-stands x u = ready-stands w F L s x holds (used-below x u) (used-ready x u)

    pub vertices-calm : (x y : ℕ) → Used w F s r x → Used w F s r y → x ≢ y → rivals w (vertices w F) L x y ≡ false
    unfolding rivals disturb
    vertices-calm x y ux uy d =
        let all = vertices w F in
        both_false (disturb all x y) (meets (opposed w L (all.needs x)) (all.needs y))
        (both_false (meets (all.takes x) (bit_or (all.needs y) (all.gives y))) (meets (all.takes y) (bit_or (all.needs x) (all.gives x)))
        (spared x y ux uy d) (spared y x uy ux (λ e. d (sym e))))
        (unopposed w F L s (all.needs x) (all.needs y) holds (used-ready x ux) (used-ready y uy))

    pub vertices-apart : (x y : ℕ) → Used w F s r x → Used w F s r y → bit (get_or (round_over w (vertices w F) (w + F.count) L).words x 0) y ≡ 0
    unfolding round_over
    vertices-apart x y ux uy =
        not_in (get_or (round_over w (vertices w F) (w + F.count) L).words x 0) y
        (λ e.
        let h = in_words (w + w) (standing w (vertices w F) (w + F.count) L) (rivals w (vertices w F) L) x y e in
        true≢false (sym h.5 ∙ vertices-calm x y ux uy h.4))

    pub giver-in : F.count ≤ w → (p x : ℕ) → Used w F s r x → p ∈ (vertices w F).gives x → x ∈ givers w (vertices w F) (round_over w (vertices w F) (w + F.count) L) p
    unfolding givers round_over
    giver-in few p x u e =
        set-in (w + w) (λ x. member (standing w (vertices w F) (w + F.count) L) x && member ((vertices w F).gives x) p) x (omega (arith, used-below x u))
        (true-both (member (standing w (vertices w F) (w + F.count) L) x) (member ((vertices w F).gives x) p) (member-yes (standing w (vertices w F) (w + F.count) L) x (vertex-stands x u)) (member-yes ((vertices w F).gives x) p e))

    -- so the facts after the round hold in the layer over that
    pub round-holds : F.count ≤ w → s < 2 ^ w → Holds (facts_over w (vertices w F) (round_over w (vertices w F) (w + F.count) L)) (after F s r)
    unfolding facts_over given_by round_over
    round-holds few h = (in-part (after F s r) (given_by w (vertices w F) R) inside, apart)
      where
        R : Layer
        R = round_over w (vertices w F) (w + F.count) L

        inside : (i : ℕ) → i ∈ after F s r → i ∈ given_by w (vertices w F) R
        inside i e =
            let (x, u, g) = giver h i e in
            part_in ((vertices w F).gives x) (given_by w (vertices w F) R) (gathered-at (w + w) (vertices w F).gives R.members x (omega (arith, used-below x u)) (vertex-stands x u)) i g

        apart : (p q : ℕ) → p ∈ after F s r → q ∈ after F s r → bit (get_or (facts_over w (vertices w F) R).words p 0) q ≡ 0
        apart p q ep eq =
            not_in (get_or (facts_over w (vertices w F) R).words p 0) q
            (λ e.
            let (x, ux, gx) = giver h p ep in
            let (y, uy, gy) = giver h q eq in
            let (all, none) = in-excluded w F R p q (in_words w (given_by w (vertices w F) R) (excluded w (vertices w F) R) p q e).5 in
            omega (arith, all x y (giver-in few p x ux gx) (giver-in few q y uy gy), vertices-apart x y ux uy))

-- ---- layer by layer

module _ (w : ℕ) (F : Fitting) (ok : Sized w F) where
  -- a set of facts of the file has room
  pub has_room : (s : ℕ) → s < 2 ^ F.facts → s < 2 ^ w
  has_room s h = omega (arith, pow_mono ok.room)

  pub after-below : (s r : ℕ) → s < 2 ^ F.facts → after F s r < 2 ^ F.facts
  unfolding after
  after-below s r h =
      or_lt F.facts (without s (taken_by F r)) (gathered F.count r F.steps.gives) (omega (arith, without-le s (taken_by F r)))
      (gathered-below F.count F.steps.gives F.facts r (λ a l e. ok.gives a l))

  pub facts_below : (k : ℕ) → (fact_layer w F k).members < 2 ^ F.facts
  unfolding fact_layer facts_over given_by round_over
  facts_below zero = ok.start
  facts_below (suc k) = gathered-below (w + w) (vertices w F).gives F.facts (standing w (vertices w F) (w + F.count) (fact_layer w F k)) (λ x l e. go x e (facts_below k) (vertex-cases w F x))
    where
      go : (x : ℕ) → x ∈ standing w (vertices w F) (w + F.count) (fact_layer w F k) → (fact_layer w F k).members < 2 ^ F.facts → (x < w) ⊎ ((a : ℕ) × (x ≡ w + a)) → (vertices w F).gives x < 2 ^ F.facts
      go x e h (inl l) =
          let inside = (in-standing w F (fact_layer w F k) x e).1 in
          rw (keeper-gives w F x l) (pow-lt (member_below (fact_layer w F k).members F.facts x h (part_in ((vertices w F).needs x) (fact_layer w F k).members inside x (needs-own w F x l))))
      go x e h (inr (a, q)) = rw (q, step_gives w F a) (ok.gives a (omega (arith, (in-standing w F (fact_layer w F k) x e).0)))

  pub start-holds : Holds (fact_layer w F 0) F.start
  unfolding fact_layer
  start-holds = (part-refl F.start, λ p q a b. ap (λ (x : ℕ). bit x q) (start_word w F p) ∙ bit-empty q)

  pub holds-below : (k s : ℕ) → Holds (fact_layer w F k) s → s < 2 ^ F.facts
  holds-below k s h = part-below F.facts s (fact_layer w F k).members h.0 (facts_below k)

  pub step-sound : (k s r : ℕ) → Holds (fact_layer w F k) s → Round F s r → Holds (fact_layer w F (suc k)) (after F s r)
  unfolding fact_layer
  step-sound k s r h round = round-holds w F s r round (fact_layer w F k) h ok.few (has_room s (holds-below k s h))

  pub rounds-sound : (k s : ℕ) (rs : List ℕ) → Holds (fact_layer w F k) s → Rounds F s rs → Holds (fact_layer w F (k + length rs)) (run F s rs)
  unfolding run
  rounds-sound k s [] h v = rw add-zero h
  rounds-sound k s (r ∷ rs) h (a, v) =
      subst (λ (n : ℕ). Holds (fact_layer w F n) (run F (after F s r) rs)) (suc-add k (length rs) ∙ sym (add-suc k (length rs)))
      (rounds-sound (suc k) (after F s r) rs (step-sound k s r h a) v)

  pub layers-sound : (rs : List ℕ) → Rounds F F.start rs
      → (run F F.start rs ⊆ (fact_layer w F (length rs)).members)
      × ((p q : ℕ) → p ∈ run F F.start rs → q ∈ run F F.start rs → bit (get_or (fact_layer w F (length rs)).words p 0) q ≡ 0)
  layers-sound rs v = subst (λ (n : ℕ). Holds (fact_layer w F n) (run F F.start rs)) (zero-add (length rs)) (rounds-sound 0 F.start rs start-holds v)
