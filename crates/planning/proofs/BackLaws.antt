-- Working back, in both directions: a goal is reached in k + 1 rounds exactly if round layer k + 1 has a selection for it whose needs
-- are reached in k rounds. Assumes nothing.
use mathlib.Core.Path.{◌≡◌, refl, sym, ap, ◌∙◌, subst}
use mathlib.Core.Logic.{◌⊎◌, inl, inr, ◌↔◌}
use mathlib.Core.Bool.{false}
use mathlib.Core.List.{List, [], ◌∷◌, ◌++◌}
use Prim.Native.Nat.{ℕ, zero, suc, ◌+◌, ◌-◌, ◌*◌, ◌^◌, ◌≤◌, ◌<◌}
use native.Mathlib.Nat.{le_trans, suc-add, zero-add}
use native.Mathlib.Omega.{arith}
use lib.Bits.{bit_or}
use lib.ListN.{length, get_or}
use lib.Pow.{shr_lt}
use Rattle.sets.specs.Sets.{bit, ◌∈◌, ◌⊆◌, member, without, gathered}
use Rattle.sets.proofs.Ranges.{both_false, neither}
use Rattle.sets.proofs.Bits.{bit_high, bit-shift, bit-or, not_in, member_below, member-no, part_in, in-part, part-below, bit-without, without_in, in_without, or_left, or_right, no-meets, shift-low, shift-high}
use Rattle.sets.proofs.Made.{gathered-at, gathered-from}
use Rattle.network.specs.Network.{clash, together}
use Rattle.planning.specs.Rounds.{Fitting, disturb, after, Round, run, Plan}
use Rattle.planning.specs.Layers.{Layer, vertices, rivals, standing, round_over, fact_layer}
use Rattle.planning.specs.Back.{layer_network, Selects, needed, steps_of, Reaches, Sized}
use Rattle.planning.proofs.PlanLaws.{taken_by, after_kept, after-given, reaches-next, reaches_more, reaches-last, reaches-part}
use Rattle.planning.proofs.WordLaws.{words-test, disturb-turned, undisturbed}
use Rattle.planning.proofs.VertexLaws.{step-needs, step_gives, step-takes, vertex-cases, needs-own, gives-only, standing-below, in-standing}
use Rattle.planning.proofs.LayerLaws.{Holds, Used, used-below, used-ready, giver, vertex-stands, vertices-apart, has_room, facts_below, holds-below, layers-sound}

-- ---- rounds that reach the goal are a plan, and a goal that is reached is reached in more rounds

pub reaches-plan : (F : Fitting) (k : ℕ) (rs : List ℕ) → Reaches F k F.goal rs → Plan F rs
reaches-plan F k rs h = record { rounds = h.rounds; reached = h.reached }

pub plan-reaches : (F : Fitting) (rs : List ℕ) → Plan F rs → Reaches F (length rs) F.goal rs
plan-reaches F rs p = record { rounds = p.rounds; reached = p.reached; many = refl }

pub reaches-grows : (F : Fitting) (k r g : ℕ) → k ≤ r → (rs : List ℕ) → Reaches F k g rs → (qs : List ℕ) × Reaches F r g qs
reaches-grows F k r g l rs h = subst (λ (n : ℕ). (qs : List ℕ) × Reaches F n g qs) (omega arith) (grow (r - k))
  where
    grow : (d : ℕ) → (qs : List ℕ) × Reaches F (d + k) g qs
    grow zero = (rs, rw zero-add h)
    grow (suc d) = let (qs, e) = grow d in (qs ++ (0 ∷ []), rw (suc-add d k) (reaches_more F (d + k) g qs e))

-- ---- what vertices need

module _ (w : ℕ) (F : Fitting) where
  needed-in : (x s : ℕ) → ((v : ℕ) → v ∈ x → (vertices w F).needs v ⊆ s) → needed w F x ⊆ s
  unfolding needed
  needed-in x s h =
      in-part (needed w F x) s
      (λ i e. let (v, l, m, n) = gathered-from (w + w) (vertices w F).needs x i e in part_in ((vertices w F).needs v) s (h v m) i n)

module _ (w : ℕ) (F : Fitting) (ok : Sized w F) where
  -- if they are in a round layer, it lies in the fact layer below
  pub needed-within : (L : Layer) (x : ℕ) → x ⊆ (round_over w (vertices w F) (w + F.count) L).members → needed w F x ⊆ L.members
  unfolding round_over
  needed-within L x h = needed-in w F x L.members (λ v e. (in-standing w F L v (part_in x (standing w (vertices w F) (w + F.count) L) h v e)).1)

  -- and so is a set of facts
  pub needed-below : (k x : ℕ) → x ⊆ (round_over w (vertices w F) (w + F.count) (fact_layer w F k)).members → needed w F x < 2 ^ F.facts
  needed-below k x h = part-below F.facts (needed w F x) (fact_layer w F k).members (needed-within (fact_layer w F k) x h) (facts_below w F ok k)

-- ---- the steps of a selection are a round

module _ (w : ℕ) (F : Fitting) (ok : Sized w F) (L : Layer) (g x s : ℕ) (sel : Selects w F (round_over w (vertices w F) (w + F.count) L) g x) (have : needed w F x ⊆ s) where
  stood : x ⊆ standing w (vertices w F) (w + F.count) L
  unfolding round_over
  stood = sel.within

  all-below : x < 2 ^ (w + F.count)
  all-below = part-below (w + F.count) x (standing w (vertices w F) (w + F.count) L) stood (standing-below w F L)

  room : (v : ℕ) → v ∈ x → v < w + w
  room v e = omega (arith, member_below x (w + F.count) v all-below e, ok.few)

  held : (v : ℕ) → v ∈ x → (vertices w F).needs v ⊆ s
  unfolding needed
  held v e i = le_trans (gathered-at (w + w) (vertices w F).needs x v (room v e) e i) (have i)

  quiet : (u v : ℕ) → u < v → u ∈ x → v ∈ x → disturb (vertices w F) u v ≡ false
  unfolding round_over clash rivals
  quiet u v l eu ev =
      let m = standing w (vertices w F) (w + F.count) L in
      let test = words-test (w + w) m (rivals w (vertices w F) L) u v (room u eu) (room v ev) (part_in x m stood u eu) (part_in x m stood v ev) (λ q. omega arith) in
      (neither _ _ (sym test ∙ (neither _ _ (sel.free u v l eu ev)).0)).0

  step_in : (a : ℕ) → a ∈ steps_of w x → w + a ∈ x
  step_in a e = sym (bit-shift x w a) ∙ e

  few : steps_of w x < 2 ^ F.count
  few = shr_lt F.count w (subst (λ (n : ℕ). x < 2 ^ n) (omega arith) all-below)

  steps-round : Round F s (steps_of w x)
  unfolding disturb
  steps-round = record {
    within = few;
    calm = λ a b l ea eb.
        rw (step-needs w F a, step_gives w F a, step-takes w F a, step-needs w F b, step_gives w F b, step-takes w F b)
        at (quiet (w + a) (w + b) (omega arith) (step_in a ea) (step_in b eb));
    ready = λ a e. rw (step-needs w F a) at (held (w + a) (step_in a e));
  }

  -- they take no fact whose keeper is selected
  spared : (t : ℕ) → t < w → t ∈ x → bit (taken_by F (steps_of w x)) t ≡ 0
  spared t l e =
      let all = vertices w F in
      not_in (taken_by F (steps_of w x)) t
      (λ h.
      let (a, k, m, n) = gathered-from F.count F.steps.takes (steps_of w x) t h in
      no-meets (all.takes (w + a)) (bit_or (all.needs t) (all.gives t)) (undisturbed all (w + a) t (disturb-turned all (w + a) t ∙ quiet t (w + a) (omega arith) e (step_in a m))) t
      (rw (step-takes w F a) n) (or_left (all.needs t) (all.gives t) t (needs-own w F t l)))

  goal-after : g ⊆ after F s (steps_of w x)
  unfolding together
  goal-after =
      in-part g (after F s (steps_of w x))
      (λ i e. let (v, l, m, n) = gathered-from (w + w) (vertices w F).gives x i (part_in g _ sel.covers i e) in by i v m n (vertex-cases w F v))
    where
      by : (i v : ℕ) → v ∈ x → i ∈ (vertices w F).gives v → (v < w) ⊎ ((a : ℕ) × (v ≡ w + a)) → i ∈ after F s (steps_of w x)
      by i v m n (inl l) =
          rw (gives-only w F v i l n) (after_kept F s (steps_of w x) v (part_in ((vertices w F).needs v) s (held v m) v (needs-own w F v l)) (spared v l m))
      by i v m n (inr (a, q)) =
          let e : a ∈ steps_of w x = bit-shift x w a ∙ ap (bit x) (sym q) ∙ m in
          after-given F s (steps_of w x) i a (member_below (steps_of w x) F.count a few e) e (rw (q, step_gives w F a) at n)

-- ---- the vertices of a round are a selection

module _ (w : ℕ) (F : Fitting) (ok : Sized w F) (L : Layer) (s r : ℕ) (round : Round F s r) (small : s < 2 ^ w) (holds : Holds L s) where
  -- its steps, and the keepers of what it leaves
  abbrev whole : ℕ
  whole = bit_or (without s (taken_by F r)) (r * 2 ^ w)

  whole-used : (x : ℕ) → x ∈ whole → Used w F s r x
  whole-used x e = go (vertex-cases w F x)
    where
      go : (x < w) ⊎ ((a : ℕ) × (x ≡ w + a)) → Used w F s r x
      go (inl l) = let (m, z) = in_without s (taken_by F r) x (omega (arith, bit-or (without s (taken_by F r)) (r * 2 ^ w) x, shift-low r w x l)) in inl (l, m, z)
      go (inr (a, q)) =
          let none : bit s x ≡ 0 = bit_high s w x small (omega arith) in
          inr (a, q, omega (arith, bit-or (without s (taken_by F r)) (r * 2 ^ w) x, bit-without s (taken_by F r) x, ap (bit (r * 2 ^ w)) q, shift-high r w a))

  used-whole : (x : ℕ) → Used w F s r x → x ∈ whole
  used-whole x (inl (l, m, z)) = or_left (without s (taken_by F r)) (r * 2 ^ w) x (without_in s (taken_by F r) x m z)
  used-whole x (inr (a, q, m)) = or_right (without s (taken_by F r)) (r * 2 ^ w) x (ap (bit (r * 2 ^ w)) q ∙ shift-high r w a ∙ m)

  whole-selects : (g : ℕ) → g ⊆ after F s r → Selects w F (round_over w (vertices w F) (w + F.count) L) g whole
  unfolding round_over clash together
  whole-selects g h = record {
    within = in-part whole (standing w (vertices w F) (w + F.count) L) (λ x e. vertex-stands w F s r round L holds x (whole-used x e));
    free = λ x y l ex ey. both_false _ _ (free x y ex ey) (free y x ey ex);
    covers = in-part g (together (layer_network w F (round_over w (vertices w F) (w + F.count) L)) whole) (λ i e. cover i (part_in g (after F s r) h i e));
  }
    where
      free : (x y : ℕ) → x ∈ whole → y ∈ whole → member (get_or (round_over w (vertices w F) (w + F.count) L).words x 0) y ≡ false
      free x y ex ey = member-no _ y (vertices-apart w F s r round L holds x y (whole-used x ex) (whole-used y ey))

      cover : (i : ℕ) → i ∈ after F s r → i ∈ gathered (w + w) whole (vertices w F).gives
      cover i e =
          let (x, u, n) = giver w F s r round small i e in
          part_in ((vertices w F).gives x) _ (gathered-at (w + w) (vertices w F).gives whole x (omega (arith, used-below w F s r round x u, ok.few)) (used-whole x u)) i n

  -- and they need only what held before it
  whole-needs : needed w F whole ⊆ s
  whole-needs = needed-in w F whole s (λ x e. used-ready w F s r round x (whole-used x e))

-- ---- both directions

module _ (w : ℕ) (F : Fitting) (ok : Sized w F) where
  pub forth : (k g x : ℕ) (rs : List ℕ) → Selects w F (round_over w (vertices w F) (w + F.count) (fact_layer w F k)) g x → Reaches F k (needed w F x) rs
      → Reaches F (suc k) g (rs ++ (steps_of w x ∷ []))
  forth k g x rs sel h =
      let s = run F F.start rs in
      reaches-next F k (needed w F x) g (steps_of w x) rs h (steps-round w F ok (fact_layer w F k) g x s sel h.reached) (goal-after w F ok (fact_layer w F k) g x s sel h.reached)

  pub back : (k g : ℕ) (rs : List ℕ) → Reaches F (suc k) g rs
      → (x : ℕ) × Selects w F (round_over w (vertices w F) (w + F.count) (fact_layer w F k)) g x × ((qs : List ℕ) × Reaches F k (needed w F x) qs)
  back k g rs h =
      let (qs, r, before, round, e) = reaches-last F k g rs h in
      let L = fact_layer w F k in
      let s = run F F.start qs in
      let holds : Holds L s = subst (λ (n : ℕ). Holds (fact_layer w F n) s) before.many (layers-sound w F ok qs before.rounds) in
      let small = has_room w F ok s (holds-below w F ok k s holds) in
      let x = whole w F ok L s r round small holds in
      (x, whole-selects w F ok L s r round small holds g e, (qs, reaches-part F k s (needed w F x) qs (whole-needs w F ok L s r round small holds) before))

  pub worked-back : (k g : ℕ)
      → ((rs : List ℕ) × Reaches F (suc k) g rs) ↔ ((x : ℕ) × Selects w F (round_over w (vertices w F) (w + F.count) (fact_layer w F k)) g x × ((qs : List ℕ) × Reaches F k (needed w F x) qs))
  worked-back k g = (λ (rs, h). back k g rs h, λ (x, sel, (qs, h)). (qs ++ (steps_of w x ∷ []), forth k g x qs sel h))
