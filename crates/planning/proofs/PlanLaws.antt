-- The tests of rounds and plans tell rounds and plans, and the fewest rounds are what their name says. What holds after a round; rounds
-- one after the other, and the last of them; a plan may be followed by rounds without a step. Assumes nothing.
use mathlib.Core.Path.{◌≡◌, refl, sym, ap, ap₂, ◌∙◌, subst}
use mathlib.Core.Logic.{◌⊎◌, inl, inr}
use mathlib.Core.Bool.{true, not, ◌&&◌}
use mathlib.Core.List.{List, [], ◌∷◌, ◌++◌}
use mathlib.Core.Option.{none, some}
use Prim.Native.Nat.{ℕ, zero, suc, ◌-◌, ◌^◌, ◌≤◌, ◌<◌, zero-le}
use native.Mathlib.Nat.{le_trans}
use native.Mathlib.Decide.{dec_le}
use native.Mathlib.Omega.{arith}
use lib.Pow.{pow_pos}
use lib.Bits.{bit_or, or_zero_r}
use lib.Dec.{ltb}
use lib.ListN.{length, length-append}
use borrow.Author.Tests.{ltb-true, lt-ltb, not-true}
use Rattle.sets.specs.Sets.{bit, ◌∈◌, ◌⊆◌, without, part, every_pair, gathered}
use Rattle.sets.specs.First.{first_from, Smallest}
use Rattle.sets.proofs.Ranges.{both_true, true-both, any_at, at-any}
use Rattle.sets.proofs.Bits.{bit-cases, bit-empty, bit-or, bit-without, ext, part-refl, part_in, in-part, part-yes, yes-part, every-pair, pair-every, member_below, without_in, in_without, or_left, or_right}
use Rattle.sets.proofs.Made.{gathered-at, gathered-from, gathered_none}
use Rattle.sets.proofs.First.{first-smallest, smallest-unique}
use Rattle.planning.specs.Rounds.{Fitting, disturb, after, Round, is_round, run, Rounds, Plan, leads, is_plan, leads_in, fewest}
use Rattle.planning.specs.Back.{Reaches}

-- all that a round takes
abbrev pub taken_by : Fitting → ℕ → ℕ
taken_by F r = gathered F.count r F.steps.takes

-- some plan has k rounds
abbrev pub PlanOf : Fitting → ℕ → Type 0
PlanOf F k = (rs : List ℕ) × (length rs ≡ k) × Plan F rs

-- and k is within the horizon
abbrev pub PlanWithin : Fitting → ℕ → ℕ → Type 0
PlanWithin F horizon k = (k ≤ horizon) × PlanOf F k

module _ (F : Fitting) where
  -- ---- the tests say what the statements say

  pub test-round : (s r : ℕ) → is_round F s r ≡ true → Round F s r
  unfolding is_round
  test-round s r t =
      let calm = every_pair F.count r (λ a b. not (disturb F.steps a b)) in
      let all = gathered F.count r F.steps.needs in
      let (x, y) = both_true (ltb r (2 ^ F.count)) (calm && part all s) t in
      let (c, d) = both_true calm (part all s) y in
      let within = ltb-true r (2 ^ F.count) x in
      record {
        within = within;
        calm = λ a b l ea eb. not-true (disturb F.steps a b) (every-pair F.count r (λ a b. not (disturb F.steps a b)) within c a b l ea eb);
        ready = λ a e i. le_trans (gathered-at F.count F.steps.needs r a (member_below r F.count a within e) e i) (yes-part all s d i);
      }

  pub round-test : (s r : ℕ) → Round F s r → is_round F s r ≡ true
  unfolding is_round
  round-test s r h =
      let calm = every_pair F.count r (λ a b. not (disturb F.steps a b)) in
      let all = gathered F.count r F.steps.needs in
      true-both (ltb r (2 ^ F.count)) (calm && part all s) (lt-ltb r (2 ^ F.count) h.within)
      (true-both calm (part all s) (pair-every F.count r (λ a b. not (disturb F.steps a b)) (λ a b l ea eb. ap not (h.calm a b l ea eb)))
      (part-yes all s
      (in-part all s (λ i e. let (a, l, m, n) = gathered-from F.count F.steps.needs r i e in part_in (F.steps.needs a) s (h.ready a m) i n))))

  pub leads-rounds : (s : ℕ) (rs : List ℕ) → leads F s rs ≡ true → Rounds F s rs × (F.goal ⊆ run F s rs)
  unfolding leads run
  leads-rounds s [] t = (tt, yes-part F.goal s t)
  leads-rounds s (r ∷ rs) t =
      let (a, b) = both_true (is_round F s r) (leads F (after F s r) rs) t in
      let (c, d) = leads-rounds (after F s r) rs b in
      ((test-round s r a, c), d)

  pub rounds-lead : (s : ℕ) (rs : List ℕ) → Rounds F s rs → F.goal ⊆ run F s rs → leads F s rs ≡ true
  unfolding leads run
  rounds-lead s [] h g = part-yes F.goal s g
  rounds-lead s (r ∷ rs) (a, b) g = true-both (is_round F s r) (leads F (after F s r) rs) (round-test s r a) (rounds-lead (after F s r) rs b g)

  pub leads-plan : (rs : List ℕ) → is_plan F rs ≡ true → Plan F rs
  leads-plan rs t = let (a, b) = leads-rounds F.start rs t in record { rounds = a; reached = b }

  pub plan-leads : (rs : List ℕ) → Plan F rs → is_plan F rs ≡ true
  plan-leads rs p = rounds-lead F.start rs p.rounds p.reached

  -- ---- some list of k rounds

  pub leads-in : (k s : ℕ) → leads_in F k s ≡ true → (rs : List ℕ) × (length rs ≡ k) × Rounds F s rs × (F.goal ⊆ run F s rs)
  unfolding leads_in run
  leads-in zero s t = ([], refl, tt, yes-part F.goal s t)
  leads-in (suc k) s t =
      let (r, l, h) = any_at (2 ^ F.count) (λ r. is_round F s r && leads_in F k (after F s r)) t in
      let (a, b) = both_true (is_round F s r) (leads_in F k (after F s r)) h in
      let (rs, e, c, g) = leads-in k (after F s r) b in
      (r ∷ rs, ap suc e, (test-round s r a, c), g)

  pub in-leads : (s : ℕ) (rs : List ℕ) → Rounds F s rs → F.goal ⊆ run F s rs → leads_in F (length rs) s ≡ true
  unfolding leads_in run
  in-leads s [] h g = part-yes F.goal s g
  in-leads s (r ∷ rs) (a, b) g =
      at-any (2 ^ F.count) (λ r. is_round F s r && leads_in F (length rs) (after F s r)) r a.within
      (true-both (is_round F s r) (leads_in F (length rs) (after F s r)) (round-test s r a) (in-leads (after F s r) rs b g))

  -- ---- the fewest rounds

  module _ (horizon : ℕ) where
    pub fewest-right : Smallest (PlanWithin F horizon) 0 (fewest F horizon)
    unfolding fewest
    fewest-right =
        let all : suc horizon - 0 ≡ suc horizon = omega arith in
        subst (λ (n : ℕ). Smallest (PlanWithin F horizon) 0 (first_from (λ k. leads_in F k F.start) n 0)) all
        (first-smallest (PlanWithin F horizon) (λ k. leads_in F k F.start) (suc horizon) (λ k w. omega (arith, w.0))
        (λ k l t. let (rs, e, a, b) = leads-in k F.start t in (omega arith, (rs, e, record { rounds = a; reached = b })))
        (λ k w. let (rs, e, p) = w.1 in subst (λ (n : ℕ). leads_in F n F.start ≡ true) e (in-leads F.start rs p.rounds p.reached)) 0)

    pub fewest-none : fewest F horizon ≡ none → (rs : List ℕ) → Plan F rs → length rs ≤ horizon → ⊥
    fewest-none e rs p l = subst (Smallest (PlanWithin F horizon) 0) e fewest-right (length rs) (l, (rs, refl, p)) zero-le

    pub none-fewest : ((rs : List ℕ) → Plan F rs → length rs ≤ horizon → ⊥) → fewest F horizon ≡ none
    none-fewest h = smallest-unique (PlanWithin F horizon) 0 (fewest F horizon) none fewest-right (λ k w l. let (rs, e, p) = w.1 in h rs p (omega (arith, w.0)))

    pub fewest-some : (k : ℕ) → fewest F horizon ≡ some k → (k ≤ horizon) × PlanOf F k × ((rs : List ℕ) → Plan F rs → k ≤ length rs)
    fewest-some k e =
        let found = subst (Smallest (PlanWithin F horizon) 0) e fewest-right in
        let (l, p) = found.holds in
        (l, p, λ rs q. go rs q found.least l (dec_le (length rs) horizon))
      where
        go : (rs : List ℕ) → Plan F rs → ((n : ℕ) → PlanWithin F horizon n → 0 ≤ n → k ≤ n) → k ≤ horizon → Dec (length rs ≤ horizon) → k ≤ length rs
        go rs q least l (yes m) = least (length rs) (m, (rs, refl, q)) zero-le
        go rs q least l (no m) = omega arith

    pub some-fewest : (k : ℕ) → k ≤ horizon → PlanOf F k → ((rs : List ℕ) → Plan F rs → k ≤ length rs) → fewest F horizon ≡ some k
    some-fewest k l p least =
        smallest-unique (PlanWithin F horizon) 0 (fewest F horizon) (some k) fewest-right
        (record { holds = (l, p); above = zero-le; least = λ n w z. let (rs, e, q) = w.1 in omega (arith, least rs q) })

  -- ---- what holds after a round: what was there and is not taken, and what is given

  abbrev gained : ℕ → ℕ
  gained r = gathered F.count r F.steps.gives

  pub after_kept : (s r i : ℕ) → i ∈ s → bit (taken_by F r) i ≡ 0 → i ∈ after F s r
  unfolding after
  after_kept s r i e z = or_left (without s (taken_by F r)) (gained r) i (without_in s (taken_by F r) i e z)

  pub after-given : (s r i a : ℕ) → a < F.count → a ∈ r → i ∈ F.steps.gives a → i ∈ after F s r
  unfolding after
  after-given s r i a l e g =
      or_right (without s (taken_by F r)) (gained r) i (part_in (F.steps.gives a) (gained r) (gathered-at F.count F.steps.gives r a l e) i g)

  pub in_after : (s r i : ℕ) → i ∈ after F s r → ((i ∈ s) × (bit (taken_by F r) i ≡ 0)) ⊎ ((a : ℕ) × (a < F.count) × (a ∈ r) × (i ∈ F.steps.gives a))
  unfolding after
  in_after s r i e = go (bit-cases (gained r) i)
    where
      go : (bit (gained r) i ≡ 0) ⊎ (i ∈ gained r) → ((i ∈ s) × (bit (taken_by F r) i ≡ 0)) ⊎ ((a : ℕ) × (a < F.count) × (a ∈ r) × (i ∈ F.steps.gives a))
      go (inl z) = inl (in_without s (taken_by F r) i (omega (arith, bit-or (without s (taken_by F r)) (gained r) i)))
      go (inr g) = inr (gathered-from F.count F.steps.gives r i g)

  -- ---- rounds one after the other

  pub run-append : (s : ℕ) (rs qs : List ℕ) → run F s (rs ++ qs) ≡ run F (run F s rs) qs
  unfolding run
  run-append s [] qs = refl
  run-append s (r ∷ rs) qs = run-append (after F s r) rs qs

  pub rounds-append : (s : ℕ) (rs qs : List ℕ) → Rounds F s rs → Rounds F (run F s rs) qs → Rounds F s (rs ++ qs)
  unfolding run
  rounds-append s [] qs h g = g
  rounds-append s (r ∷ rs) qs (a, h) g = (a, rounds-append (after F s r) rs qs h g)

  pub append-rounds : (s : ℕ) (rs qs : List ℕ) → Rounds F s (rs ++ qs) → Rounds F s rs × Rounds F (run F s rs) qs
  unfolding run
  append-rounds s [] qs h = (tt, h)
  append-rounds s (r ∷ rs) qs (a, h) = let (b, c) = append-rounds (after F s r) rs qs h in ((a, b), c)

  -- one round more
  pub run_more : (s r : ℕ) (rs : List ℕ) → run F s (rs ++ (r ∷ [])) ≡ after F (run F s rs) r
  unfolding run
  run_more s r rs = run-append s rs (r ∷ [])

  pub rounds-more : (s r : ℕ) (rs : List ℕ) → Rounds F s rs → Round F (run F s rs) r → Rounds F s (rs ++ (r ∷ []))
  rounds-more s r rs h a = rounds-append s rs (r ∷ []) h (a, tt)

  -- the last of some rounds
  pub last-round : (s r : ℕ) (rs : List ℕ) → Rounds F s (r ∷ rs)
      → (qs : List ℕ) × (q : ℕ) × Rounds F s qs × Round F (run F s qs) q × (run F s (r ∷ rs) ≡ after F (run F s qs) q) × (length qs ≡ length rs)
  unfolding run
  last-round s r [] (a, _) = ([], r, tt, a, refl, refl)
  last-round s r (p ∷ rs) (a, v) = let (qs, q, u, b, e, l) = last-round (after F s r) p rs v in (r ∷ qs, q, (a, u), b, e, ap suc l)

  -- ---- rounds without a step

  pub idle-round : (s : ℕ) → Round F s 0
  idle-round s =
      record {
        within = pow_pos F.count;
        calm = λ a b l ea eb. absurd (omega (arith, bit-empty a));
        ready = λ a e. absurd (omega (arith, bit-empty a));
      }

  pub idle-after : (s : ℕ) → after F s 0 ≡ s
  unfolding after
  idle-after s =
      ap₂ (λ (x y : ℕ). bit_or (without s x) y) (gathered_none F.count F.steps.takes) (gathered_none F.count F.steps.gives)
      ∙ or_zero_r (without s 0) ∙ ext (without s 0) s (λ i. omega (arith, bit-without s 0 i, bit-empty i))

  pub padded-run : (s : ℕ) (rs : List ℕ) → run F s (rs ++ (0 ∷ [])) ≡ run F s rs
  padded-run s rs = run_more s 0 rs ∙ idle-after (run F s rs)

  pub padded-rounds : (s : ℕ) (rs : List ℕ) → Rounds F s rs → Rounds F s (rs ++ (0 ∷ []))
  padded-rounds s rs h = rounds-more s 0 rs h (idle-round (run F s rs))

  pub padded-plan : (rs : List ℕ) → Plan F rs → Plan F (rs ++ (0 ∷ []))
  padded-plan rs p = record { rounds = padded-rounds F.start rs p.rounds; reached = subst (λ (x : ℕ). F.goal ⊆ x) (sym (padded-run F.start rs)) p.reached }

  -- ---- rounds that reach a goal

  -- one round more, and one without a step
  pub reaches-next : (k g h r : ℕ) (rs : List ℕ) → Reaches F k g rs → Round F (run F F.start rs) r → h ⊆ after F (run F F.start rs) r
      → Reaches F (suc k) h (rs ++ (r ∷ []))
  reaches-next k g h r rs before round e =
      record {
        rounds = rounds-more F.start r rs before.rounds round;
        reached = subst (λ (x : ℕ). h ⊆ x) (sym (run_more F.start r rs)) e;
        many = omega (arith, length-append rs (r ∷ []), before.many);
      }

  pub reaches_more : (k g : ℕ) (rs : List ℕ) → Reaches F k g rs → Reaches F (suc k) g (rs ++ (0 ∷ []))
  reaches_more k g rs h =
      let s = run F F.start rs in reaches-next k g g 0 rs h (idle-round s) (subst (λ (x : ℕ). g ⊆ x) (sym (idle-after s)) h.reached)

  -- all but the last round
  pub reaches-last : (k g : ℕ) (rs : List ℕ) → Reaches F (suc k) g rs
      → (qs : List ℕ) × (q : ℕ) × Reaches F k (run F F.start qs) qs × Round F (run F F.start qs) q × (g ⊆ after F (run F F.start qs) q)
  reaches-last k g [] h = absurd (omega (arith, h.many))
  reaches-last k g (r ∷ rs) h =
      let (qs, q, v, round, e, l) = last-round F.start r rs h.rounds in
      (qs, q, record { rounds = v; reached = part-refl (run F F.start qs); many = omega (arith, h.many) }, round, subst (λ (x : ℕ). g ⊆ x) e h.reached)

  pub reaches-part : (k g h : ℕ) (rs : List ℕ) → h ⊆ g → Reaches F k g rs → Reaches F k h rs
  reaches-part k g h rs p r = record { rounds = r.rounds; reached = λ i. le_trans (p i) (r.reached i); many = r.many }
