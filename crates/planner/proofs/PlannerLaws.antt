-- What is worked back over the tables of the round layers is what rounds reach, so the search finds the fewest rounds. Assumes nothing.
use mathlib.Core.Path.{◌≡◌, refl, sym, ap, subst, ◌∙◌}
use mathlib.Core.Bool.{◌||◌, or_self}
use mathlib.Core.List.{List, [], ◌∷◌, ◌++◌}
use Prim.Native.Nat.{ℕ, zero, suc, ◌+◌, ◌-◌, ◌*◌, ◌^◌, ◌≤◌, ◌<◌}
use native.Mathlib.Decide.{dec_lt, dec_le}
use native.Mathlib.Omega.{arith}
use lib.Dec.{eqb}
use lib.ListN.{length, get_or, take, drop}
use lib.Pow.{pow-lt}
use lib.Seq.{take-suc, length-take-le, get_or-take}
use borrow.Author.Tests.{lt-ltb, le-ltb}
use Rattle.sets.specs.Ranges.{num, list_to}
use Rattle.sets.specs.Sets.{bit, ◌⊆◌, member, gathered}
use Rattle.sets.proofs.Ranges.{list_length, list_at, list-past}
use Rattle.sets.proofs.Bits.{ext-below, num-member, part-full}
use Rattle.sets.proofs.Made.{set_below, set-bit}
use Rattle.network.specs.Network.{Network, listed, clash, Cover}
use Rattle.sets.specs.Tables.{transposed}
use Rattle.network.specs.Tables.{both_ways}
use Rattle.sets.proofs.Filled.{filled-end}
use Rattle.network.proofs.TableLaws.{both_row}
use Rattle.planning.specs.Rounds.{Fitting, run, Plan, fewest}
use Rattle.planning.specs.Layers.{vertices, rivals, standing, round_over, fact_layer}
use Rattle.planning.specs.Back.{layer_network, Selects, needed, steps_of, Reaches, Sized}
use Rattle.planning.proofs.PlanLaws.{PlanOf, none-fewest, some-fewest, reaches_more}
use Rattle.planning.proofs.WordLaws.{words-length, rounds-words, rounds-turned}
use Rattle.planning.proofs.LayerLaws.{has_room}
use Rattle.planning.proofs.BackLaws.{reaches-plan, forth, back}
use Rattle.supports.specs.Supports.{row_of}
use Rattle.extraction.specs.Extraction.{all_facts, Graph, graph, Picks, needs_of, Back, Held, Fine}
use Rattle.planner.specs.Meaning.{planned_by}
use Rattle.planner.specs.Planner.{Words}
use Rattle.planner.specs.Tabulated.{round_after, Layered, Laid}
use Rattle.std.specs.Prelude.{Option, Some, None}

-- ---- what the search works on, and what it finds

-- the tables of a graph are those of the round layers 1 to h
pub record Tabulated (F : Fitting) (h : ℕ) (T : Graph) : Type 0 where
  pub sized : Sized 32 F
  pub start : T.start ≡ F.start
  pub needs : T.needs ≡ list_to 64 (vertices 32 F).needs
  pub gives : T.gives ≡ list_to 64 (vertices 32 F).gives
  pub members : T.members ≡ list_to h (λ j. (round_after F j).members)
  pub rows : (j : ℕ) → j < h → row_of T.words j ≡ (round_after F j).words
  pub long : 64 * h ≤ length T.words

-- the fewest rounds in which a goal can be worked back, with such selections; or that this cannot be done within the horizon
abbrev pub Searched : Graph → ℕ → ℕ → List ℕ → List ℕ → Option ℕ → Type 0
Searched T h g old new (Some k) = (k ≤ h) × Held T k g new × ((i : ℕ) → i < k → Back T i g → ⊥) × (drop k new ≡ drop k old)
Searched T h g old new None = (new ≡ old) × ((i : ℕ) → i ≤ h → Back T i g → ⊥)

-- ---- tables

-- a table of a function that is 0 from its end on has every value of it
table_at : (n : ℕ) (f : ℕ → ℕ) → ((x : ℕ) → n ≤ x → f x ≡ 0) → (x : ℕ) → get_or (list_to n f) x 0 ≡ f x
table_at n f none x = go (dec_lt x n)
  where
    go : Dec (x < n) → get_or (list_to n f) x 0 ≡ f x
    go (yes l) = list_at n f 0 x l
    go (no l) = list-past n f 0 x (omega arith) ∙ sym (none x (omega arith))

-- clashes that are symmetric are said both ways
both-turned : (w : ℕ) (cs : List ℕ) → length cs ≡ w → ((u : ℕ) → get_or cs u 0 < 2 ^ w) → ((u v : ℕ) → bit (get_or cs u 0) v ≡ bit (get_or cs v 0) u) → cs ≡ both_ways w cs
unfolding both_ways clash
both-turned w cs many below turned =
    filled-end w (both_row w cs) cs w
    (many, λ u l. ext-below w (get_or cs u 0) (both_row w cs u) (below u) (set_below w (clash N u)) (λ v k. sym (set-bit w (clash N u) v k ∙ said u v))) refl
  where
    N : Network
    N = listed w [] cs

    said : (u v : ℕ) → num (clash N u v) ≡ bit (get_or cs u 0) v
    said u v =
        ap (λ (b : ℕ). num (member (get_or cs u 0) v || eqb b 1)) (turned v u)
        ∙ ap num (or_self (member (get_or cs u 0) v))
        ∙ num-member (get_or cs u 0) v

module _ (F : Fitting) (sized : Sized 32 F) where
  -- a vertex past the last one needs and gives nothing
  vertex-past : (x : ℕ) → 64 ≤ x → ((vertices 32 F).needs x ≡ 0) × ((vertices 32 F).gives x ≡ 0)
  vertex-past x l =
      let none = sized.past (x - 32) (omega (arith, sized.few)) in
      rw (le-ltb x 32 (omega arith)) (none.0, none.1)

  -- what a vertex needs are facts that there is room for
  vertex-needs : (x : ℕ) → (vertices 32 F).needs x < 2 ^ 32
  vertex-needs x = go (dec_lt x 32)
    where
      step : (a : ℕ) → Dec (a < F.count) → F.steps.needs a < 2 ^ 32
      step a (yes l) = has_room 32 F sized (F.steps.needs a) (sized.needs a l)
      step a (no l) = omega (arith, (sized.past a (omega arith)).0)

      go : Dec (x < 32) → (vertices 32 F).needs x < 2 ^ 32
      go (yes l) = rw (lt-ltb x 32 l) (pow-lt l)
      go (no l) = rw (le-ltb x 32 (omega arith)) (step (x - 32) (dec_lt (x - 32) F.count))

pub round-length : (F : Fitting) (j : ℕ) → length (round_after F j).words ≡ 64
unfolding round_over
round-length F j = words-length 64 (standing 32 (vertices 32 F) (32 + F.count) (fact_layer 32 F j)) (rivals 32 (vertices 32 F) (fact_layer 32 F j))

-- ---- the tables of the round layers

module _ (F : Fitting) (h : ℕ) (T : Graph) (ok : Tabulated F h T) where
  gives_at : (x : ℕ) → get_or T.gives x 0 ≡ (vertices 32 F).gives x
  gives_at x =
      ap (λ (t : List ℕ). get_or t x 0) ok.gives ∙ table_at 64 (vertices 32 F).gives (λ y l. (vertex-past F ok.sized y l).1) x

  needs-at : (x : ℕ) → get_or T.needs x 0 ≡ (vertices 32 F).needs x
  needs-at x =
      ap (λ (t : List ℕ). get_or t x 0) ok.needs ∙ table_at 64 (vertices 32 F).needs (λ y l. (vertex-past F ok.sized y l).0) x

  members-at : (j : ℕ) → j < h → get_or T.members j 0 ≡ (round_after F j).members
  members-at j l = ap (λ (t : List ℕ). get_or t j 0) ok.members ∙ list_at h (λ j. (round_after F j).members) 0 j l

  pub members-length : length T.members ≡ h
  members-length = ap length ok.members ∙ list_length h (λ j. (round_after F j).members)

  network-same : (j : ℕ) → j < h → listed 64 T.gives (row_of T.words j) ≡ layer_network 32 F (round_after F j)
  network-same j l = λ i. record { articles = 64; wishes = λ x. gives_at x i; clashes = λ x. get_or (ok.rows j l i) x 0 }

  -- so selections of the tables are selections of the layers
  picks-same : (j g x : ℕ) → j < h → Picks T j g x ≡ Selects 32 F (round_after F j) g x
  picks-same j g x l = λ i. Cover (network-same j l i) (members-at j l i) g x

  pub picks-selects : (j g x : ℕ) → j < h → Picks T j g x → Selects 32 F (round_after F j) g x
  picks-selects j g x l p = subst (λ (X : Type 0). X) (picks-same j g x l) p

  pub selects-picks : (j g x : ℕ) → j < h → Selects 32 F (round_after F j) g x → Picks T j g x
  selects-picks j g x l p = subst (λ (X : Type 0). X) (sym (picks-same j g x l)) p

  pub needed-same : (x : ℕ) → needs_of T x ≡ needed 32 F x
  unfolding needed
  needed-same x = λ i. gathered 64 x (λ v. needs-at v i)

  -- ---- what is worked back is reached, and what is reached can be worked back

  pub back-reaches : (k g : ℕ) → k ≤ h → Back T k g → (rs : List ℕ) × Reaches F k g rs
  unfolding Back run
  back-reaches zero g l b = ([], record { rounds = tt; reached = subst (λ (s : ℕ). g ⊆ s) ok.start b; many = refl })
  back-reaches (suc j) g l (x, p, b) =
      let (rs, r) = back-reaches j (needs_of T x) (omega arith) b in
      (rs ++ (steps_of 32 x ∷ []), forth 32 F ok.sized j g x rs (picks-selects j g x (omega arith) p) (subst (λ (n : ℕ). Reaches F j n rs) (needed-same x) r))

  -- so that without a plan no count of rounds works the goal back
  pub unplanned : ((rs : List ℕ) → Plan F rs → ⊥) → (i : ℕ) → i ≤ h → Back T i F.goal → ⊥
  unplanned none i l b = let (rs, r) = back-reaches i F.goal l b in none rs (reaches-plan F i rs r)

  pub reaches-back : (k g : ℕ) → k ≤ h → (rs : List ℕ) → Reaches F k g rs → Back T k g
  unfolding Back run
  reaches-back zero g l [] r = subst (λ (s : ℕ). g ⊆ s) (sym ok.start) r.reached
  reaches-back zero g l (q ∷ rs) r = absurd (omega (arith, r.many))
  reaches-back (suc j) g l rs r =
      let (x, sel, (qs, rest)) = back 32 F ok.sized j g rs r in
      (x, selects-picks j g x (omega arith) sel, reaches-back j (needs_of T x) (omega arith) qs (subst (λ (n : ℕ). Reaches F j n qs) (sym (needed-same x)) rest))

  -- more rounds reach it as well
  later : (d k r g : ℕ) → k + d ≡ r → r ≤ h → Back T k g → Back T r g
  later zero k r g e l b = subst (λ (n : ℕ). Back T n g) (let same : k ≡ r = omega arith in same) b
  later (suc d) k r g e l b =
      let (rs, reached) = back-reaches k g (omega arith) b in
      later d (suc k) r g (omega arith) l (reaches-back (suc k) g (omega arith) (rs ++ (0 ∷ [])) (reaches_more F k g rs reached))

  -- the words that are held are the rounds
  pub held-reaches : (k g : ℕ) (q : List ℕ) → k ≤ h → k ≤ length q → Held T k g q → Reaches F k g (take k q)
  unfolding Held run
  held-reaches zero g q l m b = record { rounds = tt; reached = subst (λ (s : ℕ). g ⊆ s) ok.start b; many = refl }
  held-reaches (suc j) g q l m (x, p, e, b) =
      let r = held-reaches j (needs_of T x) q (omega arith) (omega arith) b in
      let same : take j q ++ (steps_of 32 x ∷ []) ≡ take (suc j) q = ap (λ (y : ℕ). take j q ++ (y ∷ [])) (sym e) ∙ sym (take-suc q j 0 (omega arith)) in
      subst (Reaches F (suc j) g) same
      (forth 32 F ok.sized j g x (take j q) (picks-selects j g x (omega arith) p) (subst (λ (n : ℕ). Reaches F j n (take j q)) (needed-same x) r))

  held_back : (k g : ℕ) (q : List ℕ) → Held T k g q → Back T k g
  unfolding Held Back
  held_back zero g q b = b
  held_back (suc j) g q (x, p, e, b) = (x, p, held_back j (needs_of T x) q b)

  -- ---- extraction may work on these tables

  shared : (j : ℕ) → j < h → row_of T.words j ≡ both_ways 64 (row_of T.words j)
  shared j l =
      subst (λ (row : List ℕ). row ≡ both_ways 64 row) (sym (ok.rows j l))
      (both-turned 64 (round_after F j).words (round-length F j) (rounds-words 32 F (fact_layer 32 F j)) (rounds-turned 32 F j))

  pub fine : (carriers : List ℕ) → h ≤ 16 → carriers ≡ transposed 64 T.gives → Fine T carriers
  fine carriers few e = record {
    inside = λ v. rw (needs-at v) (part-full 32 ((vertices 32 F).needs v) (vertex-needs F ok.sized v));
    short = omega (arith, members-length);
    rows = omega (arith, members-length, ok.long);
    tabled = λ j l. record { shared = shared j (omega (arith, members-length)); carried = e };
    grows = λ k r g l m b. later (r - k) k r g (omega arith) (omega (arith, members-length)) b;
  }

  pub goal-inside : F.goal ⊆ all_facts
  goal-inside = part-full 32 F.goal (has_room 32 F ok.sized F.goal ok.sized.goal)

  -- ---- what the search answers

  plan-back : (rs : List ℕ) → Plan F rs → length rs ≤ h → Back T (length rs) F.goal
  plan-back rs p l = reaches-back (length rs) F.goal l rs (record { rounds = p.rounds; reached = p.reached; many = refl })

  pub solved-count : (old new : List ℕ) (r : Option ℕ) → Searched T h F.goal old new r → r ≡ planned_by (fewest F h)
  solved-count old new (Some k) (l, held, fewer, keep) = sym (ap planned_by (some-fewest F h k l plan (λ rs p. least rs p (dec_le k (length rs)))))
    where
      plan : PlanOf F k
      plan =
          let (rs, r) = back-reaches k F.goal l (held_back k F.goal new held) in
          (rs, r.many, record { rounds = r.rounds; reached = r.reached })

      least : (rs : List ℕ) → Plan F rs → Dec (k ≤ length rs) → k ≤ length rs
      least rs p (yes m) = m
      least rs p (no m) = absurd (fewer (length rs) (omega arith) (plan-back rs p (omega arith)))
  solved-count old new None (same, none) = sym (ap planned_by (none-fewest F h (λ rs p l. none (length rs) l (plan-back rs p l))))

  pub solved-words : (old new : List ℕ) (r : Option ℕ) → Searched T h F.goal old new r → h ≤ length new → Words F old new r
  solved-words old new (Some k) (l, held, fewer, keep) m =
      let r = held-reaches k F.goal new l (omega arith) held in
      (record { rounds = r.rounds; reached = r.reached }, keep)
  solved-words old new None (same, none) m = same

-- ---- the tables that the code makes: arrays, of which the front is lent

pub layered : (F : Fitting) (h : ℕ) (members front words : List ℕ) → h ≤ 16 → Laid F h members words → front ≡ take h members → Layered F h front words
layered F h members front words few laid e = record {
  vertices = e ∙ filled-end h (λ j. (round_after F j).members) (take h members) h
      (length-take-le h members (omega (arith, laid.few)), λ j l. get_or-take h members j 0 l ∙ laid.vertices j l) refl;
  rows = laid.rows;
  long = omega (arith, laid.many);
}

pub tabulated : (F : Fitting) (h : ℕ) (needs gives members words : List ℕ) → Sized 32 F → needs ≡ list_to 64 (vertices 32 F).needs → gives ≡ list_to 64 (vertices 32 F).gives
    → Layered F h members words → Tabulated F h (graph needs gives members words F.start)
tabulated F h needs gives members words sized en eg lay = record {
  sized = sized;
  start = refl;
  needs = en;
  gives = eg;
  members = lay.vertices;
  rows = lay.rows;
  long = lay.long;
}
