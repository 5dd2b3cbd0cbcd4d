-- What advice on a job rests on. It asks the choice about changed jobs (the wishes of some articles emptied, another order) and concludes
-- something about the job itself: each such conclusion is a theorem here, first over networks, then over jobs as files state them. Assumes nothing.
use mathlib.Core.Path.{◌≡◌, refl, sym, ap, ap₂, subst, ◌∙◌}
use mathlib.Core.Logic.Iff
use mathlib.Core.Logic.{◌⊎◌, inl, inr, ◌↔◌, ◌≢◌}
use mathlib.Core.Bool.{Bool, true, false, not, cond}
use mathlib.Core.List.{List, [], ◌∷◌}
use mathlib.Core.Option.{Option, none, some, none-ne-some}
use Prim.Native.Nat.{ℕ, zero, suc, ◌+◌, ◌-◌, ◌^◌, ◌<◌, max}
use native.Mathlib.Nat.{le_trans, lt_of_le_of_lt}
use native.Mathlib.Omega.{arith}
use lib.Bits.{bit_or}
use lib.Dec.{eqb}
use lib.ListN.{get_or}
use Rattle.sets.specs.Ranges.{num, given}
use Rattle.sets.specs.Sets.{bit, ◌∈◌, ◌⊆◌, member, without, full}
use Rattle.sets.specs.First.{Smallest}
use Rattle.sets.proofs.Ranges.{num-either, false-num, num-false, same-yes, same-no, given-zero, given_yes, given-no}
use Rattle.sets.proofs.Bits.{bit_le, bit-cases, bit-empty, not_in, bit-one, one-alone, in-part, part_in, part-full, member-yes, member-no, member_below, member-differs, full-below, bit-full, bit-without, without-le, without_in, in_without, more_same}
use Rattle.sets.proofs.Made.{set-bit}
use Rattle.jobfile.specs.Job.{Record, Job, column, size, order, wishes}
use Rattle.network.specs.Network.{Network, network_of, clash, Selection, Cover}
use Rattle.network.proofs.NetworkLaws.{clash-turned}
use Rattle.choice.specs.Choice.{selection}
use Rattle.choice.specs.Search.{Beside}
use Rattle.advice.specs.Advice.{Apart, emptied, barred, smallest_of, with_first, wishless, emptied_from, emptied_job, ordered, left_by}
use Rattle.choice.proofs.ChoiceLaws.{cover-selection, selection-cover, selection-right}
use Rattle.choice.proofs.CoverLaws.{covered-by, by-covered, widened, taken, given-up}
use Rattle.choice.proofs.Theorems.{none-exactly, exactly-none, the-smallest}

-- an answer that is a set exactly if there is something, is none exactly if there is nothing
none-by : {P Q : ℕ → Type 0} (a : Option ℕ) → ((y : ℕ) × (a ≡ some y)) ↔ ((x : ℕ) × P x × Q x) → (a ≡ none) ↔ ((x : ℕ) → P x → Q x → ⊥)
none-by none h = (λ e x p q. let (y, f) = h.1 (x, p, q) in none-ne-some y f, λ fails. refl)
none-by (some y) h = (λ e. absurd (none-ne-some y (sym e)), λ fails. let (x, p, q) = h.0 (y, refl) in absurd (fails x p q))

-- ---- networks

-- all articles but those of out
abbrev all_but : Network → ℕ → ℕ
all_but N out = without (full N.articles) out

module _ (N : Network) where
  -- a selection for an order is one for each part of it
  pub part-selection : {p q : ℕ} → p ⊆ q → (x : ℕ) → Selection N q x → Selection N p x
  part-selection h x s = record { within = s.within; free = s.free; covers = λ i. le_trans (h i) (s.covers i) }

  -- so if there is none for a part of the order, there is none for the order
  pub none-for-part : {p q : ℕ} → p ⊆ q → ((x : ℕ) → Selection N p x → ⊥) → (x : ℕ) → Selection N q x → ⊥
  none-for-part h fails x s = fails x (part-selection h x s)

  -- a selection without some articles is a cover by all others
  apart-cover : (need out x : ℕ) → Selection N need x → Apart x out → Cover N (all_but N out) need x
  apart-cover need out x s a = record {
    within = in-part x (all_but N out) (λ i m. without_in (full N.articles) out i (part_in x (full N.articles) (part-full N.articles x s.within) i m) (not_in out i (a i m)));
    free = s.free;
    covers = s.covers;
  }

  cover-apart : (need out x : ℕ) → Cover N (all_but N out) need x → Selection N need x × Apart x out
  cover-apart need out x c = (
    cover-selection N need x (widened N (λ i. omega (arith, bit-without (full N.articles) out i)) c),
    λ u m o. omega (arith, (in_without (full N.articles) out u (part_in x (all_but N out) c.within u m)).1),
  )

  -- the articles that v does not bar are those that may be taken beside it
  barred-beside : (v : ℕ) → Beside N (full N.articles) v (all_but N (barred N v))
  unfolding barred
  barred-beside v = record { down = down; up = up }
    where
      bits : (i : ℕ) → i ∈ full N.articles → bit (barred N v) i ≡ max (num (eqb i v)) (num (clash N i v))
      bits i m =
          set-bit N.articles _ i (member_below (full N.articles) N.articles i (full-below N.articles) m)
          ∙ omega (arith, num-either (eqb i v) (clash N i v))

      down : (i : ℕ) → i ∈ all_but N (barred N v) → (i ∈ full N.articles) × (i ≢ v) × (clash N v i ≡ false)
      down i m =
          let (mi, z) = in_without (full N.articles) (barred N v) i m in
          (mi, λ e. omega (arith, bits i mi, same-yes i v e), clash-turned N v i ∙ false-num (clash N i v) (omega (arith, bits i mi)))

      up : (i : ℕ) → i ∈ full N.articles → i ≢ v → clash N v i ≡ false → i ∈ all_but N (barred N v)
      up i m d f =
          let none = num-false (clash N i v) (clash-turned N i v ∙ f) in
          without_in (full N.articles) (barred N v) i m (omega (arith, bits i m, same-no i v d))

  -- an article carries what it carried, unless its wishes are emptied
  emptied-bit : (out u w : ℕ) → bit ((emptied N out).wishes u) w ≡ bit (N.wishes u) w - bit out u
  emptied-bit out u w = go (bit-cases out u)
    where
      go : (bit out u ≡ 0) ⊎ (bit out u ≡ 1) → bit ((emptied N out).wishes u) w ≡ bit (N.wishes u) w - bit out u
      go (inl z) = omega (arith, ap (λ (e : ℕ). bit e w) (given_yes (not (member out u)) (N.wishes u) (ap not (member-no out u z))))
      go (inr m) = omega (arith, bit_le (N.wishes u) w, bit-empty w, ap (λ (e : ℕ). bit e w) (given-no (not (member out u)) (N.wishes u) (ap not (member-yes out u m))))

module _ (N : Network) (order : ℕ) where
  -- with the wishes of some articles emptied there is a selection, exactly if there is one without these articles
  pub emptied-exactly : (out : ℕ) → ((x : ℕ) × Selection (emptied N out) order x) ↔ ((x : ℕ) × Selection N order x × Apart x out)
  unfolding clash
  emptied-exactly out = (λ (x, s). (without x out, less x s, λ u m o. omega (arith, (in_without x out u m).1)), λ (x, s, a). (x, same x s a))
    where
      less : (x : ℕ) → Selection (emptied N out) order x → Selection N order (without x out)
      less x s = record {
        within = lt_of_le_of_lt (without-le x out) s.within;
        free = λ u v l mu mv. s.free u v l (in_without x out u mu).0 (in_without x out v mv).0;
        covers = by-covered N (without x out) order carried;
      }
        where
          carried : (w : ℕ) → w ∈ order → (u : ℕ) × (u < N.articles) × (u ∈ without x out) × (w ∈ N.wishes u)
          carried w m =
              let (u, l, mu, mw) = covered-by (emptied N out) x order s.covers w m in
              (u, l, without_in x out u mu (omega (arith, emptied-bit N out u w, bit_le (N.wishes u) w)), omega (arith, emptied-bit N out u w, bit_le (N.wishes u) w))

      same : (x : ℕ) → Selection N order x → Apart x out → Selection (emptied N out) order x
      same x s a = record { within = s.within; free = s.free; covers = by-covered (emptied N out) x order carried }
        where
          carried : (w : ℕ) → w ∈ order → (u : ℕ) × (u < N.articles) × (u ∈ x) × (w ∈ (emptied N out).wishes u)
          carried w m =
              let (u, l, mu, mw) = covered-by N x order s.covers w m in (u, l, mu, omega (arith, emptied-bit N out u w, not_in out u (a u mu)))

  -- an article is in every selection, exactly if with its wishes emptied there is none
  pub in-every : (v : ℕ) → ((x : ℕ) → Selection N order x → v ∈ x) ↔ ((x : ℕ) → Selection (emptied N (2 ^ v)) order x → ⊥)
  in-every v = (λ every x s. let (y, t, a) = (emptied-exactly (2 ^ v)).0 (x, s) in a v (every y t) (bit-one v), λ fails x s. go fails x s (bit-cases x v))
    where
      go : ((x : ℕ) → Selection (emptied N (2 ^ v)) order x → ⊥) → (x : ℕ) → Selection N order x → (bit x v ≡ 0) ⊎ (bit x v ≡ 1) → v ∈ x
      go fails x s (inl z) = let (y, t) = (emptied-exactly (2 ^ v)).1 (x, s, λ u m o. member-differs x u v m z (one-alone v u o)) in absurd (fails y t)
      go fails x s (inr m) = m

  -- an article is in some selection, exactly if what it leaves of the order has a selection without the article and those that it clashes with
  pub in_some : (v : ℕ) → v < N.articles
      → ((x : ℕ) × Selection N order x × (v ∈ x)) ↔ ((x : ℕ) × Selection N (without order (N.wishes v)) x × Apart x (barred N v))
  in_some v h = (λ (x, s, m). let (t, a) = less x s m in (without x (2 ^ v), t, a), λ (x, s, a). (bit_or x (2 ^ v), more x s a, more_same x v))
    where
      less : (x : ℕ) → Selection N order x → v ∈ x → Selection N (without order (N.wishes v)) (without x (2 ^ v)) × Apart (without x (2 ^ v)) (barred N v)
      less x s m =
          cover-apart N (without order (N.wishes v)) (barred N v) (without x (2 ^ v))
          (given-up N (full N.articles) order v x (all_but N (barred N v)) (barred-beside N v) m (selection-cover N order x s))

      more : (x : ℕ) → Selection N (without order (N.wishes v)) x → Apart x (barred N v) → Selection N order (bit_or x (2 ^ v))
      more x s a =
          cover-selection N order (bit_or x (2 ^ v))
          (taken N (full N.articles) order v x (all_but N (barred N v)) h (bit-full N.articles v h) (barred-beside N v)
          (apart-cover N (without order (N.wishes v)) (barred N v) x s a))

  -- the choice answers none exactly if there is no selection, and a set exactly if there is one: for the order of a job, and for another (`ordered`)
  pub none-answered : (selection N order 0 ≡ none) ↔ ((x : ℕ) → Selection N order x → ⊥)
  none-answered = (λ e x s. none-exactly N order 0 e x s (omega arith), λ fails. exactly-none N order 0 (λ x s _. fails x s))

  pub some-answered : ((y : ℕ) × (selection N order 0 ≡ some y)) ↔ ((x : ℕ) × Selection N order x)
  some-answered = (λ (y, e). (y, (the-smallest N order 0 y e).holds), λ (x, s). go x s (selection N order 0) (selection-right N order 0))
    where
      go : (x : ℕ) → Selection N order x → (a : Option ℕ) → Smallest (Selection N order) 0 a → (y : ℕ) × (a ≡ some y)
      go x s (some y) r = (y, refl)
      go x s none r = absurd (r x s (omega arith))

-- ---- the records of a changed job

-- a record without wishes has the empty set for its first, and its second as it was
first-emptied : {N : Type 0} (b : Bool) (r : Record N) → get_or (cond b (wishless r) r).before 0 0 ≡ given (not b) (get_or r.before 0 0)
first-emptied true r = refl
first-emptied false r = refl

second-kept : {N : Type 0} (b : Bool) (r : Record N) → get_or (cond b (wishless r) r).before 1 0 ≡ get_or r.before 1 0
second-kept true r = go r.before
  where
    go : (sets : List ℕ) → get_or (with_first 0 sets) 1 0 ≡ get_or sets 1 0
    go [] = refl
    go (s ∷ sets) = refl
second-kept false r = refl

wishes-emptied : {N : Type 0} (out i u k : ℕ) (rs : List (Record N)) → k ≡ i + u → get_or (column 0 (emptied_from out i rs)) u 0 ≡ given (not (member out k)) (get_or (column 0 rs) u 0)
unfolding emptied_from
wishes-emptied out i u k [] h = sym (given-zero (not (member out k)))
wishes-emptied out i zero k (r ∷ rs) h =
    let same : i ≡ k = omega arith in first-emptied (member out i) r ∙ ap (λ (j : ℕ). given (not (member out j)) (get_or r.before 0 0)) same
wishes-emptied out i (suc u) k (r ∷ rs) h = wishes-emptied out (suc i) u k rs (omega arith)

clashes-kept : {N : Type 0} (out i : ℕ) (rs : List (Record N)) → column 1 (emptied_from out i rs) ≡ column 1 rs
unfolding emptied_from
clashes-kept out i [] = refl
clashes-kept out i (r ∷ rs) = ap₂ ◌∷◌ (second-kept (member out i) r) (clashes-kept out (suc i) rs)

-- ---- jobs: what the choice for a changed job tells of the job itself

module _ {N : Type 0} (job : Job N) where
  wishes-changed : (out u : ℕ) → get_or (wishes (emptied_job job out)) u 0 ≡ given (not (member out u)) (get_or (wishes job) u 0)
  wishes-changed out u = wishes-emptied out _ u u job.records (omega arith)

  -- the network of the job with the wishes of some articles emptied
  pub emptied-network : (out : ℕ) → network_of (emptied_job job out) ≡ emptied (network_of job) out
  emptied-network out = λ i. record { articles = size job; wishes = λ u. wishes-changed out u i; clashes = λ u. get_or (clashes-kept out 0 job.records i) u 0 }

  -- the job with the wishes of some articles emptied has a selection, exactly if the job has one without these articles
  pub some-without : (out : ℕ) → ((y : ℕ) × (smallest_of (emptied_job job out) ≡ some y)) ↔ ((x : ℕ) × Selection (network_of job) (order job) x × Apart x out)
  some-without out =
      Iff.trans (some-answered (network_of (emptied_job job out)) (order job))
      (subst (λ (M : Network). ((x : ℕ) × Selection M (order job) x) ↔ ((x : ℕ) × Selection (network_of job) (order job) x × Apart x out)) (sym (emptied-network out))
      (emptied-exactly (network_of job) (order job) out))

  -- it has none, exactly if the job has none without these articles
  pub none-without : (out : ℕ) → (smallest_of (emptied_job job out) ≡ none) ↔ ((x : ℕ) → Selection (network_of job) (order job) x → Apart x out → ⊥)
  none-without out = none-by (smallest_of (emptied_job job out)) (some-without out)

  -- the job with the wishes of v emptied has no selection, exactly if every selection of the job has v
  pub always-exactly : (v : ℕ) → (smallest_of (emptied_job job (2 ^ v)) ≡ none) ↔ ((x : ℕ) → Selection (network_of job) (order job) x → v ∈ x)
  always-exactly v =
      Iff.trans (none-answered (network_of (emptied_job job (2 ^ v))) (order job))
      (subst (λ (M : Network). ((x : ℕ) → Selection M (order job) x → ⊥) ↔ ((x : ℕ) → Selection (network_of job) (order job) x → v ∈ x)) (sym (emptied-network (2 ^ v)))
      (Iff.symm (in-every (network_of job) (order job) v)))

  -- if there is no selection for a part of the order, the job has none
  pub part_none : (p : ℕ) → p ⊆ order job → smallest_of (ordered job p) ≡ none → smallest_of job ≡ none
  part_none p h e = (none-answered (network_of job) (order job)).1 (none-for-part (network_of job) h ((none-answered (network_of job) p).0 e))

module _ {N : Type 0} (job : Job N) (v : ℕ) (h : v < size job) where
  -- the job that v leaves has a selection, exactly if some selection of the job has v
  pub sometimes-exactly : ((y : ℕ) × (smallest_of (left_by job v) ≡ some y)) ↔ ((x : ℕ) × Selection (network_of job) (order job) x × (v ∈ x))
  sometimes-exactly =
      Iff.trans (some-without (ordered job (without (order job) ((network_of job).wishes v))) (barred (network_of job) v)) (Iff.symm (in_some (network_of job) (order job) v h))

  -- it has none, exactly if no selection of the job has v
  pub never-exactly : (smallest_of (left_by job v) ≡ none) ↔ ((x : ℕ) → Selection (network_of job) (order job) x → v ∈ x → ⊥)
  never-exactly = none-by (smallest_of (left_by job v)) sometimes-exactly
