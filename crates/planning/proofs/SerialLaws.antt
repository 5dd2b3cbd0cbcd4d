-- The steps of a round may be made one after the other, by their numbers. So what no sequence of single steps reaches, no plan reaches.
-- Assumes nothing.
use mathlib.Core.Path.{◌≡◌, refl, sym, ap, ap₂, subst, ◌∙◌}
use mathlib.Core.Logic.{◌⊎◌, inl, inr}
use mathlib.Core.List.{List, [], ◌∷◌}
use Prim.Native.Nat.{ℕ, zero, suc, ◌+◌, ◌-◌, ◌≤◌, ◌<◌, max}
use native.Mathlib.Nat.{le_refl}
use native.Mathlib.Omega.{arith}
use lib.Bits.{bit_or, or_zero_r}
use Rattle.sets.specs.Sets.{bit, ◌∈◌, ◌⊆◌, without, gathered, union_to}
use Rattle.sets.proofs.Bits.{bit_le, bit-cases, bit-empty, bit-or, bit-without, ext, not_in, member-yes, member-no, part_in, in-part, without_in, or_left, or_right, no-meets}
use Rattle.sets.proofs.Made.{gathered-from}
use Rattle.planning.specs.Rounds.{Fitting, after, Round, run, Rounds, Plan}
use Rattle.planning.proofs.WordLaws.{disturb-turned, undisturbed}

-- the facts after step a alone
abbrev pub stepped : Fitting → ℕ → ℕ → ℕ
stepped F s a = bit_or (without s (F.steps.takes a)) (F.steps.gives a)

-- the facts after the steps of a round that are below n
abbrev pub partly : Fitting → ℕ → ℕ → ℕ → ℕ
partly F s r n = bit_or (without s (gathered n r F.steps.takes)) (gathered n r F.steps.gives)

-- at one bit: what is taken and given together, and one after the other
one_bit : (s taken t given g : ℕ) → s ≤ 1 → t + given ≤ 1 → max (s - max taken t) (max given g) ≡ max (max (s - taken) given - t) g
one_bit s taken zero given g l h =
    let here : s - max taken 0 ≡ s - taken = omega arith in
    let there : max (s - taken) given - 0 ≡ max (s - taken) given = omega arith in
    rw (here, there) (or-three (s - taken) given g)
  where
    or-three : (x y z : ℕ) → max x (max y z) ≡ max (max x y) z
    or-three x y z = omega arith
one_bit s taken (suc t) given g l h =
    let here : s - max taken (suc t) ≡ 0 = omega arith in
    let there : max (s - taken) given - suc t ≡ 0 = omega arith in
    let none : given ≡ 0 = omega arith in
    rw (here, there, none) (omega arith)

module _ (F : Fitting) (s r : ℕ) where
  -- before the first step, and after the last one
  pub partly_none : partly F s r 0 ≡ s
  unfolding gathered union_to
  partly_none = or_zero_r (without s 0) ∙ ext (without s 0) s (λ i. omega (arith, bit-without s 0 i, bit-empty i))

  pub partly-all : partly F s r F.count ≡ after F s r
  unfolding after
  partly-all = refl

  -- a step that is not of the round
  pub partly-skip : (n : ℕ) → bit r n ≡ 0 → partly F s r (suc n) ≡ partly F s r n
  unfolding gathered union_to
  partly-skip n z =
      rw (member-no r n z)
      (ap₂ (λ (t g : ℕ). bit_or (without s t) g) (or_zero_r (gathered n r F.steps.takes)) (or_zero_r (gathered n r F.steps.gives)))

module _ (F : Fitting) (s r : ℕ) (round : Round F s r) (n : ℕ) (here : n ∈ r) where
  abbrev taken_below : ℕ
  taken_below = gathered n r F.steps.takes

  abbrev given_below : ℕ
  given_below = gathered n r F.steps.gives

  -- a lower step takes nothing that step n needs, so step n may be made
  needs-left : (i : ℕ) → i ∈ F.steps.needs n → bit taken_below i ≡ 0
  needs-left i e =
      not_in taken_below i
      (λ h.
      let (a, l, m, t) = gathered-from n F.steps.takes r i h in
      no-meets (F.steps.takes a) (bit_or (F.steps.needs n) (F.steps.gives n)) (undisturbed F.steps a n (round.calm a n l m here)) i t
      (or_left (F.steps.needs n) (F.steps.gives n) i e))

  pub partly-ready : F.steps.needs n ⊆ partly F s r n
  partly-ready =
      in-part (F.steps.needs n) (partly F s r n)
      (λ i e. or_left (without s taken_below) given_below i (without_in s taken_below i (part_in (F.steps.needs n) s (round.ready n here) i e) (needs-left i e)))

  -- and step n takes nothing that a lower one gives
  gives_left : (i : ℕ) → i ∈ F.steps.takes n → bit given_below i ≡ 0
  gives_left i e =
      not_in given_below i
      (λ h.
      let (a, l, m, g) = gathered-from n F.steps.gives r i h in
      no-meets (F.steps.takes n) (bit_or (F.steps.needs a) (F.steps.gives a))
      (undisturbed F.steps n a (disturb-turned F.steps n a ∙ round.calm a n l m here)) i e
      (or_right (F.steps.needs a) (F.steps.gives a) i g))

  pub partly-step : partly F s r (suc n) ≡ stepped F (partly F s r n) n
  unfolding gathered union_to
  partly-step = rw (member-yes r n here) (ext (bit_or (without s (bit_or taken_below t)) (bit_or given_below g)) (stepped F (partly F s r n) n) same)
    where
      t : ℕ
      t = F.steps.takes n

      g : ℕ
      g = F.steps.gives n

      apart : (i : ℕ) → (bit t i ≡ 0) ⊎ (i ∈ t) → bit t i + bit given_below i ≤ 1
      apart i (inl z) = omega (arith, bit_le given_below i)
      apart i (inr e) = omega (arith, gives_left i e)

      same : (i : ℕ) → bit (bit_or (without s (bit_or taken_below t)) (bit_or given_below g)) i ≡ bit (stepped F (partly F s r n) n) i
      same i =
          let all = bit-or (without s (bit_or taken_below t)) (bit_or given_below g) i ∙ ap₂ max (bit-without s (bit_or taken_below t) i ∙ ap (λ (x : ℕ). bit s i - x) (bit-or taken_below t i)) (bit-or given_below g i) in
          let before = bit-or (without s taken_below) given_below i ∙ ap (λ (x : ℕ). max x (bit given_below i)) (bit-without s taken_below i) in
          let one = bit-or (without (partly F s r n) t) g i ∙ ap (λ (x : ℕ). max x (bit g i)) (bit-without (partly F s r n) t i ∙ ap (λ (x : ℕ). x - bit t i) before) in
          all ∙ one_bit (bit s i) (bit taken_below i) (bit t i) (bit given_below i) (bit g i) (bit_le s i) (apart i (bit-cases t i)) ∙ sym one

-- ---- states that steps lead to

module _ (F : Fitting) (S : ℕ → Type 0) (closed : (s a : ℕ) → S s → a < F.count → F.steps.needs a ⊆ s → S (stepped F s a)) where
  closed-partly : (s r n : ℕ) → Round F s r → S s → n ≤ F.count → S (partly F s r n)
  closed-partly s r zero round h l = subst S (sym (partly_none F s r)) h
  closed-partly s r (suc n) round h l = go (closed-partly s r n round h (omega arith)) (bit-cases r n)
    where
      go : S (partly F s r n) → (bit r n ≡ 0) ⊎ (n ∈ r) → S (partly F s r (suc n))
      go p (inl z) = subst S (sym (partly-skip F s r n z)) p
      go p (inr e) = subst S (sym (partly-step F s r round n e)) (closed (partly F s r n) n p (omega arith) (partly-ready F s r round n e))

  pub closed-round : (s r : ℕ) → Round F s r → S s → S (after F s r)
  closed-round s r round h = subst S (partly-all F s r) (closed-partly s r F.count round h (le_refl F.count))

  pub closed-rounds : (s : ℕ) (rs : List ℕ) → Rounds F s rs → S s → S (run F s rs)
  unfolding run
  closed-rounds s [] v h = h
  closed-rounds s (r ∷ rs) (a, v) h = closed-rounds (after F s r) rs v (closed-round s r a h)

  -- if the start is one of them and none has the goal, there is no plan of any length
  pub closed-hopeless : S F.start → ((s : ℕ) → S s → F.goal ⊆ s → ⊥) → (rs : List ℕ) → Plan F rs → ⊥
  closed-hopeless start none rs p = none (run F F.start rs) (closed-rounds F.start rs p.rounds start) p.reached
