-- Passes as loops compute them: the contributions group by group, their sum, and the set of those that are supported; one pass after the other. Assumes
-- nothing.
use mathlib.Core.Path.{◌≡◌, refl, sym, ap, ap₂, subst, ◌∙◌}
use mathlib.Core.Logic.{◌⊎◌, inl, inr, ◌≢◌}
use mathlib.Core.Bool.{Bool, true, false, ◌&&◌}
use mathlib.Core.List.{List}
use Prim.Native.Nat.{ℕ, ◌+◌, ◌^◌, ◌≤◌, ◌<◌, max}
use native.Mathlib.Omega.{arith}
use native.Mathlib.Numerals.{add-one}
use native.Mathlib.Decide.{dec_le, dec_lt}
use lib.Bits.{bit_and, bit_or, and_comm}
use lib.Dec.{leb, eqb}
use lib.ListN.{length, get_or, set, replicate, length-set, length-replicate, get_or-replicate}
use lib.Seq.{get_or-set_same, get_or-set_other, ext_get_or}
use borrow.Author.Tests.{le-leb, lt-leb, eq-eqb, ne_eqb}
use Rattle.sets.specs.Ranges.{given, sum_to, max_to, list_to}
use Rattle.sets.specs.Sets.{member, without, count, set_of}
use Rattle.sets.proofs.Ranges.{same_cases, given_both, given-zero, sum-cong, sum_past, sum-but, max-most, max-turn, list_length, list_at}
use Rattle.sets.proofs.Made.{set-made}
use Rattle.sets.proofs.Counts.{count-le, count-without}
use Rattle.network.specs.Network.{Network}
use Rattle.filter.specs.Filter.{share, contribution, total, others, supported, pass, passes, first_short, live_before, sum_before, Short}
use Rattle.filter.proofs.BoundLaws.{contribution-most, short-same, passes-next}

-- an answer that is true at the very numbers at which a comparison holds
pub same_test : (r : Bool) (a b : ℕ) → (a ≤ b → r ≡ true) → (b < a → r ≡ false) → r ≡ leb a b
same_test r a b passes fails = go (dec_le a b)
  where
    go : Dec (a ≤ b) → r ≡ leb a b
    go (yes h) = passes h ∙ sym (le-leb a b h)
    go (no h) = let l : b < a = omega arith in fails l ∙ sym (lt-leb a b l)

-- what the goal has beyond the wishes of v is its count less what v carries of it
pub lacking-left : (p s want own rest : ℕ) → want ≡ count p → own ≡ count (bit_and s p) → leb want (rest + own) ≡ leb (count (without p s)) rest
lacking-left p s want own rest ew eo = go (dec_le (count (without p s)) rest)
  where
    whole : count (without p s) + own ≡ want
    whole = ap (λ (x : ℕ). count (without p s) + x) (eo ∙ ap count (and_comm s p)) ∙ count-without p s ∙ sym ew

    go : Dec (count (without p s) ≤ rest) → leb want (rest + own) ≡ leb (count (without p s)) rest
    go (yes h) = le-leb want (rest + own) (omega (arith, whole)) ∙ sym (le-leb (count (without p s)) rest h)
    go (no h) = lt-leb want (rest + own) (omega (arith, whole)) ∙ sym (lt-leb (count (without p s)) rest (omega arith))

module _ (N : Network) (group : ℕ → ℕ) (live p : ℕ) where
  -- the words hold, for each group, the most that one of the articles below u carries
  abbrev pub Best : List ℕ → ℕ → Type 0
  Best best u = (length best ≡ 64) × ((j : ℕ) → j < 64 → get_or best j 0 ≡ max_to u (share N group live p j))

  pub best-start : Best (replicate {A = ℕ} 64 0) 0
  unfolding max_to
  best-start = (length-replicate {A = ℕ} 64 0, λ j l. get_or-replicate 64 j 0 0 l)

  abbrev pub carried_by : ℕ → ℕ
  carried_by u = given (member live u) (count (bit_and (N.wishes u) p))

  share-own : (u : ℕ) → share N group live p (group u) u ≡ carried_by u
  unfolding share
  share-own u =
      given_both (member live u) (eqb (group u) (group u)) (count (bit_and (N.wishes u) p))
      ∙ ap (λ (b : Bool). given (member live u) (given b (count (bit_and (N.wishes u) p)))) (eq-eqb (group u) (group u) refl)

  share_other : (u j : ℕ) → j ≢ group u → share N group live p j u ≡ 0
  unfolding share
  share_other u j d =
      given_both (member live u) (eqb (group u) j) (count (bit_and (N.wishes u) p))
      ∙ ap (λ (b : Bool). given (member live u) (given b (count (bit_and (N.wishes u) p)))) (ne_eqb (group u) j (λ e. d (sym e)))
      ∙ given-zero (member live u)

  pub best-turn : (best : List ℕ) (u x m : ℕ) → Best best u → group u < 64 → x ≡ carried_by u → m ≡ max (get_or best (group u) 0) x → Best (set best (group u) m) (u + 1)
  best-turn best u x m (size, held) h ex em = (length-set best (group u) m ∙ size, λ j l. go j l (same_cases j (group u)))
    where
      go : (j : ℕ) → j < 64 → (j ≡ group u) ⊎ (j ≢ group u) → get_or (set best (group u) m) j 0 ≡ max_to (u + 1) (share N group live p j)
      go j l (inl e) =
          ap (λ (i : ℕ). get_or (set best (group u) m) i 0) e
          ∙ get_or-set_same best (group u) m 0 (omega (arith, size))
          ∙ em ∙ ap₂ max (held (group u) h) (ex ∙ sym (share-own u))
          ∙ sym (max-turn u (share N group live p (group u)))
          ∙ ap (λ (i : ℕ). max_to (u + 1) (share N group live p i)) (sym e)
      go j l (inr d) =
          get_or-set_other best (group u) j m 0 d
          ∙ omega (arith, held j l, max-turn u (share N group live p j), share_other u j d)

  pub best-end : (best : List ℕ) (u : ℕ) → Best best u → u ≡ N.articles → best ≡ list_to 64 (λ j. contribution N group live p j)
  unfolding contribution
  best-end best u (size, held) e =
      ext_get_or 0 best (list_to 64 (λ j. contribution N group live p j)) (size ∙ sym (list_length 64 (λ j. contribution N group live p j)))
      (λ j l. let k : j < 64 = omega (arith, size) in
      held j k ∙ ap (λ (n : ℕ). max_to n (share N group live p j)) e ∙ sym (list_at 64 (λ j. contribution N group live p j) 0 j k))

  word_at : (best : List ℕ) → best ≡ list_to 64 (λ j. contribution N group live p j) → (j : ℕ) → j < 64 → get_or best j 0 ≡ contribution N group live p j
  word_at best e j l = ap (λ (b : List ℕ). get_or b j 0) e ∙ list_at 64 (λ j. contribution N group live p j) 0 j l

  -- a goal of one word has at most 64 wishes, and no group contributes more
  pub best-small : (best : List ℕ) → best ≡ list_to 64 (λ j. contribution N group live p j) → p < 2 ^ 64 → (j : ℕ) → j < 64 → get_or best j 0 ≤ 64
  best-small best e h j l = omega (arith, word_at best e j l, contribution-most N group live p j, count-le 64 p h)

  -- no article is of a group past the last
  contribution-past : ((u : ℕ) → u < N.articles → group u < N.articles) → (j : ℕ) → N.articles ≤ j → contribution N group live p j ≡ 0
  unfolding contribution
  contribution-past inside j h =
      let z : contribution N group live p j ≤ 0 = max-most N.articles (share N group live p j) 0
      (λ u l. omega (arith, share_other u j (λ e. let f : ⊥ = omega (arith, inside u l) in f))) in
      omega (arith, z)

  -- the 64 words add up to the sum of all contributions
  pub sum-total : (best : List ℕ) (all : ℕ) → ((u : ℕ) → u < N.articles → group u < N.articles) → N.articles ≤ 64
      → best ≡ list_to 64 (λ j. contribution N group live p j) → all ≡ sum_to 64 (λ j. get_or best j 0) → all ≡ total N group live p
  unfolding total
  sum-total best all inside few e ea =
      ea
      ∙ sum-cong 64 (λ j. get_or best j 0) (contribution N group live p) (word_at best e)
      ∙ sum_past N.articles 64 (contribution N group live p) few (contribution-past inside)

  -- the sum of the 64 words, less that of k, is what the other groups contribute
  pub others-left : (best : List ℕ) (all k : ℕ) → ((u : ℕ) → u < N.articles → group u < N.articles) → N.articles ≤ 64
      → best ≡ list_to 64 (λ j. contribution N group live p j) → all ≡ sum_to 64 (λ j. get_or best j 0) → k < N.articles
      → all ≡ get_or best k 0 + others N group live p k
  unfolding total others
  others-left best all k inside few e ea l =
      sum-total best all inside few e ea
      ∙ sum-but N.articles k (contribution N group live p) l
      ∙ ap (λ (x : ℕ). x + others N group live p k) (sym (word_at best e k (omega arith)))

  -- whether v is in the pass
  abbrev pub keeps : ℕ → Bool
  keeps v = member live v && supported N group live p v

  pub pass-turn : (s v rest r : ℕ) (passed : Bool) → s ≡ set_of v keeps → rest ≡ others N group live p (group v)
      → passed ≡ (member live v && leb (count (without p (N.wishes v))) rest) → r ≡ bit_or s (given passed (2 ^ v)) → r ≡ set_of (v + 1) keeps
  unfolding supported
  pass-turn s v rest r passed es er ep e = set-made keeps s v r passed es (ep ∙ ap (λ (x : ℕ). member live v && leb (count (without p (N.wishes v))) x) er) e

  pub pass-end : (s v : ℕ) → s ≡ set_of v keeps → v ≡ N.articles → s ≡ pass N group live p
  unfolding pass
  pass-end s v e h = e ∙ ap (λ (n : ℕ). set_of n keeps) h

-- ---- passes in turn

module _ (N : Network) (group : ℕ → ℕ) (all : ℕ) (goals : List ℕ) where
  -- before the pass for goal i: this is live, and no goal so far fell short
  abbrev pub Onward : ℕ → ℕ → Type 0
  Onward live i = (live ≡ live_before N group all goals i) × ((j : ℕ) → j < i → Short N group all goals j → ⊥)

  pub onward-start : {live : ℕ} → live ≡ all → Onward live 0
  unfolding passes
  onward-start e = (e, λ j l s. absurd (omega arith))

  -- a pass was made for goal i, with what is live
  module _ {live i : ℕ} (so_far : Onward live i) (l : i < length goals) {lent goal sum want : ℕ} (same_live : lent ≡ live) (same-goal : goal ≡ get_or goals i 0)
      (es : sum ≡ total N group lent goal) (ew : want ≡ count goal) where
    sum_is : sum ≡ sum_before N group all goals i
    sum_is = es ∙ ap₂ (total N group) (same_live ∙ so_far.0) same-goal

    want_is : want ≡ count (get_or goals i 0)
    want_is = ew ∙ ap count same-goal

    -- the goal falls short
    pub onward-short : sum < want → first_short N group all goals ≡ i
    onward-short h = sym (short-same N group all goals i (inl (l, omega (arith, h, sum_is, want_is)), so_far.1))

    -- it does not
    pub onward-turn : {next : ℕ} → want ≤ sum → next ≡ pass N group lent goal → Onward next (i + 1)
    onward-turn {next} h e = (left, λ j k s. go j k s (dec_lt j i))
      where
        left : next ≡ live_before N group all goals (i + 1)
        left = e ∙ ap₂ (pass N group) (same_live ∙ so_far.0) same-goal ∙ rw add-one (sym (passes-next N group all goals i l))

        go : (j : ℕ) → j < i + 1 → Short N group all goals j → Dec (j < i) → ⊥
        go j k s (yes b) = so_far.1 j b s
        go j k s (no d) = let here : j ≡ i = omega arith in omega (arith, h, sum_is, want_is, subst (Short N group all goals) here s)

  -- no goal is left
  pub onward-end : {live i : ℕ} → Onward live i → i ≡ length goals → first_short N group all goals ≡ i
  onward-end {i = i} so_far e = sym (short-same N group all goals i (inr e, so_far.1))
