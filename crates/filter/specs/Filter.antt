-- The projection filter (docs/RULES.md, "Sets, groups and filter"; 001, definitions 3 and 4). Groups, live set and projection goal are given.
use Rattle.std.specs.Prelude.{◌≡◌, ◌⊎◌, Bool, not, cond, ◌&&◌, ◌||◌, List, [], ◌∷◌, ℕ, suc, ◌^◌, ◌<◌, leb, ltb, eqb, length, get_or, take}
use Rattle.std.proofs.Math.Option.{Option}
use Rattle.std.specs.Int.Bits.{bit_and}
use Rattle.sets.specs.Ranges.{given, sum_to, max_to}
use Rattle.sets.specs.Sets.{◌⊆◌, member, part, without, full, set_of, count}
use Rattle.sets.specs.First.{first_from}
use Rattle.network.specs.Network.{Network}

-- ---- what is lent

-- reason 12: the live set names an article that a file of n articles lacks
unfoldable pub outside : ℕ → ℕ → Bool
outside n live = leb (2 ^ n) live

-- reason 13: a goal is empty or not within the order
unfoldable pub bad_goal : ℕ → ℕ → Bool
bad_goal order p = eqb p 0 || not (part p order)

-- the index of the first such goal, its place
unfoldable pub first_bad : ℕ → List ℕ → Option ℕ
first_bad order goals = first_from (λ i. bad_goal order (get_or goals i 0)) (length goals) 0

-- ---- the pass

-- the wishes of p that article u carries, counted; none if u is not live or not of group j
unfoldable pub share : Network → (ℕ → ℕ) → ℕ → ℕ → ℕ → ℕ → ℕ
share N group live p j u = given (member live u && eqb (group u) j) (count (bit_and (N.wishes u) p))

-- the contribution of group j: the greatest count of wishes of p on one of its live members; 0 without a live member (001, definition 3)
unfoldable pub contribution : Network → (ℕ → ℕ) → ℕ → ℕ → ℕ → ℕ
contribution N group live p j = max_to N.articles (share N group live p j)

-- the sum of all contributions
unfoldable pub total : Network → (ℕ → ℕ) → ℕ → ℕ → ℕ
total N group live p = sum_to N.articles (contribution N group live p)

-- the sum of the contributions of all groups but k
unfoldable pub others : Network → (ℕ → ℕ) → ℕ → ℕ → ℕ → ℕ
others N group live p k = sum_to N.articles (λ j. given (not (eqb j k)) (contribution N group live p j))

-- whether v is supported: the other groups contribute at least as many wishes as p has beyond those of v (001, definition 4)
unfoldable pub supported : Network → (ℕ → ℕ) → ℕ → ℕ → ℕ → Bool
supported N group live p v = leb (count (without p (N.wishes v))) (others N group live p (group v))

-- a pass: the live articles that are supported; the contributions are those before it
unfoldable pub pass : Network → (ℕ → ℕ) → ℕ → ℕ → ℕ
pass N group live p = set_of N.articles (λ v. member live v && supported N group live p v)

-- a pass for each goal, in turn
unfoldable pub passes : Network → (ℕ → ℕ) → ℕ → List ℕ → ℕ
passes N group live [] = live
passes N group live (p ∷ ps) = passes N group (pass N group live p) ps

-- ---- how far the wishes can go

-- whether a goal falls short before its pass: the contributions add up to less than its count
unfoldable pub falls_short : Network → (ℕ → ℕ) → ℕ → ℕ → Bool
falls_short N group live p = ltb (total N group live p) (count p)

-- the place of 14: which goal of a list is the first that falls short, if each is judged by what is live before its own pass; if none does, the length
-- of the list
unfoldable pub first_short : Network → (ℕ → ℕ) → ℕ → List ℕ → ℕ
first_short N group live [] = 0
first_short N group live (p ∷ ps) = cond (falls_short N group live p) 0 (suc (first_short N group (pass N group live p) ps))

-- the same in words. What is live before the pass for goal i, and the sum of that pass
abbrev pub live_before : Network → (ℕ → ℕ) → ℕ → List ℕ → ℕ → ℕ
live_before N group live goals i = passes N group live (take i goals)

abbrev pub sum_before : Network → (ℕ → ℕ) → ℕ → List ℕ → ℕ → ℕ
sum_before N group live goals i = total N group (live_before N group live goals i) (get_or goals i 0)

-- goal i falls short
abbrev pub Short : Network → (ℕ → ℕ) → ℕ → List ℕ → ℕ → Type 0
Short N group live goals i = sum_before N group live goals i < count (get_or goals i 0)

-- a place at which a goal falls short, or the length of the list; and no goal before it falls short
abbrev pub FirstShort : Network → (ℕ → ℕ) → ℕ → List ℕ → ℕ → Type 0
FirstShort N group live goals place =
    (((place < length goals) × Short N group live goals place) ⊎ (place ≡ length goals)) × ((j : ℕ) → j < place → Short N group live goals j → ⊥)

-- ---- the choice

-- every goal lies within the order
abbrev pub GoalsWithin : ℕ → List ℕ → Type 0
GoalsWithin order [] = Unit {0}
GoalsWithin order (p ∷ ps) = (p ⊆ order) × GoalsWithin order ps

-- the articles that are no longer live after the passes, if all were live before
unfoldable pub set_aside : Network → (ℕ → ℕ) → List ℕ → ℕ
set_aside N group goals = without (full N.articles) (passes N group (full N.articles) goals)
