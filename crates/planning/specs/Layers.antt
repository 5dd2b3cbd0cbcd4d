-- The layers of the planning graph (docs/RULES.md, "Layers"; 000, definitions 8 and 9). There is room for w facts and w steps.
use Rattle.std.specs.Prelude.{Bool, not, ◌&&◌, ◌||◌, cond, List, ℕ, zero, suc, ◌+◌, ◌-◌, ◌^◌, ltb, eqb, get_or}
use Rattle.sets.specs.Ranges.{given, every_to, list_to}
use Rattle.sets.specs.Sets.{member, part, meets, set_of, gathered}
use Rattle.planning.specs.Rounds.{Steps, Fitting, disturb}

-- a set of facts or of vertices, and for each number the set of those that it is mutex with
pub record Layer : Type 0 where
  pub members : ℕ
  pub words : List ℕ

-- the words of the members m below n, by the pairs that pass a test: absent members have 0, and nothing is mutex with itself
abbrev pub mutex_with : ℕ → (ℕ → ℕ → Bool) → ℕ → ℕ → Bool
mutex_with m test p q = member m q && (not (eqb p q) && test p q)

abbrev pub mutex_word : ℕ → ℕ → (ℕ → ℕ → Bool) → ℕ → ℕ
mutex_word n m test p = given (member m p) (set_of n (mutex_with m test p))

unfoldable pub mutexes : ℕ → ℕ → (ℕ → ℕ → Bool) → List ℕ
mutexes n m test = list_to n (mutex_word n m test)

-- vertex w + a is step a; a vertex t below w keeps fact t: it is a step with t as its one need and its one gift
abbrev pub vertices : ℕ → Fitting → Steps
vertices w F = record {
  needs = λ x. cond (ltb x w) (2 ^ x) (F.steps.needs (x - w));
  gives = λ x. cond (ltb x w) (2 ^ x) (F.steps.gives (x - w));
  takes = λ x. cond (ltb x w) 0 (F.steps.takes (x - w));
}

-- ---- from a fact layer to the round layer over it; S are the vertices, and all of them are below top

-- the facts that are mutex with a member of s
unfoldable pub opposed : ℕ → Layer → ℕ → ℕ
opposed w L s = gathered w s (λ i. get_or L.words i 0)

-- whether a vertex is in the layer: its needs lie in the fact layer, no two of them mutex there
unfoldable pub stands : ℕ → Steps → Layer → ℕ → Bool
stands w S L x = part (S.needs x) L.members && not (meets (opposed w L (S.needs x)) (S.needs x))

-- whether two vertices are mutex: they disturb, or there are two mutex facts, one needed by each (000, definition 8)
unfoldable pub rivals : ℕ → Steps → Layer → ℕ → ℕ → Bool
rivals w S L x y = disturb S x y || meets (opposed w L (S.needs x)) (S.needs y)

-- the vertices that are in the layer
unfoldable pub standing : ℕ → Steps → ℕ → Layer → ℕ
standing w S top L = set_of top (stands w S L)

unfoldable pub round_over : ℕ → Steps → ℕ → Layer → Layer
round_over w S top L = record { members = standing w S top L; words = mutexes (w + w) (standing w S top L) (rivals w S L) }

-- ---- from a round layer to the fact layer over it

-- the vertices that give fact p
unfoldable pub givers : ℕ → Steps → Layer → ℕ → ℕ
givers w S R p = set_of (w + w) (λ x. member R.members x && member (S.gives x) p)

-- whether two facts are mutex: no vertex gives both, and any two that give one each are mutex (000, definition 9)
unfoldable pub excluded : ℕ → Steps → Layer → ℕ → ℕ → Bool
excluded w S R p q =
    every_to (w + w) (λ x. not (member (givers w S R p) x) || part (givers w S R q) (get_or R.words x 0)) && not (meets (givers w S R p) (givers w S R q))

-- what the round layer gives
unfoldable pub given_by : ℕ → Steps → Layer → ℕ
given_by w S R = gathered (w + w) R.members S.gives

unfoldable pub facts_over : ℕ → Steps → Layer → Layer
facts_over w S R = record { members = given_by w S R; words = mutexes w (given_by w S R) (excluded w S R) }

-- ---- all layers

-- fact layer 0 is the start, without mutexes; each later one is made from the round layer with its number
unfoldable pub fact_layer : ℕ → Fitting → ℕ → Layer
fact_layer w F zero = record { members = F.start; words = list_to w (λ p. 0) }
fact_layer w F (suc k) = facts_over w (vertices w F) (round_over w (vertices w F) (w + F.count) (fact_layer w F k))

-- round layer k, for k from 1 on, is the one over fact layer k - 1
abbrev pub round_layer : ℕ → Fitting → ℕ → Layer
round_layer w F k = round_over w (vertices w F) (w + F.count) (fact_layer w F (k - 1))
