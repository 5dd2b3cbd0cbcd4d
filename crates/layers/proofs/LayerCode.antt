-- From layer to layer as the code goes: tables of vertices, and words in arrays that are longer than they need to be. Assumes nothing.
use mathlib.Core.Path.{◌≡◌, refl, sym, ap, ap₂, subst, ◌∙◌}
use mathlib.Core.Bool.{Bool, true, false, not, ◌&&◌, ◌||◌, cond}
use mathlib.Core.List.{List, []}
use Prim.Native.Nat.{ℕ, zero, suc, ◌+◌, ◌-◌, ◌^◌, ◌≤◌, ◌<◌}
use native.Mathlib.Decide.{dec_lt}
use native.Mathlib.Numerals.{add-one}
use native.Mathlib.Omega.{arith}
use lib.ListN.{length, get_or, replicate}
use lib.Pow.{pow-lt, pow_pos, pow_mono}
use borrow.Author.Tests.{lt-ltb, le-ltb}
use Rattle.sets.specs.Ranges.{given, list_to}
use Rattle.sets.specs.Sets.{part, meets, set_of, gathered}
use Rattle.sets.proofs.Ranges.{list_at, list-past, list_length}
use Rattle.jobfile.proofs.ReadLaws.{padded-at}
use Rattle.planning.specs.Rounds.{Steps, Fitting, listed_steps, disturb}
use Rattle.planning.specs.Layers.{Layer, mutexes, vertices, opposed, stands, rivals, standing, round_over, givers, excluded, given_by, facts_over, fact_layer, round_layer}
use Rattle.planning.specs.Back.{Sized}
use Rattle.layers.specs.Meaning.{layer, roomy, vertex_words}
use Rattle.planning.proofs.WordLaws.{words-length}

-- ---- vertices

-- a table of vertices has the word of every vertex, if no step past the last has one
vertex-at : (w : ℕ) (kept : Bool) (steps : List ℕ) → ((a : ℕ) → w ≤ a → get_or steps a 0 ≡ 0) → (x : ℕ) → get_or (list_to (w + w) (vertex_words w kept steps)) x 0 ≡ vertex_words w kept steps x
vertex-at w kept steps none x = go (dec_lt x (w + w))
  where
    go : Dec (x < w + w) → get_or (list_to (w + w) (vertex_words w kept steps)) x 0 ≡ vertex_words w kept steps x
    go (yes l) = list_at (w + w) (vertex_words w kept steps) 0 x l
    go (no l) =
        list-past (w + w) (vertex_words w kept steps) 0 x (omega arith)
        ∙ sym (ap (λ (t : Bool). cond t (given kept (2 ^ x)) (get_or steps (x - w) 0)) (le-ltb x w (omega arith)) ∙ none (x - w) (omega arith))

module _ (w count facts start goal horizon : ℕ) (ns gs ts : List ℕ) where
  abbrev stated : Fitting
  stated = record { count = count; facts = facts; steps = listed_steps ns gs ts; start = start; goal = goal; horizon = horizon }

  -- the tables of the code are the vertices
  pub vertices-listed : Sized w stated → {needs gives takes : List ℕ}
      → needs ≡ list_to (w + w) (vertex_words w true ns) → gives ≡ list_to (w + w) (vertex_words w true gs) → takes ≡ list_to (w + w) (vertex_words w false ts)
      → listed_steps needs gives takes ≡ vertices w stated
  vertices-listed ok en eg et =
      (λ i. listed_steps (en i) (eg i) (et i))
      ∙ (λ i. record {
        needs = λ x. vertex-at w true ns (λ a l. (ok.past a (omega (arith, ok.few))).0) x i;
        gives = λ x. vertex-at w true gs (λ a l. (ok.past a (omega (arith, ok.few))).1) x i;
        takes = λ x. vertex-at w false ts (λ a l. (ok.past a (omega (arith, ok.few))).2) x i;
      })

  -- what a vertex needs are facts that there is room for
  pub needs-fit : Sized w stated → {needs : List ℕ} → needs ≡ list_to (w + w) (vertex_words w true ns) → (v : ℕ) → v < w + w → get_or needs v 0 < 2 ^ w
  needs-fit ok {needs} e v l = subst (λ (x : ℕ). x < 2 ^ w) (sym (ap (λ (t : List ℕ). get_or t v 0) e ∙ list_at (w + w) (vertex_words w true ns) 0 v l)) (go (dec_lt v w))
    where
      room : (a : ℕ) → Dec (a < count) → get_or ns a 0 < 2 ^ w
      room a (yes k) = omega (arith, ok.needs a k, pow_mono {i = facts} {j = w} ok.room)
      room a (no k) = omega (arith, (ok.past a (omega arith)).0, pow_pos w)

      go : Dec (v < w) → vertex_words w true ns v < 2 ^ w
      go (yes k) = subst (λ (t : Bool). cond t (2 ^ v) (get_or ns (v - w) 0) < 2 ^ w) (sym (lt-ltb v w k)) (pow-lt k)
      go (no k) = subst (λ (t : Bool). cond t (2 ^ v) (get_or ns (v - w) 0) < 2 ^ w) (sym (le-ltb v w (omega arith))) (room (v - w) (dec_lt (v - w) count))

-- ---- words in longer arrays

module _ (w size : ℕ) (S : Steps) (top : ℕ) (L : Layer) (few : length L.words ≤ size) where
  -- the round layer by what is opposed to a set of facts
  by-opposed : (ℕ → ℕ) → Layer
  by-opposed o = record { members = set_of top (test o); words = mutexes (w + w) (set_of top (test o)) (pairs o) }
    where
      test : (ℕ → ℕ) → ℕ → Bool
      test o x = part (S.needs x) L.members && not (meets (o (S.needs x)) (S.needs x))

      pairs : (ℕ → ℕ) → ℕ → ℕ → Bool
      pairs o x y = disturb S x y || meets (o (S.needs x)) (S.needs y)

  same-opposed : (s : ℕ) → opposed w (roomy size L) s ≡ opposed w L s
  unfolding opposed
  same-opposed s = ap (λ (f : ℕ → ℕ). gathered w s f) (λ i u. padded-at size L.words few u i)

  pub round-roomy : round_over w S top (roomy size L) ≡ round_over w S top L
  unfolding round_over standing stands rivals by-opposed
  round-roomy = ap by-opposed (λ i s. same-opposed s i)

-- ---- all layers

pub facts-length : (w : ℕ) (F : Fitting) (k : ℕ) → length (fact_layer w F k).words ≡ w
unfolding fact_layer facts_over
facts-length w F zero = list_length w (λ p. 0)
facts-length w F (suc k) = words-length w _ _

pub rounds-length : (w : ℕ) (F : Fitting) (k : ℕ) → length (round_layer w F k).words ≡ w + w
unfolding round_over
rounds-length w F k = words-length (w + w) _ _

-- the start in an array
pub layer-start : (F : Fitting) → layer F.start (replicate {A = ℕ} 64 0) ≡ roomy 64 (fact_layer 32 F 0)
unfolding fact_layer list_to
layer-start F = refl

-- one round layer
pub layer-round : (F : Fitting) (S : Steps) (k : ℕ) (below r : Layer) → S ≡ vertices 32 F → below ≡ roomy 64 (fact_layer 32 F k) → r ≡ round_over 32 S (32 + F.count) below
    → r ≡ round_over 32 (vertices 32 F) (32 + F.count) (fact_layer 32 F k)
layer-round F S k below r es eb er =
    er ∙ ap₂ (λ (T : Steps) (L : Layer). round_over 32 T (32 + F.count) L) es eb
    ∙ round-roomy 32 64 (vertices 32 F) (32 + F.count) (fact_layer 32 F k) (omega (arith, facts-length 32 F k))

-- and the fact layer over it: only what is given counts
facts-gives : (w : ℕ) (ns gs ts : List ℕ) (R : Layer) → facts_over w (listed_steps [] gs []) R ≡ facts_over w (listed_steps ns gs ts) R
unfolding facts_over given_by excluded givers
facts-gives w ns gs ts R = refl

pub layer-facts : (F : Fitting) (ns gs ts : List ℕ) (k : ℕ) (below r : Layer) → listed_steps ns gs ts ≡ vertices 32 F → below ≡ round_over 32 (vertices 32 F) (32 + F.count) (fact_layer 32 F k)
    → r ≡ roomy 64 (facts_over 32 (listed_steps [] gs []) below) → r ≡ roomy 64 (fact_layer 32 F (k + 1))
unfolding fact_layer
layer-facts F ns gs ts k below r es eb er =
    rw add-one (er ∙ ap (roomy 64) (facts-gives 32 ns gs ts below) ∙ ap₂ (λ (T : Steps) (L : Layer). roomy 64 (facts_over 32 T L)) es eb)
