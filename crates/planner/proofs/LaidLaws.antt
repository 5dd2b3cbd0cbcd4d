-- The round layers in flat tables: a row is put in its place, a turn adds a layer. Assumes nothing.
use mathlib.Core.Path.{◌≡◌, sym, ap, subst, ◌∙◌}
use mathlib.Core.List.{List, ◌++◌, append_assoc}
use Prim.Native.Nat.{ℕ, ◌+◌, ◌*◌, ◌≤◌, ◌<◌}
use native.Mathlib.Omega.{arith}
use lib.ListN.{length, take, drop, set, replicate, length-replicate}
use lib.Seq.{length-take-le, take_all, take-add, take-take, take-append-le, drop_at, paste, length-paste, take-paste}
use Rattle.sets.proofs.Ranges.{one_more}
use Rattle.sets.proofs.Filled.{Filled, filled-turn}
use Rattle.planning.specs.Rounds.{Fitting}
use Rattle.planning.specs.Layers.{Layer}
use Rattle.layers.specs.Meaning.{layer}
use Rattle.supports.specs.Supports.{row_of}
use Rattle.planner.specs.Tabulated.{round_after, Laid}
use Rattle.planner.proofs.PlannerLaws.{round-length}

-- ---- a row

-- m words from n on are what is left of the first n + m: so a row is known by the front that it ends
cut : (n m : ℕ) (l : List ℕ) → n ≤ length l → take m (drop n l) ≡ drop n (take (n + m) l)
cut n m l h = sym (ap (drop n) (take-add n m l) ∙ drop_at (take n l) (take m (drop n l)) n (length-take-le n l h))

-- in front of its place a copy changes nothing
paste-front : (k at n : ℕ) (d s : List ℕ) → k ≤ at → at ≤ length d → take k (paste d at s n) ≡ take k d
paste-front k at n d s l h =
    ap (take k) (append_assoc (take at d) (take n s) (drop (at + n) d))
    ∙ take-append-le k (take at d) (take n s ++ drop (at + n) d) (omega (arith, length-take-le at d h))
    ∙ take-take k at d l

module _ (j : ℕ) (row old : List ℕ) (wide : length row ≡ 64) (room : 64 * j + 64 ≤ length old) where
  same-many : length (paste old (64 * j) row 64) ≡ length old
  same-many = length-paste old (64 * j) row 64 room (omega arith)

  -- then the row is in its place, since what comes before it has the right length
  here : row_of (paste old (64 * j) row 64) j ≡ row
  unfolding row_of
  here =
      cut (64 * j) 64 (paste old (64 * j) row 64) (omega (arith, same-many))
      ∙ ap (drop (64 * j)) (take-paste old (64 * j) row 64 (omega arith) (omega arith))
      ∙ drop_at (take (64 * j) old) (take 64 row) (64 * j) (length-take-le (64 * j) old (omega arith))
      ∙ take_all 64 row (omega arith)

  -- and the rows in front of it end before it begins
  before : (i : ℕ) → i < j → row_of (paste old (64 * j) row 64) i ≡ row_of old i
  unfolding row_of
  before i l =
      cut (64 * i) 64 (paste old (64 * j) row 64) (omega (arith, same-many))
      ∙ ap (drop (64 * i)) (paste-front (64 * i + 64) (64 * j) 64 old row (omega arith) (omega arith))
      ∙ sym (cut (64 * i) 64 old (omega arith))

-- ---- all layers

-- before the first turn no layer is in the tables
pub laid_none : (F : Fitting) → Laid F 0 (replicate 16 0) (replicate 1024 0)
laid_none F = record {
  few = length-replicate {A = ℕ} 16 0;
  many = length-replicate {A = ℕ} 1024 0;
  vertices = λ i l. absurd (omega arith);
  rows = λ i l. absurd (omega arith);
}

-- a turn adds its own layer, and those below it stay in their places
pub laid-turn : (F : Fitting) (j m : ℕ) (row members words new : List ℕ) → j < 16 → Laid F j members words → layer m row ≡ round_after F j → new ≡ paste words (64 * j) row 64
    → Laid F (j + 1) (set members j m) new
laid-turn F j m row members words new room L e p = record {
  few = filled.0;
  many = ap length p ∙ same-many j row words wide fits ∙ L.many;
  vertices = filled.1;
  rows =
      one_more (λ i. row_of new i ≡ (round_after F i).words) j (λ i l. ap (λ (ws : List ℕ). row_of ws i) p ∙ before j row words wide fits i l ∙ L.rows i l)
      (ap (λ (ws : List ℕ). row_of ws j) p ∙ here j row words wide fits ∙ ap (λ (r : Layer). r.words) e);
}
  where
    filled : Filled 16 (λ i. (round_after F i).members) (set members j m) (j + 1)
    filled = filled-turn 16 (λ i. (round_after F i).members) members j m (L.few, L.vertices) room (ap (λ (r : Layer). r.members) e)

    wide : length row ≡ 64
    wide = ap (λ (r : Layer). length r.words) e ∙ round-length F j

    fits : 64 * j + 64 ≤ length words
    fits = omega (arith, L.many)

-- after the last turn all layers are there
pub laid_end : (F : Fitting) (j h : ℕ) (members words : List ℕ) → j ≡ h → Laid F j members words → Laid F h members words
laid_end F j h members words e L = subst (λ (n : ℕ). Laid F n members words) e L
