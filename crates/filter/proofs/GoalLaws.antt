-- The tests of what is lent to a pass: as the code makes them, and what holds if they are passed. Assumes nothing.
use mathlib.Core.Path.{◌≡◌, refl, sym, ap, ◌∙◌}
use mathlib.Core.Bool.{Bool, true, false, not, ◌||◌, cond, true≢false}
use mathlib.Core.List.{List, [], ◌∷◌}
use mathlib.Core.Option.{none}
use Prim.Native.Nat.{ℕ, suc, ◌+◌, ◌-◌, ◌^◌, ◌<◌}
use native.Mathlib.Numerals.{add-one}
use native.Mathlib.Omega.{arith}
use lib.Dec.{leb, eqb}
use lib.ListN.{length, get_or}
use borrow.Author.Tests.{eq-eqb, ne_eqb}
use Rattle.sets.specs.Sets.{◌⊆◌, without, part}
use Rattle.sets.specs.First.{first_from}
use Rattle.sets.proofs.Bits.{yes-part}
use Rattle.sets.specs.Handed.{handed_by}
use Rattle.sets.proofs.First.{left-start, first-hit, first-miss, first-none}
use Rattle.std.specs.List.{position, position_from}
use Rattle.std.specs.Prelude.{Some}
use Rattle.std.proofs.lemmas.Iterator.Adapters.{position_from-zero}
use Rattle.filter.specs.Meaning.{goals_by}
use Rattle.filter.specs.Filter.{outside, bad_goal, first_bad, GoalsWithin}

pub outside-is : (n live : ℕ) → leb (2 ^ n) live ≡ outside n live
unfolding outside
outside-is n live = refl

module _ (order p : ℕ) where
  pub bad-empty : p ≡ 0 → true ≡ bad_goal order p
  unfolding bad_goal
  bad-empty e = sym (ap (λ t. t || not (part p order)) (eq-eqb p 0 e))

  pub bad-part : (p ≡ 0 → ⊥) → {r : ℕ} → r ≡ without p order → not (eqb r 0) ≡ bad_goal order p
  unfolding bad_goal part
  bad-part d e = ap (λ (x : ℕ). not (eqb x 0)) e ∙ sym (ap (λ t. t || not (eqb (without p order) 0)) (ne_eqb p 0 d))

-- all goals are left at first
pub all_left : (order : ℕ) (goals : List ℕ) → first_from (λ i. bad_goal order (get_or goals i 0)) (length goals) (length goals - length goals) ≡ first_bad order goals
unfolding first_bad
all_left order goals = left-start (λ i. bad_goal order (get_or goals i 0)) (length goals)

-- ---- the first goal that is refused, as the code finds it

-- a list is searched for the first element that passes as its numbers are
position-from : (test : ℕ → Bool) (xs : List ℕ) (x : ℕ) (at : ℕ → Bool) → ((i : ℕ) → i < length xs → at (x + i) ≡ test (get_or xs i 0)) → position_from test x xs ≡ handed_by (first_from at (length xs) x)
unfolding first_from
position-from test [] x at h = refl
position-from test (y ∷ ys) x at h = go (test y) refl (position-from test ys (x + 1) at (λ i l. let e : x + 1 + i ≡ x + suc i = omega arith in ap at e ∙ h (suc i) (omega arith)))
  where
    here : at x ≡ test y
    here = let e : x ≡ x + 0 = omega arith in ap at e ∙ h 0 (omega arith)

    go : (b : Bool) → test y ≡ b → position_from test (x + 1) ys ≡ handed_by (first_from at (length ys) (x + 1)) → position_from test x (y ∷ ys) ≡ handed_by (first_from at (suc (length ys)) x)
    go true e r = ap (λ (t : Bool). cond t (Some x) (position_from test (x + 1) ys)) e ∙ sym (ap handed_by (first-hit at (length ys) x (here ∙ e)))
    go false e r =
        ap (λ (t : Bool). cond t (Some x) (position_from test (x + 1) ys)) e
        ∙ r
        ∙ ap handed_by (ap (first_from at (length ys)) (add-one x) ∙ sym (first-miss at (length ys) x (here ∙ e)))

pub position-bad : (order : ℕ) (goals : List ℕ) → position (bad_goal order) goals ≡ goals_by (first_bad order goals)
unfolding first_bad
position-bad order goals =
    position_from-zero (bad_goal order) goals
    ∙ position-from (bad_goal order) goals 0 (λ i. bad_goal order (get_or goals i 0)) (λ i l. let e : 0 + i ≡ i = omega arith in ap (λ (j : ℕ). bad_goal order (get_or goals j 0)) e)

-- ---- goals that are not refused

module _ (order p : ℕ) where
  -- a goal that is not refused lies within the order
  pub good-part : bad_goal order p ≡ false → p ⊆ order
  unfolding bad_goal
  good-part e = yes-part p order (go (eqb p 0) (part p order) e)
    where
      go : (a b : Bool) → a || not b ≡ false → b ≡ true
      go true b e = absurd (true≢false e)
      go false true e = refl
      go false false e = absurd (true≢false e)

-- if no goal is refused, each lies within the order
pub goals-within : (order : ℕ) (goals : List ℕ) → first_bad order goals ≡ none → GoalsWithin order goals
unfolding first_bad
goals-within order goals e = go goals (λ i l. first-none (λ i. bad_goal order (get_or goals i 0)) (length goals) 0 e i (omega arith) (omega arith))
  where
    go : (goals : List ℕ) → ((i : ℕ) → i < length goals → bad_goal order (get_or goals i 0) ≡ false) → GoalsWithin order goals
    go [] h = tt
    go (p ∷ ps) h = (good-part order p (h 0 (omega arith)), go ps (λ i l. h (suc i) (omega arith)))
