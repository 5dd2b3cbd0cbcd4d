-- Tables turned round: what their rows have, and the loops that turn a table round. Assumes nothing.
use mathlib.Core.Path.{◌≡◌, refl, sym, ap, ap₂, ◌∙◌}
use mathlib.Core.Logic.{◌≢◌}
use mathlib.Core.List.{List}
use Prim.Native.Nat.{ℕ, ◌+◌, ◌^◌, ◌<◌}
use native.Mathlib.Decide.{ℕ_discrete}
use native.Mathlib.Omega.{arith}
use lib.Bits.{bit_or, or_zero_r}
use lib.Dec.{eqb}
use lib.ListN.{length, get_or, set, replicate}
use lib.Seq.{get_or-set_same, get_or-set_other, ext_get_or}
use Rattle.sets.specs.Ranges.{given, sum_to, list_to}
use Rattle.sets.specs.Sets.{bit, member, without, set_of, lowest}
use Rattle.sets.specs.Tables.{transposed, marked}
use Rattle.sets.proofs.Ranges.{given_yes, given-no, list_length, list_at, list-cong, list-zeros}
use Rattle.sets.proofs.Bits.{bit-empty, member-yes, member-no, num-member, less-same, less_other}
use Rattle.sets.proofs.Lowest.{lowest-below, lowest-member}
use Rattle.sets.proofs.Made.{set-bit, set-turn}

-- ---- what the rows have

-- row i of a table turned round
abbrev pub turned_row : ℕ → List ℕ → ℕ → ℕ
turned_row w table i = set_of w (λ j. member (get_or table j 0) i)

pub turned-row : (w : ℕ) (table : List ℕ) (i : ℕ) → i < w → get_or (transposed w table) i 0 ≡ turned_row w table i
unfolding transposed
turned-row w table i l = list_at w (turned_row w table) 0 i l

-- j is in row i exactly if i was in row j
pub turned-at : (w : ℕ) (table : List ℕ) (i j : ℕ) → i < w → j < w → bit (get_or (transposed w table) i 0) j ≡ bit (get_or table j 0) i
turned-at w table i j li lj =
    ap (λ (s : ℕ). bit s j) (turned-row w table i li)
    ∙ set-bit w (λ j. member (get_or table j 0) i) j lj
    ∙ num-member (get_or table j 0) i

-- ---- a loop that puts j into the rows at the members of a set

abbrev marked_row : List ℕ → ℕ → ℕ → ℕ → ℕ
marked_row rows s j k = bit_or (get_or rows k 0) (given (member s k) (2 ^ j))

-- one turn, as the code has it: i is the lowest member, r the rest
pub mark-turn : (w : ℕ) (rows : List ℕ) (s j i x r : ℕ) → length rows ≡ w → s < 2 ^ w → s ≢ 0 → i ≡ lowest w s → x ≡ bit_or (get_or rows i 0) (2 ^ j) → r ≡ without s (2 ^ lowest w s)
    → marked w (set rows i x) r j ≡ marked w rows s j
unfolding marked
mark-turn w rows s j i x r size h d ei ex er =
    list-cong w (marked_row (set rows i x) r j) (marked_row rows s j) (λ k l. go k (ℕ_discrete k i))
  where
    less : r ≡ without s (2 ^ i)
    less = er ∙ ap (λ (k : ℕ). without s (2 ^ k)) (sym ei)

    here : marked_row (set rows i x) r j i ≡ marked_row rows s j i
    here =
        ap₂ bit_or (get_or-set_same rows i x 0 (omega (arith, size, ei, lowest-below w s h d))) (given-no (member r i) (2 ^ j) (member-no r i (ap (λ (y : ℕ). bit y i) less ∙ less-same s i)))
        ∙ or_zero_r x
        ∙ ex
        ∙ ap (bit_or (get_or rows i 0)) (sym (given_yes (member s i) (2 ^ j) (member-yes s i (ap (bit s) ei ∙ lowest-member w s h d))))

    go : (k : ℕ) → Dec (k ≡ i) → marked_row (set rows i x) r j k ≡ marked_row rows s j k
    go k (yes q) = rw q here
    go k (no n) =
        ap₂ (λ (y z : ℕ). bit_or y (given (eqb z 1) (2 ^ j))) (get_or-set_other rows i k x 0 n) (ap (λ (y : ℕ). bit y k) less ∙ less_other s i k n)

-- with no member left, the rows are made
pub mark-end : (w : ℕ) (rows : List ℕ) (s j : ℕ) → length rows ≡ w → s ≡ 0 → rows ≡ marked w rows s j
unfolding marked
mark-end w rows s j size e =
    ext_get_or 0 rows (list_to w (marked_row rows s j)) (size ∙ sym (list_length w (marked_row rows s j)))
    (λ k l. sym (list_at w (marked_row rows s j) 0 k (omega (arith, size)) ∙ ap (bit_or (get_or rows k 0)) (given-no (member s k) (2 ^ j) (member-no s k (ap (λ (y : ℕ). bit y k) e ∙ bit-empty k))) ∙ or_zero_r (get_or rows k 0)))

-- ---- a loop that turns a table round: the rows have the numbers below j

pub turned-start : (w : ℕ) (table : List ℕ) → replicate {A = ℕ} w 0 ≡ list_to w (turned_row 0 table)
unfolding set_of sum_to
turned-start w table = list-zeros w (turned_row 0 table) (λ i l. refl)

pub turned_turn : (w : ℕ) (table rows next : List ℕ) (j : ℕ) → rows ≡ list_to w (turned_row j table) → next ≡ marked w rows (get_or table j 0) j → next ≡ list_to w (turned_row (j + 1) table)
unfolding marked
turned_turn w table rows next j er e =
    e
    ∙ list-cong w (marked_row rows (get_or table j 0) j) (turned_row (j + 1) table)
    (λ i l. ap (λ (y : ℕ). bit_or y (given (member (get_or table j 0) i) (2 ^ j))) (ap (λ (t : List ℕ). get_or t i 0) er ∙ list_at w (turned_row j table) 0 i l) ∙ sym (set-turn j (λ k. member (get_or table k 0) i)))
