-- What the test of two lists tells of arrays; and the search for a name. Assumes nothing.
use mathlib.Core.Path.{◌≡◌, refl, ap, sym, ◌∙◌}
use mathlib.Core.Logic.{⊎_elim}
use mathlib.Core.Bool.{true, false, true≢false}
use mathlib.Core.List.{List, [], ◌∷◌}
use mathlib.Core.Option.{none}
use Prim.Native.Nat.{ℕ, ◌+◌, ◌-◌, ◌≤◌, ◌<◌}
use native.Mathlib.Omega.{arith}
use lib.ListN.{length, get_or, take, drop, length-take}
use lib.Seq.{ext_get_or}
use Rattle.sets.specs.First.{first_from}
use Rattle.sets.specs.Lists.{same_list}
use Rattle.sets.proofs.Ranges.{test-cases, list_at}
use Rattle.sets.proofs.First.{first_cong}
use Rattle.sets.proofs.Lists.{list_same, differ, agree}
use Rattle.jobfile.specs.Meaning.{padded}
use Rattle.names.specs.Names.{Equal, same_name, lowest_named}
use Rattle.names.proofs.EqualLaws.{name-symmetric, same-for, equal-twice}

-- ---- arrays

-- lists of one length that fit the array are the same exactly if the arrays are
pub padded-same : (size : ℕ) (a b : List ℕ) → length a ≡ length b → length a ≤ size → same_list (padded size a) (padded size b) ≡ same_list a b
padded-same size a b l room = ⊎_elim yes-same no_same (test-cases (same_list a b))
  where
    back : padded size a ≡ padded size b → a ≡ b
    back e =
        ext_get_or 0 a b l (λ i h.
        sym (list_at size (λ j. get_or a j 0) 0 i (omega arith)) ∙ ap (λ (x : List ℕ). get_or x i 0) e ∙ list_at size (λ j. get_or b j 0) 0 i (omega arith))

    yes-same : same_list a b ≡ true → same_list (padded size a) (padded size b) ≡ same_list a b
    yes-same t = sym (agree (padded size a) (padded size b) (ap (padded size) (list_same a b t))) ∙ sym t

    no_same : same_list a b ≡ false → same_list (padded size a) (padded size b) ≡ same_list a b
    no_same t = sym (differ (padded size a) (padded size b) (λ e. true≢false (agree a b (back e) ∙ t))) ∙ sym t

-- ---- the search for a name

-- a name that has a byte is searched for
pub search-some : (name : List ℕ) (n : ℕ) (names : ℕ → List ℕ) → 0 < length name → first_from (λ i. same_name (names i) name) n 0 ≡ lowest_named name n names
search-some [] n names h = absurd (omega arith)
search-some (b ∷ bs) n names h = refl

pub search-none : (name : List ℕ) (n : ℕ) (names : ℕ → List ℕ) → length name ≤ 0 → none ≡ lowest_named name n names
search-none [] n names h = refl
search-none (b ∷ bs) n names h = absurd (omega arith)

pub search-cong : (name : List ℕ) (n : ℕ) (names other : ℕ → List ℕ) → ((i : ℕ) → names i ≡ other i) → lowest_named name n names ≡ lowest_named name n other
search-cong [] n names other h = refl
search-cong (b ∷ bs) n names other h = first_cong (λ i. same_name (names i) (b ∷ bs)) (λ i. same_name (other i) (b ∷ bs)) n 0 (λ i l. ap (λ (x : List ℕ). same_name x (b ∷ bs)) (h i))

-- equal names are those of the same number
pub search-same : (a b : List ℕ) → Equal a b → (n : ℕ) (names : ℕ → List ℕ) → lowest_named a n names ≡ lowest_named b n names
search-same [] [] e n names = refl
search-same [] (y ∷ b) e n names = absurd (omega (arith, equal-twice [] (y ∷ b) e))
search-same (x ∷ a) [] e n names = absurd (omega (arith, equal-twice [] (x ∷ a) (name-symmetric (x ∷ a) [] e)))
search-same (x ∷ a) (y ∷ b) e n names = first_cong (λ i. same_name (names i) (x ∷ a)) (λ i. same_name (names i) (y ∷ b)) n 0 (λ i l. same-for (names i) (x ∷ a) (y ∷ b) e)

-- a part from a start to its end is no longer than what lies between
pub part-short : (s : List ℕ) (a l room : ℕ) → l ≤ room → length (take (a + l - a) (drop a s)) ≤ room
part-short s a l room h = omega (arith, length-take (a + l - a) (drop a s), h)
