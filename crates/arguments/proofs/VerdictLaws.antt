-- From what the code's tests told to what the rules test. Assumes nothing.
use mathlib.Core.Path.{◌≡◌, refl, sym, ap, ◌∙◌}
use mathlib.Core.Bool.{Bool, true, false, not, ◌||◌}
use mathlib.Core.List.{List, []}
use Rattle.std.specs.Prelude.{Option}
use Rattle.std.proofs.Math.Option as maybe
use Prim.Native.Nat.{ℕ, ◌≤◌, ◌<◌}
use native.Mathlib.Decide.{dec_lt}
use native.Mathlib.Omega.{arith}
use lib.Dec.{leb, ltb}
use lib.ListN.{get_or}
use borrow.Author.Tests.{not-true, not-false, lt-ltb, le-ltb, lt-leb, le-leb}
use Rattle.reading.specs.declared.Reason.{Reason}
use Rattle.reading.specs.declared.Refusal.{Refusal}
use Rattle.jobfile.specs.declared.ReadChoice.{ReadChoice}
use Rattle.sets.specs.Handed.{handed_by, handed_of}
use Rattle.network.specs.Network.{listed}
use Rattle.network.specs.Groups.{first_misplaced}
use Rattle.filter.specs.Filter.{first_bad}
use Rattle.network.specs.Meaning.{lent_by}
use Rattle.network.proofs.ListedLaws.{misplaced-listed}
use Rattle.filter.specs.Meaning.{goals_by}
use Rattle.arguments.specs.Meaning.{network_in}

-- a refusal by its reason and its place
abbrev pub refusal_by : Reason → ℕ → Refusal
refusal_by reason place = record { reason = reason; place = place }

-- ---- the range of a layer

module _ (k lowest highest : ℕ) where
  pub in-range : lowest ≤ k → leb k highest ≡ not (ltb k lowest || ltb highest k)
  in-range low = go (dec_lt highest k)
    where
      go : Dec (highest < k) → leb k highest ≡ not (ltb k lowest || ltb highest k)
      go (yes h) = simp (le-ltb k lowest low, lt-ltb highest k h, lt-leb k highest h)
      go (no h) = let l : k ≤ highest = omega arith in simp (le-ltb k lowest low, le-ltb highest k l, le-leb k highest l)

  pub out_of_range : {r : Bool} → r ≡ not (ltb k lowest || ltb highest k) → not r ≡ true → ltb k lowest || ltb highest k ≡ true
  out_of_range {r} h t = not-false (ltb k lowest || ltb highest k) (sym h ∙ not-true r t)

  pub within : {r : Bool} → r ≡ not (ltb k lowest || ltb highest k) → not r ≡ false → ltb k lowest || ltb highest k ≡ false
  within {r} h t = not-true (ltb k lowest || ltb highest k) (sym h ∙ not-false r t)

-- ---- the place that the code's test names, or none

back : {A : Type 0} (o : maybe.Option A) → o ≡ handed_of (handed_by o)
back maybe.none = refl
back (maybe.some x) = refl

-- the code tests a partition on the clashes alone
pub misplaced-told : (job : ReadChoice) (groups : List ℕ) {a b : Option ℕ} → a ≡ lent_by (first_misplaced (listed job.articles [] job.clashes) (λ u. get_or groups u 0)) → a ≡ b
    → first_misplaced (network_in job) (λ u. get_or groups u 0) ≡ handed_of b
misplaced-told job groups h k =
    let group : ℕ → ℕ = λ u. get_or groups u 0 in
    misplaced-listed job.articles job.wishes [] job.clashes group ∙ back (first_misplaced (listed job.articles [] job.clashes) group) ∙ ap handed_of (sym h ∙ k)

pub bad-told : (order : ℕ) (goals : List ℕ) {a b : Option ℕ} → a ≡ goals_by (first_bad order goals) → a ≡ b → first_bad order goals ≡ handed_of b
bad-told order goals h k = back (first_bad order goals) ∙ ap handed_of (sym h ∙ k)
