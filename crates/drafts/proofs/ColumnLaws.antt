-- What a change of a choice does to the columns that it is written from. Assumes nothing.
use mathlib.Core.Path.{◌≡◌, refl, sym, ap, ap₂, ◌∙◌}
use mathlib.Core.Bool.{Bool, cond}
use mathlib.Core.List.{List, [], ◌∷◌}
use Prim.Native.Nat.{ℕ, ◌≤◌, ◌<◌}
use native.Mathlib.Decide.{ℕ_discrete}
use native.Mathlib.Omega.{arith}
use lib.Dec.{eqb}
use lib.ListN.{length}
use lib.Seq.{get_or-set_same, get_or-set_other}
use borrow.Author.Tests.{eq-eqb, ne_eqb}
use Rattle.sets.specs.Ranges.{list_to}
use Rattle.sets.proofs.Ranges.{list-cong}
use Rattle.jobfile.specs.declared.ReadChoice.{ReadChoice}
use Rattle.jobfile.specs.Job.{Record, no_record, Job}
use Rattle.changes.specs.Change.{alter, with_field, with_name, changed, new_order, new_wishes, new_clashes, new_name}
use Rattle.changes.proofs.AlterLaws.{alter-list}
use Rattle.writing.specs.Meaning.{article_in, choice_in}
use Rattle.drafts.specs.Meaning.{ordering, wishing, clashing}

-- another record i, by what each article becomes
records-changed : (n i : ℕ) (to : Record (List ℕ) → Record (List ℕ)) (old new : ℕ → Record (List ℕ)) → i < n → to (old i) ≡ new i → ((j : ℕ) → j < n → (j ≡ i → ⊥) → old j ≡ new j)
    → alter i to (list_to n old) ≡ list_to n new
records-changed n i to old new l here others = alter-list n i to old no_record l ∙ list-cong n (λ j. cond (eqb j i) (to (old j)) (old j)) new (λ j m. go j m (ℕ_discrete j i))
  where
    go : (j : ℕ) → j < n → Dec (j ≡ i) → cond (eqb j i) (to (old j)) (old j) ≡ new j
    go j m (yes e) = ap (λ (b : Bool). cond b (to (old j)) (old j)) (eq-eqb j i e) ∙ ap (λ (k : ℕ). to (old k)) e ∙ here ∙ ap new (sym e)
    go j m (no d) = ap (λ (b : Bool). cond b (to (old j)) (old j)) (ne_eqb j i d) ∙ others j m d

-- ---- the columns that the code makes, by the numbers in them

pub ordered-as : (r : ReadChoice) {o v : ℕ} → o ≡ v → ordering r o ≡ ordering r v
ordered-as r e = ap (ordering r) e

pub wishes-as : (r : ReadChoice) {j i u v : ℕ} → j ≡ i → u ≡ v → wishing r j u ≡ wishing r i v
wishes-as r e q = ap₂ (wishing r) e q

pub clashes-as : (r : ReadChoice) {j i u v : ℕ} → j ≡ i → u ≡ v → clashing r j u ≡ clashing r i v
clashes-as r e q = ap₂ (clashing r) e q

-- ---- what is written of them

-- the choice of these records
abbrev stating : ReadChoice → List (Record (List ℕ)) → Job (List ℕ)
stating r records = record { kind = 67; counts = r.articles ∷ r.wish_count ∷ []; heads = r.order ∷ []; records = records }

module _ (f : List ℕ) (r : ReadChoice) where
  pub order-written : (v number : ℕ) (name : List ℕ) → changed (new_order v) (choice_in f r number name) ≡ choice_in f (ordering r v) number name
  unfolding alter
  order-written v number name = refl

  pub wishes-written : (i v number : ℕ) (name : List ℕ) → i < r.articles → i < length r.wishes → changed (new_wishes i v) (choice_in f r number name) ≡ choice_in f (wishing r i v) number name
  unfolding alter
  wishes-written i v number name l room = ap (stating r) (
      records-changed r.articles i (with_field 0 v) (article_in f r number name) (article_in f (wishing r i v) number name) l
      (rw (get_or-set_same r.wishes i v 0 room))
      (λ j m d. rw (get_or-set_other r.wishes i j v 0 d)))

  pub clashes-written : (i v number : ℕ) (name : List ℕ) → i < r.articles → i < length r.clashes → changed (new_clashes i v) (choice_in f r number name) ≡ choice_in f (clashing r i v) number name
  unfolding alter
  clashes-written i v number name l room = ap (stating r) (
      records-changed r.articles i (with_field 1 v) (article_in f r number name) (article_in f (clashing r i v) number name) l
      (rw (get_or-set_same r.clashes i v 0 room))
      (λ j m d. rw (get_or-set_other r.clashes i j v 0 d)))

  pub name-written : (i : ℕ) (new : List ℕ) (number : ℕ) (name : List ℕ) → i < r.articles → r.articles ≤ number → changed (new_name i new) (choice_in f r number name) ≡ choice_in f r i new
  name-written i new number name l above = ap (stating r) (
      records-changed r.articles i (with_name new) (article_in f r number name) (article_in f r i new) l
      (rw (eq-eqb i i refl))
      (λ j m d. rw (ne_eqb j i d, ne_eqb j number (λ e. let z : ⊥ = omega arith in z))))
