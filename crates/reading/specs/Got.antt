-- What reading at a position of a file gives: a refusal with its reason and place, or a value and the position after it.
use Rattle.std.specs.Prelude.{Bool, true, false, List, [], ◌∷◌, ℕ, zero, suc}
use Rattle.reading.specs.declared.Reason.{Reason}

pub data Got (A : Type 0) : Type 0 where
  refused : Reason → ℕ → Got A
  got : A → ℕ → Got A

-- a reader is given the whole file and a position in it
abbrev pub Reader : Type 0 → Type 0
Reader A = List ℕ → ℕ → Got A

-- a fault ends the reading with its reason and place; else it goes on
abbrev pub refuse : {A : Type 0} → Bool → Reason → ℕ → Got A → Got A
refuse true reason place rest = refused reason place
refuse false reason place rest = rest

-- read on after a value: the first fault ends it all
abbrev pub and_then : {A B : Type 0} → Got A → (A → ℕ → Got B) → Got B
and_then (refused reason place) rest = refused reason place
and_then (got value next) rest = rest value next

-- an item that is read and then tested; its place is its first byte
abbrev pub checked : {A : Type 0} → (A → Bool) → Reason → Reader A → Reader A
checked fault reason item f at = and_then (item f at) λ value next. refuse (fault value) reason at (got value next)

-- an item that is there only if it is marked
abbrev pub optional : {A : Type 0} → Bool → A → Reader A → Reader A
optional true absent item f at = item f at
optional false absent item f at = got absent at

-- an item for each element of a list, one after the other
unfoldable pub each_at : {A B : Type 0} → (A → Reader B) → List A → Reader (List B)
each_at item [] f at = got [] at
each_at item (x ∷ xs) f at =
    and_then (item x f at) λ y a.
    and_then (each_at item xs f a) λ ys b.
    got (y ∷ ys) b

-- the n numbers from i on
unfoldable pub up_from : ℕ → ℕ → List ℕ
up_from zero i = []
up_from (suc n) i = i ∷ up_from n (suc i)
