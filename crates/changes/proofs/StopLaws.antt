-- A reader stops at the first fault: where a writing stands that is at fault at a place, it is refused there. As with the laws of what is accepted, each
-- item has such a law, and each way to join readers keeps it. Assumes nothing.
use mathlib.Core.Path.{◌≡◌, refl, ap, sym, ◌∙◌, subst}
use mathlib.Core.Bool.{Bool, true, false, not, cond}
use mathlib.Core.List.{List, [], ◌∷◌, ◌++◌, append_assoc}
use Prim.Native.Nat.{ℕ, zero, suc, ◌+◌, ◌*◌, ◌^◌, ◌≤◌, ◌<◌}
use native.Mathlib.Nat.{add_assoc, add-zero}
use native.Mathlib.Omega.{arith}
use lib.Dec.{eqb}
use lib.ListN.{length, get_or, take, drop, length-append}
use lib.Pow.{pow_pos}
use borrow.Author.Tests.{le-leb, lt-ltb, le-ltb, ne_eqb}
use Rattle.reading.specs.declared.Reason.{Reason}
use Rattle.reading.specs.declared.Reason.TheVariants.{LongName, AbsentMember}
use Rattle.reading.specs.Got.{refused, Reader, and_then, optional, each_at, up_from}
use Rattle.reading.specs.Items.{bytes_in, value_at, number_at, set_at, field_at, length_at, name_at}
use Rattle.jobfile.specs.Write.{bytes_of, field_bytes, name_bytes, is_empty, write_each, write_all}
use Rattle.jobfile.specs.Valid.{Each, AllFrom}
use Rattle.jobfile.proofs.Lawful.{Lawful, All, in-front, front, past, ends-within}
use Rattle.jobfile.proofs.ItemLaws.{number-lawful}
use Rattle.jobfile.proofs.RecordLaws.{written-field}
use Rattle.changes.specs.Change.{alter}

-- where these bytes stand, the reader is refused at this place among them
pub record Stops {A : Type 0} (read : Reader A) (bytes : List ℕ) (place : ℕ) (reason : Reason) : Type 0 where
  pub stops : (f : List ℕ) (at : ℕ) → at ≤ length f → (t : List ℕ) → drop at f ≡ bytes ++ t → read f at ≡ refused reason (at + place)

-- ---- the ways to join readers

-- the same for another way of saying what stands there, and at which place of it the fault is
pub restop : {A : Type 0} {read : Reader A} {bytes bytes' : List ℕ} {place place' : ℕ} {reason : Reason} → bytes ≡ bytes' → place ≡ place' → Stops read bytes place reason → Stops read bytes' place' reason
restop e q s = rw (← e, ← q) s

-- the same for another reader that reads the same
pub reread-stops : {A : Type 0} {read read' : Reader A} {bytes : List ℕ} {place : ℕ} {reason : Reason} → ((f : List ℕ) (at : ℕ) → read f at ≡ read' f at) → Stops read bytes place reason → Stops read' bytes place reason
reread-stops same s = record { stops = λ f at h t e. sym (same f at) ∙ s.stops f at h t e }

-- whatever stands behind
pub behind-stops : {A : Type 0} {read : Reader A} {bytes : List ℕ} (more : List ℕ) {place : ℕ} {reason : Reason} → Stops read bytes place reason → Stops read (bytes ++ more) place reason
behind-stops {bytes = bytes} more s = record { stops = λ f at h t e. s.stops f at h (more ++ t) (e ∙ append_assoc bytes more t) }

-- the first of two readers stops
pub first_stops : {A B : Type 0} {r₁ : Reader A} (r₂ : A → Reader B) {bytes : List ℕ} {place : ℕ} {reason : Reason} → Stops r₁ bytes place reason → Stops (λ f at. and_then (r₁ f at) λ a n. r₂ a f n) bytes place reason
first_stops r₂ s = record { stops = λ f at h t e. rw (s.stops f at h t e) }

-- the second stops, after what the first reads
pub second-stops : {A B : Type 0} {r₁ : Reader A} {w₁ : A → List ℕ} {Ok : A → Type 0} (r₂ : A → Reader B) {bytes : List ℕ} {place : ℕ} {reason : Reason} (a : A)
    → Lawful r₁ w₁ Ok → Ok a → Stops (r₂ a) bytes place reason → Stops (λ f at. and_then (r₁ f at) λ a n. r₂ a f n) (w₁ a ++ bytes) (length (w₁ a) + place) reason
second-stops {w₁ = w₁} r₂ {bytes} {place} {reason} a law ok s =
    record {
      stops = λ f at h t e.
          let e₁ = e ∙ append_assoc (w₁ a) bytes t in
          let g = law.back a ok f at h (bytes ++ t) e₁ in
          let k = s.stops f (at + length (w₁ a)) (ends-within f at (w₁ a) (bytes ++ t) h e₁) t (past f at (w₁ a) (bytes ++ t) e₁) in
          rw g (k ∙ ap (λ (n : ℕ). refused reason n) (add_assoc at (length (w₁ a)) place));
    }

-- ---- lists of items, one of which is another

-- an item for each element
pub each-stops : {A B : Type 0} (item : A → Reader B) (write : A → B → List ℕ) (Ok : A → B → Type 0) (none : A) (v : B) {place : ℕ} {reason : Reason} (k : ℕ) (xs : List A) (ys : List B)
    → All (λ x. Lawful (item x) (write x) (Ok x)) xs → Each Ok xs ys → k < length xs → Stops (item (get_or xs k none)) (write (get_or xs k none) v) place reason
    → Stops (each_at item xs) (write_each write xs (alter k (λ old. v) ys)) (length (write_each write (take k xs) ys) + place) reason
unfolding each_at write_each alter
each-stops item write Ok none v k [] ys laws o h s = absurd (omega arith)
each-stops item write Ok none v k (x ∷ xs) [] laws o h s = absurd o
each-stops item write Ok none v {place} zero (x ∷ xs) (y ∷ ys) laws o h s =
    restop refl (omega arith) (behind-stops (write_each write xs ys) (first_stops _ s))
each-stops item write Ok none v {place} (suc k) (x ∷ xs) (y ∷ ys) laws o h s =
    restop refl (omega (arith, length-append (write x y) (write_each write (take k xs) ys)))
    (second-stops _ y laws.0 o.0
    (first_stops _ (each-stops item write Ok none v k xs ys laws.1 o.1 (omega arith) s)))

-- records, each with its number; n is the number of the one at fault
pub all-stops : {B : Type 0} (item : ℕ → Reader B) (write : B → List ℕ) (Ok : ℕ → B → Type 0) (none : B) (to : B → B) (n : ℕ) {place : ℕ} {reason : Reason} (k i : ℕ) (ys : List B)
    → ((j : ℕ) → j < n → Lawful (item j) write (Ok j)) → AllFrom Ok k ys → n ≡ k + i → i < length ys → Stops (item n) (write (to (get_or ys i none))) place reason
    → Stops (each_at item (up_from (length ys) k)) (write_all write (alter i to ys)) (length (write_all write (take i ys)) + place) reason
unfolding each_at up_from write_all alter
all-stops item write Ok none to n k i [] laws o e h s = absurd (omega arith)
all-stops item write Ok none to n {place} {reason} k zero (y ∷ ys) laws o e h s =
    restop refl (omega arith)
    (behind-stops (write_all write ys)
    (first_stops _ (subst (λ (j : ℕ). Stops (item j) (write (to y)) place reason) (let same : n ≡ k = omega arith in same) s)))
all-stops item write Ok none to n {place} k (suc i) (y ∷ ys) laws o e h s =
    restop refl (omega (arith, length-append (write y) (write_all write (take i ys))))
    (second-stops _ y (laws k (omega arith)) o.0
    (first_stops _ (all-stops item write Ok none to n (suc k) i ys laws o.1 (omega arith) (omega arith) s)))

-- ---- the items

-- a set with a member that is not below its limit, by itself and as a field of a record
module _ (bytes limit v : ℕ) (room : v < 256 ^ bytes) (off : 2 ^ limit ≤ v) where
  pub set-stops : Stops (set_at bytes limit) (bytes_of bytes v) 0 AbsentMember
  unfolding set_at
  set-stops = record { stops = λ f at h t e. rw ((number-lawful bytes).back v room f at h t e, le-leb (2 ^ limit) v off, add-zero at) }

  pub field-stops : 0 < bytes → (marked : Bool) → marked ≡ not (is_empty (field_bytes bytes v)) → Stops (optional marked 0 (field_at bytes limit)) (field_bytes bytes v) 0 AbsentMember
  unfolding field_at field_bytes
  field-stops some marked q =
      let none : eqb v 0 ≡ false = ne_eqb v 0 (λ z. let z' : ⊥ = omega (arith, pow_pos limit) in z') in
      let there : marked ≡ true = q ∙ ap not (written-field bytes v some ∙ none) in
      record { stops = λ f at h t e. rw (there, (number-lawful bytes).back v room f at h t (e ∙ ap (λ (b : Bool). cond b [] (bytes_of bytes v) ++ t) none), none, le-leb (2 ^ limit) v off, add-zero at) }

-- a name that is too long, however long it is
pub name-stops : (limit : ℕ) (name : List ℕ) → limit < length name → (marked : Bool) → marked ≡ not (is_empty (name_bytes name))
    → Stops (λ f at. optional marked [] (name_at (bytes_in f) limit) f at) (name_bytes name) 0 LongName
unfolding name_at length_at number_at value_at name_bytes
name-stops limit [] long marked q = absurd (omega arith)
name-stops limit (x ∷ name) long marked q =
    record {
      stops = λ f at h t e.
          let v : get_or f at 0 + 256 * 0 ≡ length (x ∷ name) = omega (arith, front f at e) in
          let l : at + 1 ≤ length f = omega (arith, in-front f at e) in
          rw (q, le-ltb (length f) (at + 1) l, v, ne_eqb (length (x ∷ name)) 0 (λ z. let z' : ⊥ = omega arith in z'), lt-ltb limit (length (x ∷ name)) long, add-zero at);
    }
