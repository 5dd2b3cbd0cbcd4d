-- A reader is lawful for a way of writing and a notion of valid values if it takes exactly what is written of valid values.
-- Each item has such a law, and each way to join readers keeps it; the theorems on files are made of these. Assumes nothing.
use mathlib.Core.Path.{◌≡◌, refl, ap, sym, ◌∙◌, subst}
use mathlib.Core.Bool.{Bool, true, false}
use mathlib.Core.List.{List, [], ◌∷◌, ◌++◌, append_assoc, append-nil}
use Prim.Native.Nat.{ℕ, zero, suc, ◌+◌, ◌≤◌, ◌<◌}
use native.Mathlib.Nat.{add_assoc, add-zero}
use native.Mathlib.Numerals.{add-one}
use native.Mathlib.Omega.{arith}
use lib.ListN.{length, drop, get_or, length-append, length-drop}
use lib.Seq.{drop-cons, drop-drop, drop-append_seam}
use Rattle.reading.specs.declared.Reason.{Reason}
use Rattle.reading.specs.Got.{Got, got, refused, Reader, refuse, and_then, checked, optional, each_at, up_from}
use Rattle.jobfile.specs.Write.{write_each, write_all}
use Rattle.jobfile.specs.Valid.{Bytes, Each, AllFrom}

-- what was read is in the file at its place
pub record Stands {A : Type 0} (write : A → List ℕ) (Ok : A → Type 0) (f : List ℕ) (at : ℕ) (a : A) (n : ℕ) : Type 0 where
  pub within : n ≤ length f
  pub written : drop at f ≡ write a ++ drop n f
  pub valid : Ok a

pub record Lawful {A : Type 0} (read : Reader A) (write : A → List ℕ) (Ok : A → Type 0) : Type 0 where
  pub exact : (f : List ℕ) → Bytes f → (at : ℕ) → at ≤ length f → (a : A) (n : ℕ) → read f at ≡ got a n → Stands write Ok f at a n
  pub back : (a : A) → Ok a → (f : List ℕ) (at : ℕ) → at ≤ length f → (t : List ℕ) → drop at f ≡ write a ++ t → read f at ≡ got a (at + length (write a))

-- ---- results taken apart

pub record Then {A B : Type 0} (r : Got A) (k : A → ℕ → Got B) (b : B) (n : ℕ) : Type 0 where
  pub value : A
  pub next : ℕ
  pub first : r ≡ got value next
  pub second : k value next ≡ got b n

pub then-got : {A B : Type 0} (r : Got A) (k : A → ℕ → Got B) {b : B} {n : ℕ} → and_then r k ≡ got b n → Then r k b n
then-got (refused m p) k e = let z : ◌≡◌ {A = ℕ} 0 1 = cc in absurd (omega arith)
then-got (got a m) k e = record { value = a; next = m; first = refl; second = e }

pub refuse-got : {A : Type 0} (t : Bool) (reason : Reason) (p : ℕ) (r : Got A) {a : A} {n : ℕ} → refuse t reason p r ≡ got a n → (t ≡ false) × (r ≡ got a n)
refuse-got true reason p r e = let z : ◌≡◌ {A = ℕ} 0 1 = cc in absurd (omega arith)
refuse-got false reason p r e = (refl, e)

pub same-value : {A : Type 0} {a b : A} {n m : ℕ} → got a n ≡ got b m → a ≡ b
same-value e = cc

pub same_next : {A : Type 0} {a b : A} {n m : ℕ} → got a n ≡ got b m → n ≡ m
same_next e = cc

-- ---- the front of what is left of a file

pub in-front : (f : List ℕ) (at : ℕ) {b : ℕ} {t : List ℕ} → drop at f ≡ b ∷ t → at < length f
in-front f at {b} {t} e = omega (arith, sym (length-drop at f) ∙ ap length e)

pub front : (f : List ℕ) (at : ℕ) {b : ℕ} {t : List ℕ} → drop at f ≡ b ∷ t → get_or f at 0 ≡ b
front f at {b} {t} e = let c = sym (drop-cons f at 0 (in-front f at e)) ∙ e in cc

pub after-byte : (f : List ℕ) (at : ℕ) {b : ℕ} {t : List ℕ} → drop at f ≡ b ∷ t → drop (at + 1) f ≡ t
after-byte f at {b} {t} e = let c = sym (drop-cons f at 0 (in-front f at e)) ∙ e in rw (add-one at) (cc)

pub past : (f : List ℕ) (at : ℕ) (w t : List ℕ) → drop at f ≡ w ++ t → drop (at + length w) f ≡ t
past f at w t e = sym (drop-drop (length w) at f) ∙ ap (drop (length w)) e ∙ drop-append_seam w t

pub ends-within : (f : List ℕ) (at : ℕ) (w t : List ℕ) → at ≤ length f → drop at f ≡ w ++ t → at + length w ≤ length f
ends-within f at w t h e = omega (arith, sym (length-drop at f) ∙ ap length e ∙ length-append w t)

-- ---- the ways to join readers

-- an item that is tested
pub checked-lawful : {A : Type 0} (fault : A → Bool) (reason : Reason) {read : Reader A} {write : A → List ℕ} {Ok : A → Type 0}
    → Lawful read write Ok → Lawful (checked fault reason read) write (λ a. Ok a × (fault a ≡ false))
checked-lawful fault reason {read} {write} {Ok} law = record { exact = exact; back = back }
  where
    exact : (f : List ℕ) → Bytes f → (at : ℕ) → at ≤ length f → (a : _) (n : ℕ)
        → checked fault reason read f at ≡ got a n → Stands write (λ a. Ok a × (fault a ≡ false)) f at a n
    exact f bytes at h a n e =
        let t = then-got (read f at) _ e in
        let s = refuse-got (fault t.value) reason at (got t.value t.next) t.second in
        let r = law.exact f bytes at h a n (t.first ∙ s.1) in
        record { within = r.within; written = r.written; valid = (r.valid, ap fault (sym (same-value s.1)) ∙ s.0) }

    back : (a : _) → Ok a × (fault a ≡ false) → (f : List ℕ) (at : ℕ) → at ≤ length f → (t : List ℕ) → drop at f ≡ write a ++ t
        → checked fault reason read f at ≡ got a (at + length (write a))
    back a v f at h t e = rw (law.back a v.0 f at h t e) (rw v.1)

-- no item: the value is settled
pub pure-lawful : {A : Type 0} (x : A) → Lawful (λ f at. got x at) (λ a. []) (λ a. a ≡ x)
pure-lawful x =
    record {
      exact = λ f b at h a n e.
          let m : at ≡ n = same_next e in
          record { within = subst (λ (x : ℕ). x ≤ length f) m h; written = ap (λ (x : ℕ). drop x f) m; valid = sym (same-value e) };
      back = λ a v f at h t e. rw (v, add-zero at);
    }

-- nothing can be read
pub refused-lawful : {A : Type 0} (reason : Reason) (place : ℕ) (write : A → List ℕ) → Lawful (λ f at. refused reason place) write (λ a. ⊥)
refused-lawful reason place write = record { exact = λ f b at h a n e. let z : ◌≡◌ {A = ℕ} 0 1 = cc in absurd (omega arith); back = λ a v f at h t e. absurd v }

-- the same laws for another way of saying what is written and what is valid
pub restate : {A : Type 0} {read : Reader A} {write write' : A → List ℕ} {Ok Ok' : A → Type 0} → Lawful read write Ok
    → ((a : A) → Ok a → Ok' a) → ((a : A) → Ok' a → Ok a) → ((a : A) → Ok a → write a ≡ write' a) → Lawful read write' Ok'
restate {read = read} {write = write} {write' = write'} {Ok = Ok} {Ok' = Ok'} law to fro same =
    record {
      exact = λ f b at h a n e.
          let s = law.exact f b at h a n e in
          record { within = s.within; written = rw (← same a s.valid) s.written; valid = to a s.valid };
      back = λ a v f at h t e.
          let q = same a (fro a v) in
          rw (← q) (law.back a (fro a v) f at h t (rw q e));
    }

-- the same laws for another reader that reads the same
pub reread : {A : Type 0} {read read' : Reader A} {write : A → List ℕ} {Ok : A → Type 0} → ((f : List ℕ) (at : ℕ) → read f at ≡ read' f at) → Lawful read write Ok → Lawful read' write Ok
reread same law =
    record {
      exact = λ f b at h a n e. law.exact f b at h a n (same f at ∙ e);
      back = λ a v f at h t e. sym (same f at) ∙ law.back a v f at h t e;
    }

-- an item that is there only if it is marked: a value that is absent is not written
abbrev pub OnlyIf : Bool → Type 0 → Type 0 → Type 0
OnlyIf true X E = X
OnlyIf false X E = E

abbrev pub only_if : Bool → List ℕ → List ℕ
only_if true w = w
only_if false w = []

pub optional-lawful : {A : Type 0} (marked : Bool) (absent : A) {read : Reader A} {write : A → List ℕ} {Ok : A → Type 0} → Lawful read write Ok
    → Lawful (optional marked absent read) (λ a. only_if marked (write a)) (λ a. OnlyIf marked (Ok a) (a ≡ absent))
optional-lawful true absent law = restate law (λ a o. o) (λ a o. o) (λ a o. refl)
optional-lawful false absent law = restate (pure-lawful absent) (λ a o. o) (λ a o. o) (λ a o. refl)

-- one reader after another: `part` tells from the whole value what the first has read
pub seq-lawful : {A B : Type 0} (part : B → A) {r₁ : Reader A} {w₁ : A → List ℕ} {V₁ : A → Type 0} {r₂ : A → Reader B} {w₂ : A → B → List ℕ} {V₂ : A → B → Type 0}
    → Lawful r₁ w₁ V₁ → ((a : A) → V₁ a → Lawful (r₂ a) (w₂ a) (V₂ a)) → ((a : A) (b : B) → V₁ a → V₂ a b → part b ≡ a)
    → Lawful (λ f at. and_then (r₁ f at) λ a n. r₂ a f n) (λ b. w₁ (part b) ++ w₂ (part b) b) (λ b. V₁ (part b) × V₂ (part b) b)
seq-lawful {A} {B} part {r₁} {w₁} {V₁} {r₂} {w₂} {V₂} one two tells = record { exact = exact; back = back }
  where
    exact : (f : List ℕ) → Bytes f → (at : ℕ) → at ≤ length f → (b : B) (n : ℕ)
        → and_then (r₁ f at) (λ a n. r₂ a f n) ≡ got b n
        → Stands (λ b. w₁ (part b) ++ w₂ (part b) b) (λ b. V₁ (part b) × V₂ (part b) b) f at b n
    exact f bytes at h b n e =
        let t = then-got (r₁ f at) (λ a n. r₂ a f n) e in
        let s₁ = one.exact f bytes at h t.value t.next t.first in
        let s₂ = (two t.value s₁.valid).exact f bytes t.next s₁.within b n t.second in
        let q : part b ≡ t.value = tells t.value b s₁.valid s₂.valid in
        record {
          within = s₂.within;
          written = rw q (s₁.written ∙ ap (λ (l : List ℕ). w₁ t.value ++ l) s₂.written ∙ sym (append_assoc (w₁ t.value) (w₂ t.value b) (drop n f)));
          valid = subst (λ (a : A). V₁ a × V₂ a b) (sym q) (s₁.valid, s₂.valid);
        }

    back : (b : B) → V₁ (part b) × V₂ (part b) b → (f : List ℕ) (at : ℕ) → at ≤ length f → (t : List ℕ) → drop at f ≡ (w₁ (part b) ++ w₂ (part b) b) ++ t
        → and_then (r₁ f at) (λ a n. r₂ a f n) ≡ got b (at + length (w₁ (part b) ++ w₂ (part b) b))
    back b v f at h t e =
        let a = part b in
        let e₁ = e ∙ append_assoc (w₁ a) (w₂ a b) t in
        let g₁ = one.back a v.0 f at h (w₂ a b ++ t) e₁ in
        let g₂ = (two a v.0).back b v.1 f (at + length (w₁ a)) (ends-within f at (w₁ a) (w₂ a b ++ t) h e₁) t (past f at (w₁ a) (w₂ a b ++ t) e₁) in
        rw g₁ (g₂ ∙ ap (λ (k : ℕ). got b k) (rw (length-append (w₁ a) (w₂ a b)) (add_assoc at (length (w₁ a)) (length (w₂ a b)))))

-- ---- lists of items

-- items that read the same in this file
pub each_same : {A B : Type 0} (item other : A → Reader B) (f : List ℕ) → ((x : A) (at : ℕ) → item x f at ≡ other x f at) → (xs : List A) (at : ℕ) → each_at item xs f at ≡ each_at other xs f at
unfolding each_at
each_same item other f same [] at = refl
each_same item other f same (x ∷ xs) at =
    ap (λ r. and_then r λ y a. and_then (each_at item xs f a) λ ys b. got (y ∷ ys) b) (same x at) ∙ after-it (other x f at) (each_same item other f same xs)
  where
    after-it : (r : Got _) → ((a : ℕ) → each_at item xs f a ≡ each_at other xs f a)
        → and_then r (λ y a. and_then (each_at item xs f a) λ ys b. got (y ∷ ys) b) ≡ and_then r (λ y a. and_then (each_at other xs f a) λ ys b. got (y ∷ ys) b)
    after-it (refused reason place) rest = refl
    after-it (got y a) rest = ap (λ r. and_then r λ ys b. got (y ∷ ys) b) (rest a)

abbrev pub All : {A : Type 0} → (A → Type 0) → List A → Type 0
All P [] = Unit {0}
All P (x ∷ xs) = P x × All P xs

-- the head and the tail of a list; an empty list has some, too
abbrev pub head_or : {A : Type 0} → A → List A → A
head_or none [] = none
head_or none (x ∷ xs) = x

abbrev pub tail_of : {A : Type 0} → List A → List A
tail_of [] = []
tail_of (x ∷ xs) = xs

-- a list that starts with an item: the item, and the rest
pub cons-lawful : {A : Type 0} (none : A) {read : Reader A} {write : A → List ℕ} {Ok : A → Type 0} {reads : Reader (List A)} {writes : List A → List ℕ} {Oks : List A → Type 0}
    → Lawful read write Ok → Lawful reads writes Oks
    → Lawful (λ f at. and_then (read f at) λ y a. and_then (reads f a) λ ys b. got (y ∷ ys) b) (λ ys. write (head_or none ys) ++ writes (tail_of ys))
    (λ ys. (Ok (head_or none ys) × Oks (tail_of ys)) × (ys ≡ head_or none ys ∷ tail_of ys))
cons-lawful none one rest =
    restate
    (seq-lawful (head_or none) one
    (λ y vy. seq-lawful tail_of rest (λ ys vys. pure-lawful (y ∷ ys)) (λ ys zs vys o. ap tail_of o))
    (λ y zs vy o. ap (head_or none) o.1))
    (λ ys o. ((o.0, o.1.0), o.1.1))
    (λ ys o. (o.0.0, (o.0.1, o.1)))
    (λ ys o. rw append-nil)

module _ {A B : Type 0} (none : B) (item : A → Reader B) (write : A → B → List ℕ) (Ok : A → B → Type 0) where
  -- an item for each element
  pub each-lawful : (xs : List A) → All (λ x. Lawful (item x) (write x) (Ok x)) xs → Lawful (each_at item xs) (write_each write xs) (Each Ok xs)
  unfolding each_at write_each
  each-lawful [] laws = restate (pure-lawful []) none-to none-fro (λ ys o. refl)
    where
      none-to : (ys : List B) → ys ≡ [] → Each Ok [] ys
      none-to [] e = tt
      none-to (y ∷ ys) e = let z : ◌≡◌ {A = ℕ} 0 1 = cc in absurd (omega arith)

      none-fro : (ys : List B) → Each Ok [] ys → ys ≡ []
      none-fro [] o = refl
      none-fro (y ∷ ys) o = absurd o
  each-lawful (x ∷ xs) laws = restate (cons-lawful none laws.0 (each-lawful xs laws.1)) to fro same
    where
      to : (ys : List B) → (Ok x (head_or none ys) × Each Ok xs (tail_of ys)) × (ys ≡ head_or none ys ∷ tail_of ys) → Each Ok (x ∷ xs) ys
      to [] o = let e = o.1 in let z : ◌≡◌ {A = ℕ} 0 1 = cc in absurd (omega arith)
      to (y ∷ ys) o = o.0

      fro : (ys : List B) → Each Ok (x ∷ xs) ys → (Ok x (head_or none ys) × Each Ok xs (tail_of ys)) × (ys ≡ head_or none ys ∷ tail_of ys)
      fro [] o = absurd o
      fro (y ∷ ys) o = (o, refl)

      same : (ys : List B) → (Ok x (head_or none ys) × Each Ok xs (tail_of ys)) × (ys ≡ head_or none ys ∷ tail_of ys)
          → write x (head_or none ys) ++ write_each write xs (tail_of ys) ≡ write_each write (x ∷ xs) ys
      same [] o = let e = o.1 in let z : ◌≡◌ {A = ℕ} 0 1 = cc in absurd (omega arith)
      same (y ∷ ys) o = refl

-- records one after the other, each with its number
module _ {B : Type 0} (none : B) (item : ℕ → Reader B) (write : B → List ℕ) (Ok : ℕ → B → Type 0) (limit : ℕ) (each : (i : ℕ) → i < limit → Lawful (item i) write (Ok i)) where
  numbered : (n i : ℕ) → i + n ≤ limit → All (λ j. Lawful (item j) write (Ok j)) (up_from n i)
  unfolding up_from
  numbered zero i h = tt
  numbered (suc n) i h = (each i (omega arith), numbered n (suc i) (omega arith))

  to : (n i : ℕ) (ys : List B) → Each Ok (up_from n i) ys → (length ys ≡ n) × AllFrom Ok i ys
  unfolding up_from
  to zero i [] o = (refl, tt)
  to zero i (y ∷ ys) o = absurd o
  to (suc n) i [] o = absurd o
  to (suc n) i (y ∷ ys) o = let r = to n (suc i) ys o.1 in (ap suc r.0, (o.0, r.1))

  fro : (n i : ℕ) (ys : List B) → (length ys ≡ n) × AllFrom Ok i ys → Each Ok (up_from n i) ys
  unfolding up_from
  fro zero i [] o = tt
  fro zero i (y ∷ ys) o = absurd (omega (arith, o.0))
  fro (suc n) i [] o = absurd (omega (arith, o.0))
  fro (suc n) i (y ∷ ys) o = (o.1.0, fro n (suc i) ys (omega (arith, o.0), o.1.1))

  same : (n i : ℕ) (ys : List B) → Each Ok (up_from n i) ys → write_each (λ j. write) (up_from n i) ys ≡ write_all write ys
  unfolding up_from write_each write_all
  same zero i [] o = refl
  same zero i (y ∷ ys) o = absurd o
  same (suc n) i [] o = absurd o
  same (suc n) i (y ∷ ys) o = ap (λ (l : List ℕ). write y ++ l) (same n (suc i) ys o.1)

  pub all-lawful : (n : ℕ) → n ≤ limit → Lawful (each_at item (up_from n 0)) (write_all write) (λ ys. (length ys ≡ n) × AllFrom Ok 0 ys)
  all-lawful n h =
      restate (each-lawful none item (λ j. write) Ok (up_from n 0) (numbered n 0 (omega arith))) (to n 0) (fro n 0) (same n 0)
