-- Reading on from a position or a refusal: what the code has found takes the place of what the definition reads there. Assumes nothing.
use mathlib.Core.Path.{◌≡◌, refl, ap, ap₂, sym, ◌∙◌}
use mathlib.Core.Bool.{Bool, true, false, cond}
use mathlib.Core.List.{List, [], ◌∷◌}
use Prim.Native.Nat.{ℕ, suc, ◌+◌, ◌-◌, ◌*◌, ◌^◌, ◌≤◌, ◌<◌}
use native.Mathlib.Nat.{pow-suc, pow-le-pow_right}
use native.Mathlib.Decide.{dec_le}
use native.Mathlib.Omega.{arith}
use lib.Dec.{ltb, eqb}
use lib.ListN.{length, get_or}
use borrow.Author.Tests.{le-leb, lt-leb, lt-ltb, le-ltb, ltb-false, eq-eqb, ne_eqb}
use Rattle.std.specs.Prelude.{Result, Ok, Err, IfOk}
use Rattle.sets.specs.Sets.{bit, member}
use Rattle.reading.specs.declared.Reason.{Reason}
use Rattle.reading.specs.declared.Reason.TheVariants.{WrongKind, EndsEarly}
use Rattle.reading.specs.declared.Refusal.{Refusal}
use Rattle.reading.specs.declared.Spot.{Spot}
use Rattle.reading.specs.declared.item.Item.{Item}
use Rattle.reading.specs.Got.{Got, got, refused, Reader, refuse, and_then, checked, optional, each_at}
use Rattle.reading.specs.Items.{kind_at, value_at, number_at, length_at, name_at, spots}
use Rattle.reading.specs.Meaning.{got_by, read_from, item_got}

-- the same reading in another grouping
pub and_assoc : {A B C : Type 0} (r : Got A) (k : A → ℕ → Got B) (l : B → ℕ → Got C) → and_then (and_then r k) l ≡ and_then r (λ a n. and_then (k a n) l)
and_assoc (refused reason place) k l = refl
and_assoc (got a n) k l = refl

-- a value that is settled
pub settled : {A : Type 0} (a : A) (c : Result ℕ Refusal) → read_from c (λ n. got a n) ≡ got_by a c
settled a (Ok n) = refl
settled a (Err r) = refl

-- if the value a, with the position c after it, is what r reads from a position, the rest reads on from c; either may be a refusal
pub advance : {A B : Type 0} (a : A) (c from : Result ℕ Refusal) (r : ℕ → Got A) (k : A → ℕ → Got B) (g : ℕ → Got B)
    → got_by a c ≡ read_from from r → ((n : ℕ) → g n ≡ and_then (r n) k) → read_from from g ≡ read_from c (k a)
advance a c (Ok n) r k g e h = h n ∙ ap (λ x. and_then x k) (sym e) ∙ onward c
  where
    onward : (c : Result ℕ Refusal) → and_then (got_by a c) k ≡ read_from c (k a)
    onward (Ok m) = refl
    onward (Err q) = refl
advance a (Ok m) (Err q) r k g e h = let z : ◌≡◌ {A = ℕ} 0 1 = cc in absurd (omega arith)
advance {A} {B} a (Err p) (Err q) r k g e h =
    let same : p.reason ≡ q.reason = cc in
    let place : p.place ≡ q.place = cc in
    rw (same, place)

-- so two readings join: z is what is read from there on
pub join : {A B : Type 0} (a : A) (z : B) (c d from : Result ℕ Refusal) (r : ℕ → Got A) (k : A → ℕ → Got B)
    → got_by a c ≡ read_from from r → got_by z d ≡ read_from c (k a) → got_by z d ≡ read_from from (λ n. and_then (r n) k)
join a z c d from r k e h = h ∙ sym (advance a c from r k (λ n. and_then (r n) k) e (λ n. refl))

-- an item of a list, and the rest
module _ {A B : Type 0} (item : A → Reader B) (f : List ℕ) where
  pub each_none : (c : Result ℕ Refusal) → got_by [] c ≡ read_from c (each_at item [] f)
  unfolding each_at
  each_none c = sym (settled [] c)

  pub each_more : (x : A) (xs : List A) (y : B) (ys : List B) (c d from : Result ℕ Refusal)
      → got_by y c ≡ read_from from (item x f) → got_by ys d ≡ read_from c (each_at item xs f) → got_by (y ∷ ys) d ≡ read_from from (each_at item (x ∷ xs) f)
  unfolding each_at
  each_more x xs y ys c d from e h = join y (y ∷ ys) c d from (item x f) _ e (join ys (y ∷ ys) d d c (each_at item xs f) _ h (sym (settled (y ∷ ys) d)))

-- ---- tests

-- a test's fault turns the value down
pub fault-stops : (v : ℕ) (c : Result ℕ Refusal) (reason : Reason) (place : ℕ) → read_from c (λ n. refused reason place) ≡ and_then (got_by v c) (λ v n. refuse true reason place (got v n))
fault-stops v (Ok n) reason place = refl
fault-stops v (Err r) reason place = refl

pub fine-goes : (v : ℕ) (c : Result ℕ Refusal) (reason : Reason) (place : ℕ) → got_by v c ≡ and_then (got_by v c) (λ v n. refuse false reason place (got v n))
fine-goes v (Ok n) reason place = refl
fine-goes v (Err r) reason place = refl

-- an item that the code tests by its value is the checked item
pub tested-is : (from : Result ℕ Refusal) (item r : Result Item Refusal) (fault : ℕ → Bool) (reason : Reason) (read : Reader ℕ) (f : List ℕ) (b : Bool) (p : ℕ)
    → item_got item ≡ read_from from (read f) → IfOk item (λ i. b ≡ fault i.value) → IfOk from (λ at. p ≡ at)
    → item_got r ≡ and_then (item_got item) (λ v n. refuse b reason p (got v n))
    → item_got r ≡ read_from from (checked fault reason read f)
tested-is (Ok at) item r fault reason read f b p e eb ep h = h ∙ by_value item eb ∙ ap (λ x. and_then x (λ v n. refuse (fault v) reason at (got v n))) e
  where
    by_value : (item : Result Item Refusal) → IfOk item (λ i. b ≡ fault i.value)
        → and_then (item_got item) (λ v n. refuse b reason p (got v n)) ≡ and_then (item_got item) (λ v n. refuse (fault v) reason at (got v n))
    by_value (Ok i) eb = rw (eb, ep) refl
    by_value (Err q) eb = refl
tested-is (Err q) item r fault reason read f b p e eb ep h = h ∙ ap (λ x. and_then x (λ v n. refuse b reason p (got v n))) e

-- a count that passes its test is at most the limit, and one that fails it is handed on as 0
pub count-limit : (limit v : ℕ) {r : ℕ} → r ≡ cond (ltb limit v) 0 v → r ≤ limit
count-limit limit v {r} e = go (ltb limit v) refl e
  where
    go : (b : Bool) → ltb limit v ≡ b → r ≡ cond b 0 v → r ≤ limit
    go true q h = omega arith
    go false q h = omega (arith, ltb-false limit v q)

-- ---- the kind, numbers and names, by what the code finds

module _ (f : List ℕ) (kind : ℕ) where
  pub kind-none : length f ≡ 0 → refused WrongKind 0 ≡ kind_at (λ k. eqb k kind) f 0
  unfolding kind_at
  kind-none e = rw (le-leb (length f) 0 (omega arith))

  pub kind-found : (length f ≡ 0 → ⊥) → get_or f 0 0 ≡ kind → got kind 1 ≡ kind_at (λ k. eqb k kind) f 0
  unfolding kind_at
  kind-found d e = rw (lt-leb (length f) 0 (omega arith), e, eq-eqb kind kind refl)

  pub kind-other : (length f ≡ 0 → ⊥) → (get_or f 0 0 ≡ kind → ⊥) → refused WrongKind 0 ≡ kind_at (λ k. eqb k kind) f 0
  unfolding kind_at
  kind-other d e = rw (lt-leb (length f) 0 (omega arith), ne_eqb (get_or f 0 0) kind e)

-- a reading that starts at a known position
pub from_at : {A : Type 0} (from : Result ℕ Refusal) {at : ℕ} (reader : ℕ → Got A) {x : Got A} → from ≡ Ok at → x ≡ reader at → x ≡ read_from from reader
from_at from reader e h = h ∙ ap (λ c. read_from c reader) (sym e)

-- one that was refused before is handed on
pub from-refused : {A : Type 0} (a : A) (from : Result ℕ Refusal) {r : Refusal} (reader : ℕ → Got A) → from ≡ Err r → got_by a from ≡ read_from from reader
from-refused a from {r} reader e = ap (got_by a) e ∙ sym (ap (λ c. read_from c reader) e)

-- an item that is not marked is not read
pub from-absent : {A : Type 0} (a : A) (from : Result ℕ Refusal) (item : Reader A) (f : List ℕ) (marked : Bool) → marked ≡ false → got_by a from ≡ read_from from (optional marked a item f)
from-absent a from item f marked e = rw e (sym (settled a from))

pub from-marked : {A : Type 0} (a : A) (from : Result ℕ Refusal) (item : Reader A) (f : List ℕ) (marked : Bool) {x : Got A} → marked ≡ true
    → x ≡ read_from from (item f) → x ≡ read_from from (optional marked a item f)
from-marked a from item f marked e h = rw e h

-- a mark that the code tests by a bit
pub marked_by : {A : Type 0} (from : Result ℕ Refusal) (a : A) (item : Reader A) (f : List ℕ) (m k : ℕ) {b : ℕ} {x : Got A} → b ≡ bit m k
    → x ≡ read_from from (optional (eqb b 1) a item f) → x ≡ read_from from (optional (member m k) a item f)
marked_by from a item f m k e h = h ∙ ap (λ (t : ℕ). read_from from (optional (eqb t 1) a item f)) e

-- a sum compared without making it
pub due : (end at bytes : ℕ) → at ≤ end → ltb (end - at) bytes ≡ ltb end (at + bytes)
due end at bytes l = go (dec_le bytes (end - at))
  where
    go : Dec (bytes ≤ end - at) → ltb (end - at) bytes ≡ ltb end (at + bytes)
    go (yes h) = le-ltb (end - at) bytes h ∙ sym (le-ltb end (at + bytes) (omega arith))
    go (no h) = lt-ltb (end - at) bytes (omega arith) ∙ sym (lt-ltb end (at + bytes) (omega arith))

module _ (f : List ℕ) (at bytes : ℕ) where
  pub number_short : ltb (length f) (at + bytes) ≡ true → refused EndsEarly (length f) ≡ number_at bytes f at
  unfolding number_at
  number_short h = rw h

  pub number-found : {v : ℕ} → ltb (length f) (at + bytes) ≡ false → v ≡ value_at bytes f at → got v (at + bytes) ≡ number_at bytes f at
  unfolding number_at
  number-found h e = rw (h, e)

-- a name, once its length is known
module _ (limit : ℕ) (f : List ℕ) (from : Result ℕ Refusal) (item : Result Item Refusal) (e : item_got item ≡ read_from from (length_at limit f)) where
  letters : ℕ → ℕ → Got Spot
  letters len start = refuse (ltb (length f) (start + len)) EndsEarly (length f) (got (spots.present start len) (start + len))

  after-length : read_from from (name_at spots limit f) ≡ and_then (item_got item) letters
  unfolding name_at letters
  after-length = onward from ∙ ap (λ x. and_then x letters) (sym e)
    where
      onward : (from : Result ℕ Refusal) → read_from from (name_at spots limit f) ≡ and_then (read_from from (length_at limit f)) letters
      onward (Ok n) = refl
      onward (Err q) = refl

  pub name-refused : {r : Refusal} → item ≡ Err r → got_by spots.absent (Err r) ≡ read_from from (name_at spots limit f)
  name-refused q = sym (after-length ∙ ap (λ i. and_then (item_got i) letters) q)

  pub name-short : {i : Item} → item ≡ Ok i → ltb (length f) (i.next + i.value) ≡ true → refused EndsEarly (length f) ≡ read_from from (name_at spots limit f)
  unfolding letters
  name-short q h = sym (after-length ∙ ap (λ i. and_then (item_got i) letters) q ∙ rw h refl)

  pub name-found : {i : Item} → item ≡ Ok i → ltb (length f) (i.next + i.value) ≡ false → got (record { start = i.next; len = i.value }) (i.next + i.value) ≡ read_from from (name_at spots limit f)
  unfolding letters
  name-found q h = sym (after-length ∙ ap (λ i. and_then (item_got i) letters) q ∙ rw h refl)

-- the loop of a number goes from its highest byte down: v is what the bytes from i on spell
module _ (f : List ℕ) (at bytes i v : ℕ) where
  pub value-turn : 0 < i → i ≤ bytes → v ≡ value_at (bytes - i) f (at + i) → v * 256 + get_or f (at + (i - 1)) 0 ≡ value_at (bytes - (i - 1)) f (at + (i - 1))
  unfolding value_at
  value-turn h l e =
      let a : bytes - (i - 1) ≡ suc (bytes - i) = omega arith in
      let b : at + i ≡ at + (i - 1) + 1 = omega arith in
      omega (arith, e ∙ ap (value_at (bytes - i) f) b, ap (λ (k : ℕ). value_at k f (at + (i - 1))) a)

  -- a byte more still fits a word
  pub value_room : v < 256 ^ (bytes - i) → 0 < i → i ≤ bytes → bytes ≤ 8 → v * 256 + 255 < 2 ^ 64
  value_room h p l m = omega (arith, pow-le-pow_right {n = 256} (omega arith) {i = bytes - i} {j = 7} (omega arith))

  pub value_grows : (b : ℕ) → v < 256 ^ (bytes - i) → b < 256 → 0 < i → i ≤ bytes → v * 256 + b < 256 ^ (bytes - (i - 1))
  value_grows b h q p l =
      let a : bytes - (i - 1) ≡ suc (bytes - i) = omega arith in
      omega (arith, ap (λ (x : ℕ). 256 ^ x) a, pow-suc 256 (bytes - i))

pub value_none : (f : List ℕ) (at bytes : ℕ) → 0 ≡ value_at (bytes - bytes) f (at + bytes)
unfolding value_at
value_none f at bytes = ap (λ (k : ℕ). value_at k f (at + bytes)) (let e : 0 ≡ bytes - bytes = omega arith in e)

pub value-all : (f : List ℕ) (at bytes i : ℕ) → i ≡ 0 → value_at (bytes - i) f (at + i) ≡ value_at bytes f at
value-all f at bytes i e = ap₂ (λ (k p : ℕ). value_at k f p) (let a : bytes - i ≡ bytes = omega arith in a) (let a : at + i ≡ at = omega arith in a)
