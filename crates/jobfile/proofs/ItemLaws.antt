-- The laws of the items: numbers, the kind, counts, bit maps, sets, amounts, names. Assumes nothing.
use mathlib.Core.Path.{◌≡◌, refl, ap, sym, ◌∙◌, subst}
use mathlib.Core.Bool.{Bool, true, false, not}
use mathlib.Core.List.{List, [], ◌∷◌, ◌++◌}
use Prim.Native.Nat.{ℕ, zero, suc, ◌+◌, ◌*◌, ◌/◌, ◌%◌, ◌^◌, ◌≤◌, ◌<◌}
use native.Mathlib.Nat.{add-zero, pow-suc}
use native.Mathlib.Numerals.{add-one}
use native.Mathlib.Omega.{arith}
use lib.Dec.{leb, ltb, eqb, lit<}
use lib.ListN.{length, get_or, take, drop, length-drop, take-append-drop}
use lib.Seq.{drop-cons, drop-drop, get_or-drop, take_at, length-take-le}
use borrow.Author.Tests.{leb-false, ltb-false, lt-leb, le-ltb, eqb-false, ne_eqb, not-false}
use Rattle.reading.specs.declared.Reason.TheVariants.{WrongKind, EndsEarly, OverLimit, ForbiddenBit, EmptyField, AbsentMember, LongName}
use Rattle.reading.specs.Got.{got, refuse}
use Rattle.reading.specs.Items.{bytes_in, kind_at, value_at, number_at, count_at, map_at, set_at, amount_at, field_at, length_at, name_at}
use Rattle.jobfile.specs.Write.{bytes_of}
use Rattle.jobfile.specs.Valid.{Bytes}
use Rattle.jobfile.proofs.Lawful.{Lawful, refuse-got, same-value, same_next, in-front, front, after-byte, ends-within, checked-lawful, seq-lawful, restate}

-- ---- numbers

value-bytes : (k : ℕ) (f : List ℕ) (at : ℕ) → Bytes f → at + k ≤ length f → drop at f ≡ bytes_of k (value_at k f at) ++ drop (at + k) f
unfolding bytes_of value_at
value-bytes zero f at b h = rw (add-zero at)
value-bytes (suc k) f at b h =
    let r = value_at k f (at + 1) in
    let v = get_or f at 0 in
    let q : (v + 256 * r) / 256 ≡ r = omega (arith, b at) in
    let m : (v + 256 * r) % 256 ≡ v = omega (arith, b at) in
    let l : at < length f = omega arith in
    let p : at + 1 + k ≡ at + suc k = omega arith in
    rw (q, m, ← p) (drop-cons f at 0 l ∙ ap (λ (x : List ℕ). v ∷ x) (ap (λ (n : ℕ). drop n f) (sym (add-one at)) ∙ value-bytes k f (at + 1) b (omega arith)))

pub value-lt : (k : ℕ) (f : List ℕ) (at : ℕ) → Bytes f → value_at k f at < 256 ^ k
unfolding value_at
value-lt zero f at b = omega arith
value-lt (suc k) f at b = rw (pow-suc 256 k) (omega (arith, b at, value-lt k f (at + 1) b))

value-back : (k v : ℕ) → v < 256 ^ k → (f : List ℕ) (at : ℕ) (t : List ℕ) → drop at f ≡ bytes_of k v ++ t → value_at k f at ≡ v
unfolding bytes_of value_at
value-back zero v h f at t e = omega arith
value-back (suc k) v h f at t e =
    let h' : v < 256 ^ k * 256 = rw (← pow-suc 256 k) h in
    omega (arith, front f at e, value-back k (v / 256) (omega arith) f (at + 1) t (after-byte f at e))

pub length-bytes : (k v : ℕ) → length (bytes_of k v) ≡ k
unfolding bytes_of
length-bytes zero v = refl
length-bytes (suc k) v = ap suc (length-bytes k (v / 256))

pub number-lawful : (k : ℕ) → Lawful (number_at k) (bytes_of k) (λ v. v < 256 ^ k)
unfolding number_at
number-lawful k =
    record {
      exact = λ f b at h a n e.
          let s = refuse-got (ltb (length f) (at + k)) EndsEarly (length f) (got (value_at k f at) (at + k)) e in
          let l : at + k ≤ length f = ltb-false _ _ s.0 in
          let v : value_at k f at ≡ a = same-value s.1 in
          let m : at + k ≡ n = same_next s.1 in
          record { within = omega arith; written = rw (← m, ← v) (value-bytes k f at b l); valid = subst (λ (x : ℕ). x < 256 ^ k) v (value-lt k f at b) };
      back = λ a v f at h t e.
          let l : at + k ≤ length f = omega (arith, length-bytes k a, ends-within f at (bytes_of k a) t h e) in
          rw (le-ltb (length f) (at + k) l, value-back k a v f at t e, length-bytes k a);
    }

-- ---- the tested items, with what they take in plain terms

pub kind-lawful : (takes : ℕ → Bool) → Lawful (kind_at takes) (λ k. k ∷ []) (λ k. takes k ≡ true)
unfolding kind_at
kind-lawful takes =
    record {
      exact = λ f b at h a n e.
          let k = get_or f at 0 in
          let s = refuse-got (leb (length f) at) WrongKind at (refuse (not (takes k)) WrongKind at (got k (at + 1))) e in
          let r = refuse-got (not (takes k)) WrongKind at (got k (at + 1)) s.1 in
          let l : at < length f = leb-false _ _ s.0 in
          let v : k ≡ a = same-value r.1 in
          let m : at + 1 ≡ n = same_next r.1 in
          record { within = omega arith; written = rw (← m, add-one at, ← v) (drop-cons f at 0 l); valid = subst (λ (x : ℕ). takes x ≡ true) v (not-false (takes k) r.0) };
      back = λ a v f at h t e. rw (lt-leb (length f) at (in-front f at e), front f at e, v);
    }

pub count-lawful : (bytes limit : ℕ) → limit < 256 ^ bytes → Lawful (count_at bytes limit) (bytes_of bytes) (λ v. v ≤ limit)
unfolding count_at
count-lawful bytes limit h =
    restate (checked-lawful (ltb limit) OverLimit (number-lawful bytes)) (λ v o. ltb-false limit v o.1) (λ v o. (omega arith, le-ltb limit v o)) (λ v o. refl)

pub map-lawful : (fields : ℕ) → 2 ^ fields ≤ 256 → Lawful (map_at fields) (λ m. m ∷ []) (λ m. m < 2 ^ fields)
unfolding map_at bytes_of
map-lawful fields h =
    restate (checked-lawful (leb (2 ^ fields)) ForbiddenBit (number-lawful 1)) (λ m o. leb-false (2 ^ fields) m o.1) (λ m o. (omega arith, lt-leb (2 ^ fields) m o))
    (λ m o. ap (λ (b : ℕ). b ∷ []) (let e : m % 256 ≡ m = omega (arith, o.0) in e))

pub set-lawful : (bytes limit : ℕ) → 2 ^ limit ≤ 256 ^ bytes → Lawful (set_at bytes limit) (bytes_of bytes) (λ v. v < 2 ^ limit)
unfolding set_at
set-lawful bytes limit h =
    restate (checked-lawful (leb (2 ^ limit)) AbsentMember (number-lawful bytes)) (λ v o. leb-false (2 ^ limit) v o.1) (λ v o. (omega arith, lt-leb (2 ^ limit) v o)) (λ v o. refl)

positive : (v : ℕ) → eqb v 0 ≡ false → 0 < v
positive zero e = absurd (eqb-false 0 0 e refl)
positive (suc v) e = omega arith

pub amount-lawful : (bytes : ℕ) → Lawful (amount_at bytes) (bytes_of bytes) (λ v. (0 < v) × (v < 256 ^ bytes))
amount-lawful bytes =
    restate (checked-lawful (λ v. eqb v 0) EmptyField (number-lawful bytes)) (λ v o. (positive v o.1, o.0)) (λ v o. (o.1, ne_eqb v 0 (λ z. omega (arith, o.0)))) (λ v o. refl)

pub field-lawful : (bytes limit : ℕ) → 2 ^ limit ≤ 256 ^ bytes → Lawful (field_at bytes limit) (bytes_of bytes) (λ v. (0 < v) × (v < 2 ^ limit))
unfolding field_at
field-lawful bytes limit h =
    restate (checked-lawful (leb (2 ^ limit)) AbsentMember (amount-lawful bytes)) (λ v o. (o.0.0, leb-false (2 ^ limit) v o.1)) (λ v o. ((o.0, omega arith), lt-leb (2 ^ limit) v o.1)) (λ v o. refl)

-- ---- names

bytes_take : (k : ℕ) (l : List ℕ) → Bytes l → Bytes (take k l)
bytes_take zero l b i = lit< tt
bytes_take (suc k) [] b i = lit< tt
bytes_take (suc k) (x ∷ l) b zero = b zero
bytes_take (suc k) (x ∷ l) b (suc i) = bytes_take k l (λ j. b (suc j)) i

part_bytes : (k at : ℕ) (f : List ℕ) → Bytes f → Bytes (take k (drop at f))
part_bytes k at f b = bytes_take k (drop at f) (λ i. rw (get_or-drop at f i 0) (b (at + i)))

-- k bytes as they are
letters-lawful : (k : ℕ) → Lawful (λ f at. refuse (ltb (length f) (at + k)) EndsEarly (length f) (got (take k (drop at f)) (at + k))) (λ s. s) (λ s. (length s ≡ k) × Bytes s)
letters-lawful k =
    record {
      exact = λ f b at h a n e.
          let s = refuse-got (ltb (length f) (at + k)) EndsEarly (length f) (got (take k (drop at f)) (at + k)) e in
          let l : at + k ≤ length f = ltb-false _ _ s.0 in
          let v : take k (drop at f) ≡ a = same-value s.1 in
          let m : at + k ≡ n = same_next s.1 in
          record {
            within = omega arith;
            written = rw (← m, ← v, ← drop-drop k at f) (sym (take-append-drop k (drop at f)));
            valid = subst (λ (x : List ℕ). (length x ≡ k) × Bytes x) v (length-take-le k (drop at f) (rw (length-drop at f) (omega arith)), part_bytes k at f b);
          };
      back = λ a v f at h t e.
          let l : at + k ≤ length f = omega (arith, v.0, ends-within f at a t h e) in
          rw (le-ltb (length f) (at + k) l, e, take_at a t k v.0, v.0);
    }

pub record NameOk (limit : ℕ) (s : List ℕ) : Type 0 where
  pub some : 0 < length s
  pub short : length s ≤ limit
  pub letters : Bytes s

pub name-lawful : (limit : ℕ) → limit < 256 → Lawful (λ f at. name_at (bytes_in f) limit f at) (λ s. length s ∷ s) (NameOk limit)
unfolding name_at length_at bytes_of
name-lawful limit small =
    restate
    (seq-lawful length (checked-lawful (ltb limit) LongName (checked-lawful (λ n. eqb n 0) EmptyField (number-lawful 1))) (λ n v. letters-lawful n) (λ n s v o. o.0))
    (λ s o. record { some = positive (length s) o.0.0.1; short = ltb-false limit (length s) o.0.1; letters = o.1.1 })
    (λ s o.
    let h : length s < 256 = omega (arith, o.short) in
    let d : length s ≡ 0 → ⊥ = λ z. omega (arith, o.some) in
    (((h, ne_eqb (length s) 0 d), le-ltb limit (length s) o.short), (refl, o.letters)))
    (λ s o. ap (λ (b : ℕ). b ∷ s) (let e : length s % 256 ≡ length s = omega (arith, o.0.0.0) in e))
