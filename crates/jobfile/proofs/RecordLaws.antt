-- The laws of records: a field is marked in the bit map exactly if it is not empty, for any list of fields. Assumes nothing.
use mathlib.Core.Path.{◌≡◌, refl, ap, sym, ◌∙◌, subst}
use mathlib.Core.Bool.{Bool, true, false, not, cond, true≢false, false≢true}
use mathlib.Core.List.{List, [], ◌∷◌, ◌++◌, append_assoc, append-nil}
use Prim.Native.Nat.{ℕ, zero, suc, ◌+◌, ◌/◌, ◌%◌, ◌^◌, ◌≤◌, ◌<◌}
use native.Mathlib.Nat.{add-zero, add-suc, suc-add, div-one, div-eq_of_lt, div-div-eq-div-mul, pow-suc, one-le-pow}
use native.Mathlib.Omega.{arith}
use lib.Dec.{eqb, lit<}
use lib.ListN.{length, drop, length-append}
use lib.Pow.{pow_pos}
use borrow.Author.Tests.{eq-eqb, ne_eqb, eqb-true, eqb-false}
use Rattle.sets.specs.Ranges.{num}
use Rattle.sets.specs.Sets.{bit, member}
use Rattle.sets.proofs.Ranges.{num-le}
use Rattle.sets.proofs.Bits.{member-num, num-member}
use Rattle.reading.specs.Got.{Reader, optional}
use Rattle.reading.specs.Items.{bytes_in, name_at}
use Rattle.jobfile.specs.Layout.{Field, set, amount, width, Layout, name_bit, bits}
use Rattle.jobfile.specs.Job.{Record}
use Rattle.jobfile.specs.Read.{below, item_at, fields_at, record_at}
use Rattle.jobfile.specs.Write.{bytes_of, field_bytes, name_bytes, fields_bytes, parts_bytes, is_empty, map_of, joined, write_record}
use Rattle.jobfile.specs.Valid.{Bytes, Each, Fits, ValidRecord}
use Rattle.jobfile.proofs.Lawful.{Lawful, All, restate, optional-lawful, seq-lawful, pure-lawful, cons-lawful, head_or, tail_of, OnlyIf, only_if}
use Rattle.jobfile.proofs.ItemLaws.{amount-lawful, field-lawful, name-lawful, map-lawful, NameOk}

-- ---- bit maps

-- the bits of m from k on mark the fields that are written
abbrev pub Marked : List (List ℕ) → ℕ → ℕ → Type 0
Marked [] m k = Unit {0}
Marked (field ∷ fields) m k = (member m k ≡ not (is_empty field)) × Marked fields m (suc k)

next_bit : (m k : ℕ) → m / 2 ^ suc k ≡ m / 2 ^ k / 2
next_bit m k = ap (λ (x : ℕ). m / x) (pow-suc 2 k) ∙ sym (div-div-eq-div-mul m (2 ^ k) 2)

bit_is : (m k : ℕ) → bit m k ≡ m / 2 ^ k % 2
unfolding bit
bit_is m k = refl

-- so m is the map of these fields
marked-map : (fields : List (List ℕ)) (m k : ℕ) → m < 2 ^ (k + length fields) → Marked fields m k → m / 2 ^ k ≡ map_of fields
unfolding map_of
marked-map [] m k h o = div-eq_of_lt (subst (λ (x : ℕ). m < 2 ^ x) (add-zero k) h)
marked-map (field ∷ fields) m k h o =
    omega (
      arith,
      marked-map fields m (suc k) (subst (λ (x : ℕ). m < 2 ^ x) (add-suc k (length fields) ∙ sym (suc-add k (length fields))) h) o.1,
      next_bit m k,
      bit_is m k,
      num-member m k,
      ap num o.0,
    )

map-marked : (fields : List (List ℕ)) (m k : ℕ) → m / 2 ^ k ≡ map_of fields → Marked fields m k
unfolding map_of
map-marked [] m k e = tt
map-marked (field ∷ fields) m k e = (member-num m k (not (is_empty field)) (omega (arith, bit_is m k, num-le (not (is_empty field)))), map-marked fields m (suc k) (omega (arith, next_bit m k, num-le (not (is_empty field)))))

map_below : (fields : List (List ℕ)) → map_of fields < 2 ^ length fields
unfolding map_of
map_below [] = lit< tt
map_below (field ∷ fields) = omega (arith, map_below fields, pow-suc 2 (length fields), num-le (not (is_empty field)))

-- fields after fields
marked-both : (fields others : List (List ℕ)) (m k : ℕ) → Marked fields m k → Marked others m (k + length fields) → Marked (fields ++ others) m k
marked-both [] others m k o p = subst (λ (x : ℕ). Marked others m x) (add-zero k) p
marked-both (g ∷ fields) others m k o p =
    (o.0, marked-both fields others m (suc k) o.1 (subst (λ (x : ℕ). Marked others m x) (add-suc k (length fields) ∙ sym (suc-add k (length fields))) p))

both-marked : (fields others : List (List ℕ)) (m k : ℕ) → Marked (fields ++ others) m k → Marked fields m k × Marked others m (k + length fields)
both-marked [] others m k o = (tt, subst (λ (x : ℕ). Marked others m x) (sym (add-zero k)) o)
both-marked (g ∷ fields) others m k o =
    let r = both-marked fields others m (suc k) o.1 in
    ((o.0, r.0), subst (λ (x : ℕ). Marked others m x) (suc-add k (length fields) ∙ sym (add-suc k (length fields))) r.1)

joined-both : (fields others : List (List ℕ)) → joined (fields ++ others) ≡ joined fields ++ joined others
unfolding joined
joined-both [] others = refl
joined-both (g ∷ fields) others = ap (λ (l : List ℕ). g ++ l) (joined-both fields others) ∙ sym (append_assoc g (joined fields) (joined others))

-- ---- one field, with its mark

pub written-field : (bytes v : ℕ) → 0 < bytes → is_empty (field_bytes bytes v) ≡ eqb v 0
unfolding field_bytes bytes_of
written-field zero v h = absurd (omega arith)
written-field (suc bytes) v h = go (eqb v 0)
  where
    go : (b : Bool) → is_empty (cond b [] (bytes_of (suc bytes) v)) ≡ b
    go true = refl
    go false = refl

-- a number of this many bytes that is not 0 and is below a top
marked-lawful : (marked : Bool) (bytes top : ℕ) {read : Reader ℕ} → 0 < bytes → 0 < top → Lawful read (bytes_of bytes) (λ v. (0 < v) × (v < top))
    → Lawful (optional marked 0 read) (field_bytes bytes) (λ v. (v < top) × (marked ≡ not (is_empty (field_bytes bytes v))))
unfolding field_bytes
marked-lawful marked bytes top some more law = restate (optional-lawful marked 0 law) (to marked) (fro marked) (same marked)
  where
    to : (b : Bool) (v : ℕ) → OnlyIf b ((0 < v) × (v < top)) (v ≡ 0) → (v < top) × (b ≡ not (is_empty (field_bytes bytes v)))
    to true v o = (o.1, sym (ap not (written-field bytes v some ∙ ne_eqb v 0 (λ z. omega (arith, o.0)))))
    to false v o = (omega (arith, o, more), sym (ap not (written-field bytes v some ∙ eq-eqb v 0 o)))

    fro : (b : Bool) (v : ℕ) → (v < top) × (b ≡ not (is_empty (field_bytes bytes v))) → OnlyIf b ((0 < v) × (v < top)) (v ≡ 0)
    fro b v o = go b (eqb v 0) refl (o.1 ∙ ap not (written-field bytes v some))
      where
        above : (v : ℕ) → (v ≡ 0 → ⊥) → 0 < v
        above v d = omega arith

        go : (b t : Bool) → eqb v 0 ≡ t → b ≡ not (eqb v 0) → OnlyIf b ((0 < v) × (v < top)) (v ≡ 0)
        go true true e q = let z = q ∙ ap not e in absurd (true≢false z)
        go true false e q = (above v (eqb-false v 0 e), o.0)
        go false true e q = eqb-true v 0 e
        go false false e q = let z = q ∙ ap not e in absurd (false≢true z)

    same : (b : Bool) (v : ℕ) → OnlyIf b ((0 < v) × (v < top)) (v ≡ 0) → only_if b (bytes_of bytes v) ≡ field_bytes bytes v
    same true v o = rw (ne_eqb v 0 (λ z. omega (arith, o.0)))
    same false v o = rw (eq-eqb v 0 o)

-- a field has bytes, and a set of these bounds fits into them
abbrev pub Roomy : ℕ → ℕ → Field → Type 0
Roomy count number (set bytes bound) = (0 < bytes) × (2 ^ below bound count number ≤ 256 ^ bytes)
Roomy count number (amount bytes) = 0 < bytes

pub field-marked-lawful : (field : Field) (count number : ℕ) (marked : Bool) → Roomy count number field
    → Lawful (optional marked 0 (item_at field count number)) (field_bytes (width field)) (λ v. Fits count number field v × (marked ≡ not (is_empty (field_bytes (width field) v))))
field-marked-lawful (set bytes bound) count number marked room =
    let limit = below bound count number in
    marked-lawful marked bytes (2 ^ limit) room.0 (pow_pos limit) (field-lawful bytes limit room.1)
field-marked-lawful (amount bytes) count number marked room = marked-lawful marked bytes (256 ^ bytes) room (one-le-pow bytes 256 (lit< tt)) (amount-lawful bytes)

pub name-field-lawful : (marked : Bool) (limit : ℕ) → limit < 256
    → Lawful (λ f at. optional marked [] (name_at (bytes_in f) limit) f at) name_bytes (λ s. ((length s ≤ limit) × Bytes s) × (marked ≡ not (is_empty (name_bytes s))))
unfolding name_bytes
name-field-lawful true limit small =
    restate (name-lawful limit small) to (λ s o. record { some = some s o.1; short = o.0.0; letters = o.0.1 }) same
  where
    some : (s : List ℕ) → true ≡ not (is_empty (name_bytes s)) → 0 < length s
    some [] e = absurd (true≢false e)
    some (x ∷ s) e = omega arith

    to : (s : List ℕ) → NameOk limit s → ((length s ≤ limit) × Bytes s) × (true ≡ not (is_empty (name_bytes s)))
    to [] o = absurd (omega (arith, o.some))
    to (x ∷ s) o = ((o.short, o.letters), refl)

    same : (s : List ℕ) → NameOk limit s → length s ∷ s ≡ name_bytes s
    same [] o = absurd (omega (arith, o.some))
    same (x ∷ s) o = refl
name-field-lawful false limit small = restate (pure-lawful []) to fro same
  where
    to : (s : List ℕ) → s ≡ [] → ((length s ≤ limit) × Bytes s) × (false ≡ not (is_empty (name_bytes s)))
    to s e = rw e ((omega arith, λ k. lit< tt), refl)

    fro : (s : List ℕ) → ((length s ≤ limit) × Bytes s) × (false ≡ not (is_empty (name_bytes s))) → s ≡ []
    fro [] o = refl
    fro (x ∷ s) o = absurd (false≢true o.1)

    same : (s : List ℕ) → s ≡ [] → [] ≡ name_bytes s
    same s e = rw e

-- ---- the fields of a record, before the name or after it

pub length_fields : (fields : List Field) (vs : List ℕ) → length (fields_bytes fields vs) ≡ length fields
unfolding fields_bytes
length_fields [] vs = refl
length_fields (field ∷ fields) vs = ap suc (length_fields fields (drop 1 vs))

pub fields-lawful : (fields : List Field) (count number m k : ℕ) → All (Roomy count number) fields
    → Lawful (fields_at fields count number m k) (λ vs. joined (fields_bytes fields vs)) (λ vs. Each (Fits count number) fields vs × Marked (fields_bytes fields vs) m k)
unfolding fields_at fields_bytes joined
fields-lawful [] count number m k room = restate (pure-lawful []) to fro (λ vs o. refl)
  where
    to : (vs : List ℕ) → vs ≡ [] → Each (Fits count number) [] vs × Unit {0}
    to [] e = (tt, tt)
    to (v ∷ vs) e = let z : ◌≡◌ {A = ℕ} 0 1 = cc in absurd (omega arith)

    fro : (vs : List ℕ) → Each (Fits count number) [] vs × Unit {0} → vs ≡ []
    fro [] o = refl
    fro (v ∷ vs) o = absurd o.0
fields-lawful (field ∷ fields) count number m k room =
    restate (cons-lawful 0 (field-marked-lawful field count number (member m k) room.0) (fields-lawful fields count number m (suc k) room.1)) to fro same
  where
    Split : List ℕ → Type 0
    Split vs =
        ((Fits count number field (head_or 0 vs) × (member m k ≡ not (is_empty (field_bytes (width field) (head_or 0 vs)))))
        × (Each (Fits count number) fields (tail_of vs) × Marked (fields_bytes fields (tail_of vs)) m (suc k)))
        × (vs ≡ head_or 0 vs ∷ tail_of vs)

    to : (vs : List ℕ) → Split vs → Each (Fits count number) (field ∷ fields) vs × Marked (fields_bytes (field ∷ fields) vs) m k
    to [] o = let e = o.1 in let z : ◌≡◌ {A = ℕ} 0 1 = cc in absurd (omega arith)
    to (v ∷ vs) o = ((o.0.0.0, o.0.1.0), (o.0.0.1, o.0.1.1))

    fro : (vs : List ℕ) → Each (Fits count number) (field ∷ fields) vs × Marked (fields_bytes (field ∷ fields) vs) m k → Split vs
    fro [] o = absurd o.0
    fro (v ∷ vs) o = (((o.0.0, o.1.0), (o.0.1, o.1.1)), refl)

    same : (vs : List ℕ) → Split vs → field_bytes (width field) (head_or 0 vs) ++ joined (fields_bytes fields (tail_of vs)) ≡ joined (fields_bytes (field ∷ fields) vs)
    same [] o = let e = o.1 in let z : ◌≡◌ {A = ℕ} 0 1 = cc in absurd (omega arith)
    same (v ∷ vs) o = refl

-- ---- a record

module _ (layout : Layout) where
  -- the parts before the name, and the name with those after it
  abbrev pub parts_before : Record (List ℕ) → List (List ℕ)
  parts_before r = fields_bytes layout.before r.before

  abbrev pub parts_from : Record (List ℕ) → List (List ℕ)
  parts_from r = name_bytes r.name ∷ fields_bytes layout.after r.after

  pub record-parts : (r : Record (List ℕ)) → write_record layout r ≡ map_of (parts_bytes layout r) ∷ joined (parts_before r) ++ joined (parts_from r)
  unfolding write_record parts_bytes
  record-parts r = ap (λ (l : List ℕ). map_of (parts_bytes layout r) ∷ l) (joined-both (parts_before r) (parts_from r))

  all-bits : (r : Record (List ℕ)) → length (parts_bytes layout r) ≡ bits layout
  unfolding parts_bytes
  all-bits r = length-append (parts_before r) (parts_from r) ∙ omega (arith, length_fields layout.before r.before, length_fields layout.after r.after)

  pub below_all : (r : Record (List ℕ)) → map_of (parts_bytes layout r) < 2 ^ bits layout
  below_all r = subst (λ (x : ℕ). map_of (parts_bytes layout r) < 2 ^ x) (all-bits r) (map_below (parts_bytes layout r))

  -- the name's bit is the one after those of the fields before it
  bits-before : (r : Record (List ℕ)) → 0 + length (parts_before r) ≡ name_bit layout
  bits-before r = omega (arith, length_fields layout.before r.before)

  tells : (m : ℕ) (r : Record (List ℕ)) → m < 2 ^ bits layout → Marked (parts_before r) m 0 → Marked (parts_from r) m (name_bit layout) → map_of (parts_bytes layout r) ≡ m
  unfolding parts_bytes
  tells m r vm o p =
      let all = marked-both (parts_before r) (parts_from r) m 0 o (subst (λ (x : ℕ). Marked (parts_from r) m x) (sym (bits-before r)) p) in
      sym (sym (div-one m) ∙ marked-map (parts_bytes layout r) m 0 (subst (λ (x : ℕ). m < 2 ^ x) (sym (all-bits r) ∙ omega arith) vm) all)

  -- the map of a record marks what is written of it
  pub marks : (r : Record (List ℕ)) → Marked (parts_before r) (map_of (parts_bytes layout r)) 0 × Marked (parts_from r) (map_of (parts_bytes layout r)) (name_bit layout)
  unfolding parts_bytes
  marks r =
      let m = map_of (parts_bytes layout r) in
      let o = both-marked (parts_before r) (parts_from r) m 0 (map-marked (parts_bytes layout r) m 0 (div-one m)) in
      (o.0, subst (λ (x : ℕ). Marked (parts_from r) m x) (bits-before r) o.1)

  pub record-lawful : (count number : ℕ) → All (Roomy count number) layout.before → All (Roomy count number) layout.after → 2 ^ bits layout ≤ 256 → layout.longest < 256
      → Lawful (λ f at. record_at (bytes_in f) layout count number f at) (write_record layout) (ValidRecord layout count number)
  unfolding record_at joined
  record-lawful count number room room' few small =
      restate
      (seq-lawful (λ r. map_of (parts_bytes layout r)) (map-lawful (bits layout) few)
      (λ m vm. seq-lawful (λ r. r.before) (fields-lawful layout.before count number m 0 room)
      (λ vs o. seq-lawful (λ r. r.name) (name-field-lawful (member m (name_bit layout)) layout.longest small)
      (λ s os. seq-lawful (λ r. r.after) (fields-lawful layout.after count number m (suc (name_bit layout)) room')
      (λ ws ow. pure-lawful (record { before = vs; name = s; after = ws }))
      (λ ws r ow q. ap (λ (x : Record (List ℕ)). x.after) q))
      (λ s r os q. ap (λ (x : Record (List ℕ)). x.name) q.1))
      (λ vs r o q. ap (λ (x : Record (List ℕ)). x.before) q.1.1))
      (λ m r vm o. tells m r vm o.0.1 (o.1.0.1, o.1.1.0.1)))
      (λ r o. record { before = o.1.0.0; short = o.1.1.0.0.0; letters = o.1.1.0.0.1; after = o.1.1.1.0.0 })
      (λ r o. let s = marks r in (below_all r, ((o.before, s.0), (((o.short, o.letters), s.1.0), ((o.after, s.1.1), refl)))))
      (λ r o.
      ap (λ (l : List ℕ). map_of (parts_bytes layout r) ∷ (joined (parts_before r) ++ (name_bytes r.name ++ l))) (append-nil (joined (fields_bytes layout.after r.after))) ∙ sym (record-parts r))
