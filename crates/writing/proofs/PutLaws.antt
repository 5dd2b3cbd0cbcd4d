-- The laws of bytes that are put into a page, one after the other, up to the whole file of a choice. Assumes nothing.
use mathlib.Core.Path.{◌≡◌, refl, ap, ap₂, sym, ◌∙◌, subst}
use mathlib.Core.Bool.{Bool, true, false, not, cond}
use mathlib.Core.List.{List, [], ◌∷◌, ◌++◌, append-nil, append_assoc}
use Prim.Native.Nat.{ℕ, suc, ◌+◌, ◌-◌, ◌*◌, ◌/◌, ◌%◌, ◌≤◌, ◌<◌}
use native.Mathlib.Nat.{add-zero}
use native.Mathlib.Numerals.{add-one}
use native.Mathlib.Omega.{arith}
use lib.Dec.{eqb}
use lib.ListN.{length, set, take, drop, get_or, length-append}
use lib.Seq.{sets, sets-eq, take_at, take-suc, take_all, length-sets, length-take-le}
use Rattle.std.proofs.lemmas.Slice.{put_mid-paste}
use borrow.Rule.Slice.PartMut.{put_mid}
use borrow.Author.Tests.{eq-eqb, ne_eqb}
use Rattle.sets.specs.Ranges.{num, list_to}
use Rattle.sets.proofs.Ranges.{list-turn}
use Rattle.jobfile.specs.Layout.{choice, kinds, layout_in}
use Rattle.jobfile.specs.Job.{Record}
use Rattle.jobfile.specs.Write.{bytes_of, field_bytes, name_bytes, is_empty, fields_bytes, parts_bytes, map_of, joined, write_record, write_each, write_all, write_body, write}
use Rattle.jobfile.proofs.ItemLaws.{length-bytes}
use Rattle.jobfile.proofs.RecordLaws.{written-field}
use Rattle.writing.specs.Put.{Put}
use Rattle.writing.specs.Meaning.{article_by}

-- ---- runs of bytes

sets-append : (xs ys page : List ℕ) (at : ℕ) → sets (sets page at xs) (at + length xs) ys ≡ sets page at (xs ++ ys)
sets-append [] ys page at = rw (add-zero at)
sets-append (x ∷ xs) ys page at =
    let e : at + suc (length xs) ≡ suc at + length xs = omega arith in
    rw e (sets-append xs ys (set page at x) (suc at))

-- nothing
pub put-none : (page : List ℕ) (at : ℕ) {end : ℕ} → end ≡ at → Put page at [] page end
put-none page at e = record { next = e ∙ sym (add-zero at); written = refl; same = refl }

-- one run after another
pub put-append : {old mid new xs ys : List ℕ} {at then end : ℕ} → Put old at xs mid then → Put mid then ys new end → Put old at (xs ++ ys) new end
put-append {old} {mid} {new} {xs} {ys} {at} {then} {end} p q =
    record {
      next = rw (length-append xs ys) (omega (arith, p.next, q.next));
      written = q.written ∙ ap₂ (λ (page : List ℕ) (k : ℕ). sets page k ys) p.written p.next ∙ sets-append xs ys old at;
      same = q.same ∙ p.same;
    }

-- the same bytes, said otherwise
pub put_as : {old new xs ys : List ℕ} {at end : ℕ} → Put old at xs new end → xs ≡ ys → Put old at ys new end
put_as {old} {new} {xs} {ys} {at} {end} p e = subst (λ (bytes : List ℕ). Put old at bytes new end) e p

pub byte-as : {old new : List ℕ} {at end x : ℕ} (y : ℕ) → Put old at (x ∷ []) new end → x ≡ y → Put old at (y ∷ []) new end
byte-as y p e = put_as p (ap (λ (b : ℕ). b ∷ []) e)

pub number-as : {old new : List ℕ} {at end k v : ℕ} (bytes number : ℕ) → Put old at (bytes_of k v) new end → k ≡ bytes → v ≡ number → Put old at (bytes_of bytes number) new end
number-as bytes number p e d = put_as p (ap₂ bytes_of e d)

pub field-as : {old new : List ℕ} {at end k v : ℕ} (bytes value : ℕ) → Put old at (field_bytes k v) new end → k ≡ bytes → v ≡ value → Put old at (field_bytes bytes value) new end
field-as bytes value p e d = put_as p (ap₂ field_bytes e d)

-- what is put from the front on is in front, and the rest of the page is as it was
pub put_whole : {old bytes new : List ℕ} {end : ℕ} → Put old 0 bytes new end → length bytes ≤ length old → new ≡ bytes ++ drop (length bytes) old
put_whole {old} {bytes} {new} {end} p h =
    let e : 0 + length bytes ≡ length bytes = omega arith in
    p.written ∙ sets-eq bytes old 0 (omega arith) ∙ ap (λ (k : ℕ). bytes ++ drop k old) e

pub put_front : {old bytes new : List ℕ} {end : ℕ} → Put old 0 bytes new end → end ≤ length old → take end new ≡ bytes
put_front {old} {bytes} {new} {end} p h =
    let e : length bytes ≡ end = omega (arith, p.next) in
    ap (take end) (put_whole p (omega arith)) ∙ take_at bytes (drop (length bytes) old) end e

-- ---- copying: the bytes are written in the place of as many

pub put-copied : (page : List ℕ) (at : ℕ) (bytes : List ℕ) {k end : ℕ} {part new : List ℕ} → at + length bytes ≤ length page → k ≡ length bytes → end ≡ at + length bytes → part ≡ bytes → new ≡ put_mid at k page part
    → Put page at bytes new end
put-copied page at bytes {k} {end} {part} {new} fits many next copied there =
    let written : new ≡ sets page at bytes =
    there
    ∙ put_mid-paste at k page part bytes (length bytes) copied (sym many) refl
    ∙ ap (λ (l : List ℕ). take at page ++ l ++ drop (at + length bytes) page) (take_all (length bytes) bytes (omega arith))
    ∙ sym (sets-eq bytes page at fits) in record { next = next; written = written; same = ap length written ∙ length-sets page at bytes }

-- ---- copying byte by byte: the first i bytes are put

pub copy-turn : (page : List ℕ) (at : ℕ) (bytes now : List ℕ) (i : ℕ) {k x : ℕ} → now ≡ sets page at (take i bytes) → i < length bytes → k ≡ at + i → x ≡ get_or bytes i 0
    → set now k x ≡ sets page at (take (i + 1) bytes)
copy-turn page at bytes now i e l place same =
    let n : length (take i bytes) ≡ i = length-take-le i bytes (omega arith) in
    rw (add-one, take-suc bytes i 0 l, ← sets-append (take i bytes) (get_or bytes i 0 ∷ []) page at, n, e, place, same)

pub copy-end : (page : List ℕ) (at : ℕ) (bytes now : List ℕ) (i : ℕ) → now ≡ sets page at (take i bytes) → length bytes ≤ i → now ≡ sets page at bytes
copy-end page at bytes now i e l = e ∙ ap (sets page at) (take_all i bytes l)

-- ---- numbers: the first i bytes are put, and putting what is left of the number after them gives the whole

pub number-start : (page : List ℕ) (at bytes number : ℕ) → sets page (at + 0) (bytes_of (bytes - 0) number) ≡ sets page at (bytes_of bytes number)
number-start page at bytes number = let e : bytes - 0 ≡ bytes = omega arith in rw (e, add-zero at)

pub number-turn : (page : List ℕ) (at bytes i v : ℕ) {k x w : ℕ} → i < bytes → k ≡ at + i → x ≡ v % 256 → w ≡ v / 256
    → sets (set page k x) (at + (i + 1)) (bytes_of (bytes - (i + 1)) w) ≡ sets page (at + i) (bytes_of (bytes - i) v)
unfolding bytes_of
number-turn page at bytes i v l place byte rest =
    let e : bytes - i ≡ suc (bytes - (i + 1)) = omega arith in
    let n : at + (i + 1) ≡ suc (at + i) = omega arith in
    rw (e, n, place, byte, rest)

pub number-end : (page : List ℕ) (at bytes i v : ℕ) → bytes ≤ i → page ≡ sets page (at + i) (bytes_of (bytes - i) v)
unfolding bytes_of
number-end page at bytes i v l = let e : bytes - i ≡ 0 = omega arith in rw e

-- ---- fields

pub field-none : (bytes value : ℕ) → value ≡ 0 → [] ≡ field_bytes bytes value
unfolding field_bytes
field-none bytes value e = rw (eq-eqb value 0 e)

pub field-some : (bytes value : ℕ) → (value ≡ 0 → ⊥) → bytes_of bytes value ≡ field_bytes bytes value
unfolding field_bytes
field-some bytes value d = rw (ne_eqb value 0 d)

pub field-most : (bytes value : ℕ) → length (field_bytes bytes value) ≤ bytes
unfolding field_bytes
field-most bytes value = go (eqb value 0)
  where
    go : (b : Bool) → length (cond b [] (bytes_of bytes value)) ≤ bytes
    go true = omega arith
    go false = omega (arith, length-bytes bytes value)

pub name-none : (name : List ℕ) → length name ≡ 0 → [] ≡ name_bytes name
unfolding name_bytes
name-none [] e = refl
name-none (b ∷ name) e = absurd (omega arith)

pub name-some : (name : List ℕ) → (length name ≡ 0 → ⊥) → length name ∷ name ≡ name_bytes name
unfolding name_bytes
name-some [] d = absurd (d refl)
name-some (b ∷ name) d = refl

pub name-most : (name : List ℕ) → length (name_bytes name) ≤ suc (length name)
unfolding name_bytes
name-most [] = omega arith
name-most (b ∷ name) = omega arith

name-empty : (name : List ℕ) → is_empty (name_bytes name) ≡ eqb (length name) 0
unfolding name_bytes
name-empty [] = refl
name-empty (b ∷ name) = sym (ne_eqb (suc (length name)) 0 (λ e. omega arith))

-- ---- a record

record-bytes : (wishes clashes : ℕ) (name : List ℕ) (price map : ℕ) → map ≡ num (not (eqb wishes 0)) + 2 * num (not (eqb clashes 0)) + 4 * num (not (eqb (length name) 0)) + 8 * num (not (eqb price 0))
    → (map ∷ []) ++ (field_bytes 8 wishes ++ (field_bytes 8 clashes ++ (name_bytes name ++ field_bytes 4 price))) ≡ write_record choice (article_by wishes clashes name price)
unfolding write_record map_of joined parts_bytes fields_bytes choice
record-bytes wishes clashes name price map e =
    ap₂ (λ (m : ℕ) (l : List ℕ). m ∷ l)
    (rw (written-field 8 wishes (omega arith), written-field 8 clashes (omega arith), name-empty name, written-field 4 price (omega arith)) (omega arith))
    (ap (λ (l : List ℕ). field_bytes 8 wishes ++ (field_bytes 8 clashes ++ (name_bytes name ++ l))) (sym (append-nil (field_bytes 4 price))))

pub record-put : {old a b c d new : List ℕ} {at i j k l end map : ℕ} (wishes clashes : ℕ) (name : List ℕ) (price : ℕ)
    → Put old at (map ∷ []) a i → Put a i (field_bytes 8 wishes) b j → Put b j (field_bytes 8 clashes) c k → Put c k (name_bytes name) d l → Put d l (field_bytes 4 price) new end
    → map ≡ num (not (eqb wishes 0)) + 2 * num (not (eqb clashes 0)) + 4 * num (not (eqb (length name) 0)) + 8 * num (not (eqb price 0))
    → Put old at (write_record choice (article_by wishes clashes name price)) new end
record-put wishes clashes name price p q r s t e = put_as (put-append p (put-append q (put-append r (put-append s t)))) (record-bytes wishes clashes name price _ e)

-- it takes at most 55 bytes if its name has at most 33
record-most : (wishes clashes : ℕ) (name : List ℕ) (price : ℕ) → length name ≤ 33 → length (write_record choice (article_by wishes clashes name price)) ≤ 55
record-most wishes clashes name price h =
    omega (
      arith,
      ap length (record-bytes wishes clashes name price _ refl),
      length-append (field_bytes 8 wishes) (field_bytes 8 clashes ++ (name_bytes name ++ field_bytes 4 price)),
      length-append (field_bytes 8 clashes) (name_bytes name ++ field_bytes 4 price),
      length-append (name_bytes name) (field_bytes 4 price),
      field-most 8 wishes,
      field-most 8 clashes,
      name-most name,
      field-most 4 price,
    )

pub record-end : {old new : List ℕ} {at end : ℕ} (wishes clashes : ℕ) (name : List ℕ) (price : ℕ) → Put old at (write_record choice (article_by wishes clashes name price)) new end → length name ≤ 33 → end ≤ at + 55
record-end wishes clashes name price p h = omega (arith, p.next, record-most wishes clashes name price h)

-- the record of an article that has the other name, or the one that it is to keep
pub other_name : {old new : List ℕ} {at end v w u : ℕ} {other : Bool} (wishes clashes price : ℕ) (name kept : List ℕ)
    → Put old at (write_record choice (article_by v w name u)) new end → v ≡ wishes → w ≡ clashes → u ≡ price → other ≡ true
    → Put old at (write_record choice (article_by wishes clashes (cond other name kept) price)) new end
other_name wishes clashes price name kept p e d c t = put_as p (rw (e, d, c, t))

pub kept-name : {old new : List ℕ} {at end v w u : ℕ} {other : Bool} (wishes clashes price k len : ℕ) (name from : List ℕ)
    → Put old at (write_record choice (article_by v w (take k from) u)) new end → v ≡ wishes → w ≡ clashes → u ≡ price → k ≡ len → other ≡ false
    → Put old at (write_record choice (article_by wishes clashes (cond other name (take len from)) price)) new end
kept-name wishes clashes price k len name from p e d c q t = put_as p (rw (e, d, c, q, t))

-- ---- records one after the other

all_append : {A : Type 0} (write : A → List ℕ) (xs ys : List A) → write_all write (xs ++ ys) ≡ write_all write xs ++ write_all write ys
unfolding write_all
all_append write [] ys = refl
all_append write (x ∷ xs) ys = ap (λ (l : List ℕ). write x ++ l) (all_append write xs ys) ∙ sym (append_assoc (write x) (write_all write xs) (write_all write ys))

module _ {A : Type 0} (write : A → List ℕ) (item : ℕ → A) where
  pub all_none : [] ≡ write_all write (list_to 0 item)
  unfolding write_all list_to
  all_none = refl

  pub all-turn : (i : ℕ) → write_all write (list_to i item) ++ write (item i) ≡ write_all write (list_to (i + 1) item)
  unfolding write_all
  all-turn i =
      ap (λ (l : List ℕ). write_all write (list_to i item) ++ l) (sym (append-nil (write (item i))))
      ∙ sym (all_append write (list_to i item) (item i ∷ []))
      ∙ ap (write_all write) (sym (list-turn i item))

-- ---- the whole file

choice-bytes : (articles wishes order : ℕ) (records : List (Record (List ℕ)))
    → (67 ∷ []) ++ (bytes_of 1 articles ++ (bytes_of 1 wishes ++ (bytes_of 8 order ++ write_all (write_record choice) records)))
    ≡ write (record { kind = 67; counts = articles ∷ wishes ∷ []; heads = order ∷ []; records = records })
unfolding write write_body write_each kinds layout_in choice
choice-bytes articles wishes order records =
    let rest = write_all (write_record choice) records in
    ap (λ (l : List ℕ). 67 ∷ l) (
    ap (λ (l : List ℕ). bytes_of 1 articles ++ (bytes_of 1 wishes ++ (l ++ rest))) (sym (append-nil (bytes_of 8 order)))
    ∙ sym (append_assoc (bytes_of 1 articles) (bytes_of 1 wishes) ((bytes_of 8 order ++ []) ++ rest))
    ∙ ap (λ (l : List ℕ). (bytes_of 1 articles ++ l) ++ ((bytes_of 8 order ++ []) ++ rest)) (sym (append-nil (bytes_of 1 wishes)))
    )

pub choice-put : {old a b c d new : List ℕ} {i j k l end : ℕ} (articles wishes order : ℕ) (records : List (Record (List ℕ)))
    → Put old 0 (67 ∷ []) a i → Put a i (bytes_of 1 articles) b j → Put b j (bytes_of 1 wishes) c k → Put c k (bytes_of 8 order) d l → Put d l (write_all (write_record choice) records) new end
    → Put old 0 (write (record { kind = 67; counts = articles ∷ wishes ∷ []; heads = order ∷ []; records = records })) new end
choice-put articles wishes order records p q r s t = put_as (put-append p (put-append q (put-append r (put-append s t)))) (choice-bytes articles wishes order records)
