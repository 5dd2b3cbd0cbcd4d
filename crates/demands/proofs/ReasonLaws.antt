-- A file is refused for reasons 1 to 8 and no other: every item of a file and every way to join readers keeps to them. Assumes nothing.
use mathlib.Core.Path.{◌≡◌, ap, subst}
use mathlib.Core.Bool.{Bool, true, false, not, ◌&&◌}
use mathlib.Core.List.{List, [], ◌∷◌}
use mathlib.Core.Option.{Option, none, some}
use Prim.Native.Nat.{ℕ, suc, ◌+◌, ◌^◌, ◌≤◌}
use native.Mathlib.Omega.{arith}
use lib.Dec.{leb, ltb, eqb}
use lib.ListN.{length, get_or}
use borrow.Author.Tests.{lt-leb}
use Rattle.sets.specs.Sets.{member}
use Rattle.reading.specs.declared.Reason.{Reason}
use Rattle.reading.specs.declared.Reason.TheVariants.{WrongKind, EndsEarly, OverLimit, ForbiddenBit, EmptyField, AbsentMember, LongName, TrailingBytes}
use Rattle.reading.specs.Reasons.{number_of, answers}
use Rattle.reading.specs.Got.{Got, got, refused, Reader, refuse, and_then, checked, optional, each_at, up_from}
use Rattle.reading.specs.Items.{Naming, bytes_in, kind_at, number_at, count_at, map_at, set_at, amount_at, field_at, length_at, name_at}
use Rattle.jobfile.specs.Layout.{Field, set, amount, Layout, name_bit, bits, layout_of}
use Rattle.jobfile.specs.Job.{Job}
use Rattle.jobfile.specs.Read.{below, item_at, fields_at, record_at, body_at, layout_or, layout_at, read, read_job}

-- what is read, or a reason of a file
abbrev Tells : {A : Type 0} → Got A → Type 0
Tells (refused reason place) = number_of reason ≤ 8
Tells (got value next) = Unit {0}

-- ---- ways to join readers

refuse-tells : {A : Type 0} (t : Bool) (reason : Reason) (place : ℕ) (r : Got A) → number_of reason ≤ 8 → Tells r → Tells (refuse t reason place r)
refuse-tells true reason place r l h = l
refuse-tells false reason place r l h = h

then-tells : {A B : Type 0} (r : Got A) (rest : A → ℕ → Got B) → Tells r → ((a : A) (n : ℕ) → Tells (rest a n)) → Tells (and_then r rest)
then-tells (refused reason place) rest h k = h
then-tells (got value next) rest h k = k value next

module _ (f : List ℕ) where
  checked-tells : {A : Type 0} (fault : A → Bool) (reason : Reason) (item : Reader A) (at : ℕ) → number_of reason ≤ 8 → Tells (item f at) → Tells (checked fault reason item f at)
  checked-tells fault reason item at l h = then-tells (item f at) _ h (λ value next. refuse-tells (fault value) reason at (got value next) l tt)

  optional-tells : {A : Type 0} (b : Bool) (absent : A) (item : Reader A) (at : ℕ) → Tells (item f at) → Tells (optional b absent item f at)
  optional-tells true absent item at h = h
  optional-tells false absent item at h = tt

  each_tells : {A B : Type 0} (item : A → Reader B) → ((x : A) (at : ℕ) → Tells (item x f at)) → (xs : List A) (at : ℕ) → Tells (each_at item xs f at)
  unfolding each_at
  each_tells item h [] at = tt
  each_tells item h (x ∷ xs) at = then-tells (item x f at) _ (h x at) (λ y a. then-tells (each_at item xs f a) _ (each_tells item h xs a) (λ ys b. tt))

  -- ---- items

  kind-tells : (takes : ℕ → Bool) (at : ℕ) → Tells (kind_at takes f at)
  unfolding kind_at
  kind-tells takes at = refuse-tells (leb (length f) at) WrongKind at _ (omega arith) (refuse-tells (not (takes (get_or f at 0))) WrongKind at _ (omega arith) tt)

  number-tells : (bytes at : ℕ) → Tells (number_at bytes f at)
  unfolding number_at
  number-tells bytes at = refuse-tells (ltb (length f) (at + bytes)) EndsEarly (length f) _ (omega arith) tt

  count-tells : (bytes limit at : ℕ) → Tells (count_at bytes limit f at)
  unfolding count_at
  count-tells bytes limit at = checked-tells (ltb limit) OverLimit (number_at bytes) at (omega arith) (number-tells bytes at)

  map-tells : (fields at : ℕ) → Tells (map_at fields f at)
  unfolding map_at
  map-tells fields at = checked-tells (leb (2 ^ fields)) ForbiddenBit (number_at 1) at (omega arith) (number-tells 1 at)

  set_tells : (bytes limit at : ℕ) → Tells (set_at bytes limit f at)
  unfolding set_at
  set_tells bytes limit at = checked-tells (leb (2 ^ limit)) AbsentMember (number_at bytes) at (omega arith) (number-tells bytes at)

  amount-tells : (bytes at : ℕ) → Tells (amount_at bytes f at)
  amount-tells bytes at = checked-tells (λ v. eqb v 0) EmptyField (number_at bytes) at (omega arith) (number-tells bytes at)

  field-tells : (bytes limit at : ℕ) → Tells (field_at bytes limit f at)
  unfolding field_at
  field-tells bytes limit at = checked-tells (leb (2 ^ limit)) AbsentMember (amount_at bytes) at (omega arith) (amount-tells bytes at)

  name-tells : {N : Type 0} (names : Naming N) (limit at : ℕ) → Tells (name_at names limit f at)
  unfolding name_at length_at
  name-tells names limit at =
      then-tells (length_at limit f at) _ (checked-tells (ltb limit) LongName (amount_at 1) at (omega arith) (amount-tells 1 at))
      (λ len start. refuse-tells (ltb (length f) (start + len)) EndsEarly (length f) _ (omega arith) tt)

  -- ---- records, and the whole file

  item-tells : (field : Field) (count number at : ℕ) → Tells (item_at field count number f at)
  item-tells (set bytes bound) count number at = field-tells bytes (below bound count number) at
  item-tells (amount bytes) count number at = amount-tells bytes at

  fields-tells : (fields : List Field) (count number m k at : ℕ) → Tells (fields_at fields count number m k f at)
  unfolding fields_at
  fields-tells [] count number m k at = tt
  fields-tells (field ∷ fields) count number m k at =
      then-tells (optional (member m k) 0 (item_at field count number) f at) _ (optional-tells (member m k) 0 (item_at field count number) at (item-tells field count number at))
      (λ v a. then-tells (fields_at fields count number m (suc k) f a) _ (fields-tells fields count number m (suc k) a) (λ vs b. tt))

  record-tells : {N : Type 0} (names : Naming N) (layout : Layout) (count number at : ℕ) → Tells (record_at names layout count number f at)
  unfolding record_at
  record-tells names layout count number at =
      let n = name_bit layout in
      then-tells (map_at (bits layout) f at) _ (map-tells (bits layout) at) (λ m a.
      then-tells (fields_at layout.before count number m 0 f a) _ (fields-tells layout.before count number m 0 a) (λ before b.
      then-tells (optional (member m n) names.absent (name_at names layout.longest) f b) _ (optional-tells (member m n) names.absent (name_at names layout.longest) b (name-tells names layout.longest b)) (λ name c.
      then-tells (fields_at layout.after count number m (suc n) f c) _ (fields-tells layout.after count number m (suc n) c) (λ after d. tt))))

  body-tells : {N : Type 0} (names : Naming N) (layout : Layout) (at : ℕ) → Tells (body_at names layout f at)
  unfolding body_at
  body-tells names layout at =
      then-tells (each_at (λ c. count_at c.bytes c.limit) layout.counts f at) _ (each_tells (λ c. count_at c.bytes c.limit) (λ c. count-tells c.bytes c.limit) layout.counts at) (λ counts a.
      then-tells (each_at (λ bytes. set_at bytes (get_or counts 1 0)) layout.heads f a) _ (each_tells (λ bytes. set_at bytes (get_or counts 1 0)) (λ bytes. set_tells bytes (get_or counts 1 0)) layout.heads a) (λ heads b.
      then-tells (each_at (record_at names layout (get_or counts 1 0)) (up_from (get_or counts 0 0) 0) f b) _ (each_tells (record_at names layout (get_or counts 1 0)) (record-tells names layout (get_or counts 1 0)) (up_from (get_or counts 0 0) 0) b) (λ records c. tt)))

  there-tells : (l : Option Layout) (next : ℕ) → Tells (layout_or l next)
  there-tells none next = omega arith
  there-tells (some layout) next = tt

  layout-tells : (takes : ℕ → Bool) (at : ℕ) → Tells (layout_at takes f at)
  unfolding layout_at
  layout-tells takes at = then-tells (kind_at takes f at) _ (kind-tells takes at) (λ kind a. there-tells (layout_of kind) a)

  job-tells : (takes : ℕ → Bool) → Tells (read_job takes f)
  unfolding read_job read
  job-tells takes =
      then-tells (layout_at takes f 0) _ (layout-tells takes 0) (λ layout a.
      then-tells (body_at (bytes_in f) layout f a) _ (body-tells (bytes_in f) layout a) (λ job end. refuse-tells (ltb end (length f)) TrailingBytes end (got job (length f)) (omega arith) tt))

pub file-reason : (takes : ℕ → Bool) (f : List ℕ) {reason : Reason} {place : ℕ} → read_job takes f ≡ refused reason place → number_of reason ≤ 8
file-reason takes f e = subst (λ (g : Got (Job (List ℕ))). Tells g) e (job-tells f takes)

-- so a refused file is not one of the answers to accepted input
pub file-no-answer : (takes : ℕ → Bool) (f : List ℕ) {reason : Reason} {place : ℕ} → read_job takes f ≡ refused reason place → answers (number_of reason) ≡ false
file-no-answer takes f {reason} e = let l : number_of reason ≤ 8 = file-reason takes f e in ap (λ b. b && leb (number_of reason) 16) (lt-leb 14 (number_of reason) (omega arith))
