-- The laws of whole files, for any layout whose fields have room for what they hold, and for any list of such layouts; and that the kinds that there are
-- are such. Assumes nothing.
use mathlib.Core.Path.{◌≡◌, refl, ap, sym, subst}
use mathlib.Core.Bool.{Bool, true, false, cond}
use mathlib.Core.List.{List, [], ◌∷◌, append-nil}
use mathlib.Core.Option.{some}
use Prim.Native.Nat.{ℕ, zero, suc, ◌+◌, ◌^◌, ◌≤◌, ◌<◌}
use native.Mathlib.Nat.{le_trans, le_refl}
use native.Mathlib.Omega.{arith}
use lib.Dec.{eqb, lit<, lit≤}
use lib.ListN.{length, get_or}
use lib.Pow.{pow_mono}
use borrow.Author.Tests.{eqb-true}
use Rattle.reading.specs.Got.{each_at, up_from}
use Rattle.reading.specs.Items.{bytes_in, count_at, set_at}
use Rattle.jobfile.specs.Layout.{Count, Bound, counted, own, Field, set, amount, Layout, bits, choice, fitting, kinds, layout_in}
use Rattle.jobfile.specs.Job.{no_record, Job}
use Rattle.jobfile.specs.Read.{below, record_at, body_at}
use Rattle.jobfile.specs.Write.{bytes_of, write_record, write_each, write_all, write_body}
use Rattle.jobfile.specs.Valid.{Each, AllFrom, ValidRecord}
use Rattle.jobfile.proofs.Lawful.{Lawful, All, restate, reread, each_same, seq-lawful, pure-lawful, each-lawful, all-lawful}
use Rattle.jobfile.proofs.ItemLaws.{count-lawful, set-lawful}
use Rattle.jobfile.proofs.RecordLaws.{Roomy, record-lawful}

-- the limit of count k
abbrev pub limit_at : Layout → ℕ → ℕ
limit_at layout k = (get_or layout.counts k (record { bytes = 0; limit = 0 })).limit

-- every item has room for its greatest value
pub record Sound (layout : Layout) : Type 0 where
  pub counts : All (λ c. c.limit < 256 ^ c.bytes) layout.counts
  pub heads : All (λ bytes. 2 ^ limit_at layout 1 ≤ 256 ^ bytes) layout.heads
  pub before : All (Roomy (limit_at layout 1) (limit_at layout 0)) layout.before
  pub after : All (Roomy (limit_at layout 1) (limit_at layout 0)) layout.after
  pub few : 2 ^ bits layout ≤ 256
  pub longest : layout.longest < 256

-- what is found in a list of layouts has the kind that was asked for, and is what all of them are
pub layout-found : (P : Layout → Type 0) (layouts : List Layout) (kind : ℕ) {layout : Layout} → All P layouts → layout_in layouts kind ≡ some layout → (layout.kind ≡ kind) × P layout
unfolding layout_in
layout-found P [] kind all e = let z : ◌≡◌ {A = ℕ} 0 1 = cc in absurd (omega arith)
layout-found P (x ∷ layouts) kind {layout} all e = go (eqb kind x.kind) refl e (layout-found P layouts kind {layout = layout} all.1)
  where
    go : (b : Bool) → eqb kind x.kind ≡ b → cond b (some x) (layout_in layouts kind) ≡ some layout → (layout_in layouts kind ≡ some layout → (layout.kind ≡ kind) × P layout) → (layout.kind ≡ kind) × P layout
    go true q e rest = let same : x ≡ layout = cc in rw (← same) (sym (eqb-true kind x.kind q), all.0)
    go false q e rest = rest e

-- ---- the kinds that there are

pub choice-sound : Sound choice
unfolding choice
choice-sound = record {
  counts = (lit< tt, (lit< tt, tt));
  heads = (lit≤ tt, tt);
  before = ((lit< tt, lit≤ tt), ((lit< tt, lit≤ tt), tt));
  after = (lit< tt, tt);
  few = lit≤ tt;
  longest = lit< tt;
}

fitting-sound : Sound fitting
unfolding fitting
fitting-sound = record {
  counts = (lit< tt, (lit< tt, (lit< tt, tt)));
  heads = (lit≤ tt, (lit≤ tt, tt));
  before = ((lit< tt, lit≤ tt), ((lit< tt, lit≤ tt), ((lit< tt, lit≤ tt), tt)));
  after = tt;
  few = lit≤ tt;
  longest = lit< tt;
}

pub kinds-sound : All Sound kinds
unfolding kinds
kinds-sound = (choice-sound, (fitting-sound, tt))

-- ---- bounds

-- what is related is so place by place, and after both ends if the defaults are
pub each_at_lem : {A B : Type 0} (P : A → B → Type 0) (a : A) (b : B) → P a b → (xs : List A) (ys : List B) → Each P xs ys → (k : ℕ) → P (get_or xs k a) (get_or ys k b)
each_at_lem P a b past [] [] o k = past
each_at_lem P a b past [] (y ∷ ys) o k = absurd o
each_at_lem P a b past (x ∷ xs) [] o k = absurd o
each_at_lem P a b past (x ∷ xs) (y ∷ ys) o zero = o.0
each_at_lem P a b past (x ∷ xs) (y ∷ ys) o (suc k) = each_at_lem P a b past xs ys o.1 k

-- element i, which has number n in all
pub all-at : {A : Type 0} (P : ℕ → A → Type 0) (none : A) (k i n : ℕ) → n ≡ k + i → (l : List A) → AllFrom P k l → i < length l → P n (get_or l i none)
all-at P none k i n e [] o h = absurd (omega arith)
all-at P none k zero n e (x ∷ l) o h = subst (λ (j : ℕ). P j x) (let same : k ≡ n = omega arith in same) o.0
all-at P none k (suc i) n e (x ∷ l) o h = all-at P none (suc k) i n (omega arith) l o.1 (omega arith)

-- a count is at most its limit
pub count-bound : (layout : Layout) (vs : List ℕ) → Each (λ c v. v ≤ c.limit) layout.counts vs → (k : ℕ) → get_or vs k 0 ≤ limit_at layout k
count-bound layout vs o = each_at_lem (λ c v. v ≤ c.limit) (record { bytes = 0; limit = 0 }) 0 (le_refl 0) layout.counts vs o

below-mono : (bound : Bound) {a b c d : ℕ} → a ≤ c → b ≤ d → below bound a b ≤ below bound c d
below-mono counted p q = p
below-mono own p q = q

room-one : (field : Field) (a b c d : ℕ) → a ≤ c → b ≤ d → Roomy c d field → Roomy a b field
room-one (set bytes bound) a b c d p q o = (o.0, le_trans (pow_mono (below-mono bound p q)) o.1)
room-one (amount bytes) a b c d p q o = o

room : (fields : List Field) (a b c d : ℕ) → a ≤ c → b ≤ d → All (Roomy c d) fields → All (Roomy a b) fields
room [] a b c d p q o = tt
room (field ∷ fields) a b c d p q o = (room-one field a b c d p q o.0, room fields a b c d p q o.1)

counts-lawful : (cs : List Count) → All (λ c. c.limit < 256 ^ c.bytes) cs → All (λ c. Lawful (count_at c.bytes c.limit) (bytes_of c.bytes) (λ v. v ≤ c.limit)) cs
counts-lawful [] o = tt
counts-lawful (c ∷ cs) o = (count-lawful c.bytes c.limit o.0, counts-lawful cs o.1)

heads-lawful : (limit top : ℕ) → limit ≤ top → (hs : List ℕ) → All (λ bytes. 2 ^ top ≤ 256 ^ bytes) hs → All (λ bytes. Lawful (set_at bytes limit) (bytes_of bytes) (λ v. v < 2 ^ limit)) hs
heads-lawful limit top h [] o = tt
heads-lawful limit top h (b ∷ hs) o = (set-lawful b limit (le_trans (pow_mono h) o.0), heads-lawful limit top h hs o.1)

-- ---- after the kind

-- what holds of a job of this layout
pub record Body (layout : Layout) (job : Job (List ℕ)) : Type 0 where
  pub kind : job.kind ≡ layout.kind
  pub counts : Each (λ c v. v ≤ c.limit) layout.counts job.counts
  pub heads : Each (λ bytes v. v < 2 ^ get_or job.counts 1 0) layout.heads job.heads
  pub size : length job.records ≡ get_or job.counts 0 0
  pub records : AllFrom (ValidRecord layout (get_or job.counts 1 0)) 0 job.records

module _ (layout : Layout) (ok : Sound layout) where
  pub all-counts : Lawful (each_at (λ c. count_at c.bytes c.limit) layout.counts) (write_each (λ c v. bytes_of c.bytes v) layout.counts) (Each (λ c v. v ≤ c.limit) layout.counts)
  all-counts = each-lawful 0 (λ c. count_at c.bytes c.limit) (λ c. bytes_of c.bytes) (λ c v. v ≤ c.limit) layout.counts (counts-lawful layout.counts ok.counts)

  module _ (cs : List ℕ) (few : Each (λ c v. v ≤ c.limit) layout.counts cs) where
    pub one-head : All (λ bytes. Lawful (set_at bytes (get_or cs 1 0)) (bytes_of bytes) (λ v. v < 2 ^ get_or cs 1 0)) layout.heads
    one-head = heads-lawful (get_or cs 1 0) (limit_at layout 1) (count-bound layout cs few 1) layout.heads ok.heads

    pub all-heads : Lawful (each_at (λ bytes. set_at bytes (get_or cs 1 0)) layout.heads) (write_each bytes_of layout.heads) (Each (λ bytes v. v < 2 ^ get_or cs 1 0) layout.heads)
    all-heads = each-lawful 0 (λ bytes. set_at bytes (get_or cs 1 0)) bytes_of (λ bytes v. v < 2 ^ get_or cs 1 0) layout.heads one-head

    pub roomy : (i : ℕ) → i ≤ limit_at layout 0 → (fields : List Field) → All (Roomy (limit_at layout 1) (limit_at layout 0)) fields → All (Roomy (get_or cs 1 0) i) fields
    roomy i l fields = room fields (get_or cs 1 0) i (limit_at layout 1) (limit_at layout 0) (count-bound layout cs few 1) l

    pub one-record : (i : ℕ) → i < limit_at layout 0 → Lawful (λ f at. record_at (bytes_in f) layout (get_or cs 1 0) i f at) (write_record layout) (ValidRecord layout (get_or cs 1 0) i)
    one-record i l = record-lawful layout (get_or cs 1 0) i (roomy i (omega arith) layout.before ok.before) (roomy i (omega arith) layout.after ok.after) ok.few ok.longest

    all-records : Lawful (λ f at. each_at (record_at (bytes_in f) layout (get_or cs 1 0)) (up_from (get_or cs 0 0) 0) f at) (write_all (write_record layout))
        (λ rs. (length rs ≡ get_or cs 0 0) × AllFrom (ValidRecord layout (get_or cs 1 0)) 0 rs)
    all-records =
        reread (λ f at. each_same (λ i g. record_at (bytes_in g) layout (get_or cs 1 0) i g) (record_at (bytes_in f) layout (get_or cs 1 0)) f (λ i a. refl) (up_from (get_or cs 0 0) 0) at)
        (all-lawful no_record (λ i f at. record_at (bytes_in f) layout (get_or cs 1 0) i f at) (write_record layout) (ValidRecord layout (get_or cs 1 0)) (limit_at layout 0) one-record
        (get_or cs 0 0) (count-bound layout cs few 0))

  pub body-lawful : Lawful (λ f at. body_at (bytes_in f) layout f at) (write_body layout) (Body layout)
  unfolding body_at write_body
  body-lawful =
      restate
      (seq-lawful (λ j. j.counts) all-counts
      (λ cs vcs. seq-lawful (λ j. j.heads) (all-heads cs vcs)
      (λ hs vhs. seq-lawful (λ j. j.records) (all-records cs vcs)
      (λ rs vrs. pure-lawful (record { kind = layout.kind; counts = cs; heads = hs; records = rs }))
      (λ rs j vrs o. ap (λ (x : Job (List ℕ)). x.records) o))
      (λ hs j vhs o. ap (λ (x : Job (List ℕ)). x.heads) o.1))
      (λ cs j vcs o. ap (λ (x : Job (List ℕ)). x.counts) o.1.1))
      (λ j o. record { kind = ap (λ (x : Job (List ℕ)). x.kind) o.1.1.1; counts = o.0; heads = o.1.0; size = o.1.1.0.0; records = o.1.1.0.1 })
      (λ j o. (o.counts, (o.heads, ((o.size, o.records), whole j o.kind))))
      (λ j o. rw append-nil)
    where
      whole : (j : Job (List ℕ)) → j.kind ≡ layout.kind → j ≡ record { kind = layout.kind; counts = j.counts; heads = j.heads; records = j.records }
      whole j e = ap (λ (k : ℕ). record { kind = k; counts = j.counts; heads = j.heads; records = j.records }) e
