-- What is known of the job that a file states, by the layout of its kind. Assumes nothing.
use mathlib.Core.Path.{◌≡◌, refl, ap, subst}
use mathlib.Core.Option.{some}
use mathlib.Core.List.{List, [], ◌∷◌}
use Prim.Native.Nat.{ℕ, zero, suc, ◌^◌, ◌≤◌, ◌<◌}
use native.Mathlib.Nat.{one-le-pow}
use native.Mathlib.Omega.{arith}
use lib.ListN.{length, get_or, length-map}
use lib.Pow.{pow_pos}
use borrow.Author.Tests.{eqb-true}
use Rattle.reading.specs.Got.{got}
use Rattle.jobfile.specs.Layout.{counted, Field, set, amount, Layout, choice, fitting, kinds, layout_in, layout_of}
use Rattle.jobfile.specs.Job.{Record, Job, column, column_after}
use Rattle.jobfile.specs.Read.{read_job, choices, fittings}
use Rattle.jobfile.specs.Valid.{Each, AllFrom, Bytes, Fits, ValidRecord}
use Rattle.jobfile.proofs.FileLaws.{each_at_lem, Body}
use Rattle.jobfile.proofs.Theorems.{body_of, valid, kind-taken}

pub column-length : {N : Type 0} (k : ℕ) (records : List (Record N)) → length (column k records) ≡ length records
column-length k records = length-map records (λ r. get_or r.before k 0)

-- a column of sets of what the file counts
pub column-below : (layout : Layout) (count k bytes : ℕ) → get_or layout.before k (amount 0) ≡ set bytes counted
    → (i : ℕ) (records : List (Record (List ℕ))) → AllFrom (ValidRecord layout count) i records → (a : ℕ) → get_or (column k records) a 0 < 2 ^ count
column-below layout count k bytes e i [] o a = pow_pos count
column-below layout count k bytes e i (r ∷ rs) o zero =
    subst (λ (x : Field). Fits count i x (get_or r.before k 0)) e (each_at_lem (Fits count i) (amount 0) 0 (omega arith) layout.before r.before o.0.before k)
column-below layout count k bytes e i (r ∷ rs) o (suc a) = column-below layout count k bytes e (suc i) rs o.1 a

-- a column of amounts
pub amounts-below : (layout : Layout) (count k bytes : ℕ) → get_or layout.after k (amount 0) ≡ amount bytes
    → (i : ℕ) (records : List (Record (List ℕ))) → AllFrom (ValidRecord layout count) i records → (a : ℕ) → get_or (column_after k records) a 0 < 256 ^ bytes
amounts-below layout count k bytes e i [] o a = one-le-pow bytes 256 (omega arith)
amounts-below layout count k bytes e i (r ∷ rs) o zero =
    subst (λ (x : Field). Fits count i x (get_or r.after k 0)) e (each_at_lem (Fits count i) (amount 0) 0 (omega arith) layout.after r.after o.0.after k)
amounts-below layout count k bytes e i (r ∷ rs) o (suc a) = amounts-below layout count k bytes e (suc i) rs o.1 a

-- ---- by the layout of a choice

pub choice-known : {job : Job (List ℕ)} → Body choice job → layout_of job.kind ≡ some choice
unfolding choice kinds layout_in
choice-known ok = ap layout_of ok.kind

-- it has two counts and one head, and in a record two fields before the name and one after it
pub choice-counts : (counts : List ℕ) → Each (λ c v. v ≤ c.limit) choice.counts counts → counts ≡ get_or counts 0 0 ∷ get_or counts 1 0 ∷ []
unfolding choice
choice-counts [] o = absurd o
choice-counts (n ∷ []) o = absurd o.1
choice-counts (n ∷ w ∷ []) o = refl
choice-counts (n ∷ w ∷ x ∷ l) o = absurd o.1.1

pub choice-head : (w : ℕ) (heads : List ℕ) → Each (λ bytes v. v < 2 ^ w) choice.heads heads → heads ≡ get_or heads 0 0 ∷ []
unfolding choice
choice-head w [] o = absurd o
choice-head w (h ∷ []) o = refl
choice-head w (h ∷ x ∷ l) o = absurd o.1

pub choice-fields : (w number : ℕ) (fields : List ℕ) → Each (Fits w number) choice.before fields → fields ≡ get_or fields 0 0 ∷ get_or fields 1 0 ∷ []
unfolding choice
choice-fields w number [] o = absurd o
choice-fields w number (a ∷ []) o = absurd o.1
choice-fields w number (a ∷ b ∷ []) o = refl
choice-fields w number (a ∷ b ∷ x ∷ l) o = absurd o.1.1

pub choice-after : (w number : ℕ) (fields : List ℕ) → Each (Fits w number) choice.after fields → fields ≡ get_or fields 0 0 ∷ []
unfolding choice
choice-after w number [] o = absurd o
choice-after w number (p ∷ []) o = refl
choice-after w number (p ∷ x ∷ l) o = absurd o.1

-- ---- what is read as a choice has its layout, and so has a fitting

pub choice-stated : (f : List ℕ) → Bytes f → {job : Job (List ℕ)} {end : ℕ} → read_job choices f ≡ got job end → Body choice job
unfolding choice kinds layout_in
choice-stated f bytes {job} e = body_of job (valid choices f bytes e) (ap layout_of (eqb-true job.kind 67 (kind-taken choices f bytes e)))

pub fitting-stated : (f : List ℕ) → Bytes f → {job : Job (List ℕ)} {end : ℕ} → read_job fittings f ≡ got job end → Body fitting job
unfolding choice fitting kinds layout_in
fitting-stated f bytes {job} e = body_of job (valid fittings f bytes e) (ap layout_of (eqb-true job.kind 70 (kind-taken fittings f bytes e)))
