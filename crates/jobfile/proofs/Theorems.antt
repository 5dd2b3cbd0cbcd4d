-- One job, one writing (docs/RULES.md, "Job files"; demand 2), over all kinds at once. Assumes nothing.
use mathlib.Core.Path.{◌≡◌, refl, ap, sym, ◌∙◌, subst}
use mathlib.Core.Bool.{Bool, true}
use mathlib.Core.List.{List, [], ◌∷◌, ◌++◌, append-nil}
use mathlib.Core.Option.{Option, none, some}
use Prim.Native.Nat.{ℕ, ◌+◌, ◌≤◌}
use native.Mathlib.Omega.{arith}
use lib.Dec.{ltb}
use lib.ListN.{length, drop}
use lib.Seq.{drop-length}
use borrow.Author.Tests.{ltb-false, le-ltb}
use Rattle.reading.specs.declared.Reason.TheVariants.{WrongKind, TrailingBytes}
use Rattle.reading.specs.Got.{Got, got, and_then}
use Rattle.reading.specs.Items.{bytes_in, kind_at}
use Rattle.reading.proofs.StepLaws.{and_assoc}
use Rattle.jobfile.specs.Layout.{Layout, kinds, layout_in, layout_of, is_there, known}
use Rattle.jobfile.specs.Job.{Job}
use Rattle.jobfile.specs.Read.{body_at, layout_or, layout_at, read, read_job}
use Rattle.jobfile.specs.Write.{write_body, write_by, write}
use Rattle.jobfile.specs.Valid.{Bytes, Valid}
use Rattle.jobfile.proofs.Lawful.{Lawful, All, then-got, refuse-got, same-value, refused-lawful, seq-lawful, restate, reread}
use Rattle.jobfile.proofs.ItemLaws.{kind-lawful}
use Rattle.jobfile.proofs.FileLaws.{Sound, kinds-sound, layout-found, Body, body-lawful}

-- ---- for any list of sound layouts

-- what comes after a kind, which may be one that there is not
abbrev BodyBy : Option Layout → Job (List ℕ) → Type 0
BodyBy none job = ⊥
BodyBy (some layout) job = Body layout job

abbrev rest_by : Option Layout → Job (List ℕ) → List ℕ
rest_by none job = []
rest_by (some layout) job = write_body layout job

module _ (layouts : List Layout) (sound : All Sound layouts) where
  by_lawful : (kind : ℕ) (l : Option Layout) → layout_in layouts kind ≡ l → Lawful (λ f at. and_then (layout_or l at) λ layout a. body_at (bytes_in f) layout f a) (rest_by l) (BodyBy l)
  by_lawful kind none e = refused-lawful WrongKind 0 (λ job. [])
  by_lawful kind (some layout) e = body-lawful layout (layout-found Sound layouts kind sound e).1

  by_kind : (kind : ℕ) (l : Option Layout) → layout_in layouts kind ≡ l → (job : Job (List ℕ)) → BodyBy l job → job.kind ≡ kind
  by_kind kind none e job o = absurd o
  by_kind kind (some layout) e job o = o.kind ∙ (layout-found Sound layouts kind sound e).0

  -- a file of a kind that the call takes, up to its end
  pub file-lawful : (takes : ℕ → Bool)
      → Lawful (λ f at. and_then (kind_at takes f at) λ kind a. and_then (layout_or (layout_in layouts kind) a) λ layout b. body_at (bytes_in f) layout f b)
      (λ job. job.kind ∷ rest_by (layout_in layouts job.kind) job) (λ job. (takes job.kind ≡ true) × BodyBy (layout_in layouts job.kind) job)
  file-lawful takes =
      seq-lawful (λ job. job.kind) (kind-lawful takes) (λ kind v. by_lawful kind (layout_in layouts kind) refl) (λ kind job v o. by_kind kind (layout_in layouts kind) refl job o)

-- ---- for the kinds that there are

by-valid : (job : Job (List ℕ)) (l : Option Layout) → layout_of job.kind ≡ l → BodyBy l job → Valid job
by-valid job none e o = absurd o
by-valid job (some layout) e o = record { layout = layout; known = e; counts = o.counts; heads = o.heads; size = o.size; records = o.records }

valid-by : (job : Job (List ℕ)) → Valid job → BodyBy (layout_of job.kind) job
valid-by job o = rw o.known (record { kind = sym (layout-found Sound kinds job.kind kinds-sound o.known).0; counts = o.counts; heads = o.heads; size = o.size; records = o.records })

-- so what holds of a valid job holds by the layout of its kind
pub body_of : (job : Job (List ℕ)) {layout : Layout} → Valid job → layout_of job.kind ≡ some layout → Body layout job
body_of job ok e = subst (λ (l : Option Layout). BodyBy l job) e (valid-by job ok)

by_written : (job : Job (List ℕ)) (l : Option Layout) → BodyBy l job → job.kind ∷ rest_by l job ≡ write_by l job
by_written job none o = absurd o
by_written job (some layout) o = refl

pub job-lawful : (takes : ℕ → Bool) → Lawful (λ f at. and_then (layout_at takes f at) λ layout a. body_at (bytes_in f) layout f a) write (λ job. Valid job × (takes job.kind ≡ true))
unfolding write layout_at
job-lawful takes =
    reread (λ f at. sym (and_assoc (kind_at takes f at) _ _))
    (restate (file-lawful kinds kinds-sound takes)
    (λ job o. (by-valid job (layout_of job.kind) refl o.1, o.0))
    (λ job o. (o.1, valid-by job o.0))
    (λ job o. by_written job (layout_of job.kind) o.1))

module _ (takes : ℕ → Bool) where
  -- an accepted file is the writing of its job, and its job is valid and of a kind that the call takes
  stands : (f : List ℕ) → Bytes f → {job : Job (List ℕ)} {n : ℕ} → read_job takes f ≡ got job n → (f ≡ write job) × (Valid job × (takes job.kind ≡ true))
  unfolding read_job read
  stands f bytes {job} {n} e =
      let k = then-got (layout_at takes f 0) _ e in
      let t = then-got (body_at (bytes_in f) k.value f k.next) _ k.second in
      let s = refuse-got (ltb t.next (length f)) TrailingBytes t.next (got t.value (length f)) t.second in
      let q : t.value ≡ job = same-value s.1 in
      let l : length f ≤ t.next = ltb-false _ _ s.0 in
      let whole : and_then (layout_at takes f 0) (λ layout a. body_at (bytes_in f) layout f a) ≡ got job t.next =
      ap (λ (x : Got Layout). and_then x (λ layout a. body_at (bytes_in f) layout f a)) k.first ∙ t.first ∙ ap (λ (x : Job (List ℕ)). got x t.next) q in
      let r = (job-lawful takes).exact f bytes 0 (omega arith) job t.next whole in
      let m : t.next ≡ length f = omega (arith, r.within) in
      (r.written ∙ ap (λ (x : ℕ). write job ++ drop x f) m ∙ ap (λ (x : List ℕ). write job ++ x) (drop-length f) ∙ append-nil (write job), r.valid)

  pub exact : (f : List ℕ) → Bytes f → {job : Job (List ℕ)} {n : ℕ} → read_job takes f ≡ got job n → f ≡ write job
  exact f bytes e = (stands f bytes e).0

  pub valid : (f : List ℕ) → Bytes f → {job : Job (List ℕ)} {n : ℕ} → read_job takes f ≡ got job n → Valid job
  valid f bytes e = (stands f bytes e).1.0

  pub exact-and-valid : (f : List ℕ) → Bytes f → {job : Job (List ℕ)} {n : ℕ} → read_job takes f ≡ got job n → (f ≡ write job) × Valid job
  exact-and-valid f bytes e = (exact f bytes e, valid f bytes e)

  -- its kind is one that the call takes, and, whatever that is, one that there is
  pub kind-taken : (f : List ℕ) → Bytes f → {job : Job (List ℕ)} {n : ℕ} → read_job takes f ≡ got job n → takes job.kind ≡ true
  kind-taken f bytes e = (stands f bytes e).1.1

  pub kind-known : (f : List ℕ) → Bytes f → {job : Job (List ℕ)} {n : ℕ} → read_job takes f ≡ got job n → known job.kind ≡ true
  kind-known f bytes e = ap is_there (valid f bytes e).known

  -- the writing of a valid job, of a kind that the call takes, is accepted and reads back as that job
  pub read_back : (job : Job (List ℕ)) → Valid job → takes job.kind ≡ true → read_job takes (write job) ≡ got job (length (write job))
  unfolding read_job read
  read_back job ok t =
      let f = write job in
      let r = (job-lawful takes).back job (ok, t) f 0 (omega arith) [] (sym (append-nil f)) in
      let k = then-got (layout_at takes f 0) _ r in
      rw (k.first, k.second, le-ltb (0 + length f) (length f) (omega arith))

-- no two different accepted files state one job, whatever kinds the two calls take
pub one-writing : (takes takes' : ℕ → Bool) → (f g : List ℕ) → Bytes f → Bytes g → {job : Job (List ℕ)} {n m : ℕ}
    → read_job takes f ≡ got job n → read_job takes' g ≡ got job m → f ≡ g
one-writing takes takes' f g bf bg p q = exact takes f bf p ∙ sym (exact takes' g bg q)
