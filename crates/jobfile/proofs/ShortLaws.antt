-- A name of a file, whatever its kind, has at most 32 bytes, and its spot says no more. Assumes nothing.
use mathlib.Core.Path.{◌≡◌, refl, sym, ap, subst, ◌∙◌}
use mathlib.Core.Bool.{Bool}
use mathlib.Core.List.{List, [], ◌∷◌}
use Prim.Native.Nat.{ℕ, zero, suc, ◌≤◌, zero-le}
use native.Mathlib.Omega.{arith}
use lib.ListN.{length, get_or, drop, length-drop}
use lib.Seq.{length-take-le}
use Rattle.std.specs.Prelude.{Result, Ok, Err, IfOk}
use Rattle.reading.specs.declared.Refusal.{Refusal}
use Rattle.jobfile.specs.declared.ReadNames.{ReadNames}
use Rattle.reading.specs.Got.{Got, got, refused}
use Rattle.reading.specs.Items.{spots}
use Rattle.jobfile.specs.Layout.{Layout, choice, fitting, kinds}
use Rattle.jobfile.specs.Job.{Record, Job, names_of}
use Rattle.jobfile.specs.Read.{read, read_job}
use Rattle.jobfile.specs.Valid.{AllFrom, Bytes, ValidRecord}
use Rattle.jobfile.specs.Meaning.{names_read, spot_by, Few, NamesWithin, name_in}
use Rattle.jobfile.proofs.Lawful.{All}
use Rattle.jobfile.proofs.FileLaws.{layout-found}
use Rattle.jobfile.proofs.Theorems.{valid}
use Rattle.jobfile.proofs.NamingLaws.{bytes_at, name-at-spot}
use Rattle.jobfile.proofs.ReadLaws.{names-spot}

-- the kinds that there are have names of at most 32 bytes
longest : All (λ layout. layout.longest ≡ 32) kinds
unfolding kinds choice fitting
longest = (refl, (refl, tt))

each-short : (layout : Layout) (count k : ℕ) (rs : List (Record (List ℕ))) → AllFrom (ValidRecord layout count) k rs → (i : ℕ) → length (get_or (names_of rs) i []) ≤ layout.longest
each-short layout count k [] o i = omega arith
each-short layout count k (r ∷ rs) o zero = o.0.short
each-short layout count k (r ∷ rs) o (suc i) = each-short layout count (suc k) rs o.1 i

module _ (takes : ℕ → Bool) (f : List ℕ) (bytes : Bytes f) where
  pub name-short : (i : ℕ) → length (name_in (read_job takes f) i) ≤ 32
  name-short i = go (read_job takes f) refl
    where
      go : (g : Got (Job (List ℕ))) → read_job takes f ≡ g → length (name_in g i) ≤ 32
      go (refused reason place) e = omega arith
      go (got job end) e =
          let ok = valid takes f bytes e in
          subst (λ (n : ℕ). length (get_or (names_of job.records) i []) ≤ n) (layout-found (λ layout. layout.longest ≡ 32) kinds job.kind longest ok.known).1
          (each-short ok.layout (get_or job.counts 1 0) 0 job.records ok.records i)

  -- a name within the file is as long as its spot says, and that of a refused file has the length 0
  pub lens-short : {v : Result ReadNames Refusal} → v ≡ names_read (read spots takes f) → Few 64 (read spots takes f) → IfOk v (λ r. NamesWithin (length f) r.starts r.lens)
      → (i : ℕ) → (spot_by v i).len ≤ 32
  lens-short {v = Ok r} e few within i =
      omega (
        arith,
        name-short i,
        ap length (name-at-spot f takes i ∙ ap (bytes_at f) (sym (ap (λ v. spot_by v i) e ∙ names-spot (read spots takes f) few i))),
        length-take-le (get_or r.lens i 0) (drop (get_or r.starts i 0) f) (rw (length-drop (get_or r.starts i 0) f) (omega (arith, within i))),
      )
  lens-short {v = Err x} e few within i = zero-le
