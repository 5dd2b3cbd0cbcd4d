-- The jobs that a file can state: of a kind that there is, with as many counts, sets and records as its layout has, none over its limit.
use Rattle.std.specs.Prelude.{◌≡◌, List, [], ◌∷◌, ℕ, suc, ◌^◌, ◌≤◌, ◌<◌, length, get_or}
use Rattle.std.proofs.Math.Option.{some}
use Rattle.jobfile.specs.Layout.{Field, set, amount, Layout, layout_of}
use Rattle.jobfile.specs.Job.{Record, Job}
use Rattle.jobfile.specs.Read.{below}

-- as many on one side as on the other, and each two of the same place are related
abbrev pub Each : {A B : Type 0} → (A → B → Type 0) → List A → List B → Type 0
Each P [] [] = Unit {0}
Each P [] (y ∷ ys) = ⊥
Each P (x ∷ xs) [] = ⊥
Each P (x ∷ xs) (y ∷ ys) = P x y × Each P xs ys

-- every element and its number, from i on
abbrev pub AllFrom : {A : Type 0} → (ℕ → A → Type 0) → ℕ → List A → Type 0
AllFrom P i [] = Unit {0}
AllFrom P i (x ∷ xs) = P i x × AllFrom P (suc i) xs

-- all elements are bytes
abbrev pub Bytes : List ℕ → Type 0
Bytes l = (k : ℕ) → get_or l k 0 < 256

-- what a field can hold: a set with members below its bound, or an amount that its bytes have room for
abbrev pub Fits : ℕ → ℕ → Field → ℕ → Type 0
Fits count number (set bytes bound) v = v < 2 ^ below bound count number
Fits count number (amount bytes) v = v < 256 ^ bytes

-- a record that a file of this layout can have: for each field a value that it can hold, and a name of bytes that is not too long
pub record ValidRecord (layout : Layout) (count number : ℕ) (r : Record (List ℕ)) : Type 0 where
  pub before : Each (Fits count number) layout.before r.before
  pub short : length r.name ≤ layout.longest
  pub letters : Bytes r.name
  pub after : Each (Fits count number) layout.after r.after

pub record Valid (job : Job (List ℕ)) : Type 0 where
  pub layout : Layout
  pub known : layout_of job.kind ≡ some layout
  pub counts : Each (λ c v. v ≤ c.limit) layout.counts job.counts
  pub heads : Each (λ bytes v. v < 2 ^ get_or job.counts 1 0) layout.heads job.heads
  pub size : length job.records ≡ get_or job.counts 0 0
  pub records : AllFrom (ValidRecord layout (get_or job.counts 1 0)) 0 job.records
