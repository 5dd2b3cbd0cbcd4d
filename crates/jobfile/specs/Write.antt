-- The writing of a job: the one file that states it.
use Rattle.std.specs.Prelude.{Bool, true, false, not, cond, List, [], ◌∷◌, ◌++◌, ℕ, zero, suc, ◌+◌, ◌*◌, ◌/◌, ◌%◌, eqb, length, get_or, drop}
use Rattle.std.proofs.Math.Option.{Option, none, some}
use Rattle.sets.specs.Ranges.{num}
use Rattle.jobfile.specs.Layout.{Field, width, Layout, layout_of}
use Rattle.jobfile.specs.Job.{Record, Job}

-- a number in this many bytes, the lowest first
unfoldable pub bytes_of : ℕ → ℕ → List ℕ
bytes_of zero v = []
bytes_of (suc bytes) v = v % 256 ∷ bytes_of bytes (v / 256)

-- the fields of a record in the order of their bits, each as it is written; one that is empty is not written at all
unfoldable pub field_bytes : ℕ → ℕ → List ℕ
field_bytes bytes v = cond (eqb v 0) [] (bytes_of bytes v)

unfoldable pub name_bytes : List ℕ → List ℕ
name_bytes [] = []
name_bytes (b ∷ bs) = length (b ∷ bs) ∷ b ∷ bs

unfoldable pub fields_bytes : List Field → List ℕ → List (List ℕ)
fields_bytes [] vs = []
fields_bytes (field ∷ fields) vs = field_bytes (width field) (get_or vs 0 0) ∷ fields_bytes fields (drop 1 vs)

unfoldable pub parts_bytes : Layout → Record (List ℕ) → List (List ℕ)
parts_bytes layout r = fields_bytes layout.before r.before ++ (name_bytes r.name ∷ fields_bytes layout.after r.after)

-- the bit map marks the fields that are written
abbrev pub is_empty : List ℕ → Bool
is_empty [] = true
is_empty (b ∷ bs) = false

unfoldable pub map_of : List (List ℕ) → ℕ
map_of [] = 0
map_of (field ∷ fields) = num (not (is_empty field)) + 2 * map_of fields

-- lists one after the other
unfoldable pub joined : List (List ℕ) → List ℕ
joined [] = []
joined (xs ∷ xss) = xs ++ joined xss

unfoldable pub write_record : Layout → Record (List ℕ) → List ℕ
write_record layout r = map_of (parts_bytes layout r) ∷ joined (parts_bytes layout r)

-- an item for each element of a list
unfoldable pub write_each : {A B : Type 0} → (A → B → List ℕ) → List A → List B → List ℕ
write_each write [] ys = []
write_each write (x ∷ xs) [] = []
write_each write (x ∷ xs) (y ∷ ys) = write x y ++ write_each write xs ys

-- all records
unfoldable pub write_all : {A : Type 0} → (A → List ℕ) → List A → List ℕ
write_all write [] = []
write_all write (x ∷ xs) = write x ++ write_all write xs

unfoldable pub write_body : Layout → Job (List ℕ) → List ℕ
write_body layout job =
    write_each (λ c v. bytes_of c.bytes v) layout.counts job.counts
    ++ (write_each bytes_of layout.heads job.heads ++ write_all (write_record layout) job.records)

-- a job of a kind that there is not has no writing
abbrev pub write_by : Option Layout → Job (List ℕ) → List ℕ
write_by none job = []
write_by (some layout) job = job.kind ∷ write_body layout job

unfoldable pub write : Job (List ℕ) → List ℕ
write job = write_by (layout_of job.kind) job
