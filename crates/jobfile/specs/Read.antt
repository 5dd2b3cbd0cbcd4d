-- Reading a file front to back (docs/RULES.md, "Reasons to turn a call down"): one function for every layout.
use Rattle.std.specs.Prelude.{Bool, ◌||◌, List, [], ◌∷◌, ℕ, suc, ltb, eqb, length, get_or}
use Rattle.std.proofs.Math.Option.{Option, none, some}
use Rattle.sets.specs.Sets.{member}
use Rattle.reading.specs.declared.Reason.TheVariants.{WrongKind, TrailingBytes}
use Rattle.reading.specs.Got.{Got, got, refused, Reader, refuse, and_then, optional, each_at, up_from}
use Rattle.reading.specs.Items.{Naming, bytes_in, kind_at, count_at, map_at, set_at, field_at, amount_at, name_at}
use Rattle.jobfile.specs.Layout.{Bound, counted, own, Field, set, amount, Layout, name_bit, bits, layout_of}
use Rattle.jobfile.specs.Job.{Record, Job}

-- what the members of a set are below, if the file has this count of wishes or facts and the record has this number
abbrev pub below : Bound → ℕ → ℕ → ℕ
below counted count number = count
below own count number = number

-- a field of a record: reasons 2 and 5, and of a set 6
abbrev pub item_at : Field → ℕ → ℕ → Reader ℕ
item_at (set bytes bound) count number = field_at bytes (below bound count number)
item_at (amount bytes) count number = amount_at bytes

-- fields of a record from bit k on, those that the bit map m marks
unfoldable pub fields_at : List Field → ℕ → ℕ → ℕ → ℕ → Reader (List ℕ)
fields_at [] count number m k f at = got [] at
fields_at (field ∷ fields) count number m k f at =
    and_then (optional (member m k) 0 (item_at field count number) f at) λ v a.
    and_then (fields_at fields count number m (suc k) f a) λ vs b.
    got (v ∷ vs) b

-- the record of this number: the bit map, the fields before the name, the name, the fields after it
unfoldable pub record_at : {N : Type 0} → Naming N → Layout → ℕ → ℕ → Reader (Record N)
record_at names layout count number f at =
    and_then (map_at (bits layout) f at) λ m a.
    and_then (fields_at layout.before count number m 0 f a) λ before b.
    and_then (optional (member m (name_bit layout)) names.absent (name_at names layout.longest) f b) λ name c.
    and_then (fields_at layout.after count number m (suc (name_bit layout)) f c) λ after d.
    got (record { before = before; name = name; after = after }) d

-- what comes after the kind
unfoldable pub body_at : {N : Type 0} → Naming N → Layout → Reader (Job N)
body_at names layout f at =
    and_then (each_at (λ c. count_at c.bytes c.limit) layout.counts f at) λ counts a.
    and_then (each_at (λ bytes. set_at bytes (get_or counts 1 0)) layout.heads f a) λ heads b.
    and_then (each_at (record_at names layout (get_or counts 1 0)) (up_from (get_or counts 0 0) 0) f b) λ records c.
    got (record { kind = layout.kind; counts = counts; heads = heads; records = records }) c

-- reason 1: the kind is one that the call takes, and one that there is
abbrev pub layout_or : Option Layout → ℕ → Got Layout
layout_or none next = refused WrongKind 0
layout_or (some layout) next = got layout next

unfoldable pub layout_at : (ℕ → Bool) → Reader Layout
layout_at takes f at = and_then (kind_at takes f at) λ kind a. layout_or (layout_of kind) a

-- the whole file, of a kind that the call takes; reason 8 is that bytes follow
unfoldable pub read : {N : Type 0} → Naming N → (ℕ → Bool) → List ℕ → Got (Job N)
read names takes f =
    and_then (layout_at takes f 0) λ layout a.
    and_then (body_at names layout f a) λ job end.
    refuse (ltb end (length f)) TrailingBytes end (got job (length f))

-- which kinds a call takes: choices, fittings, and either for a name and for finding
abbrev pub choices : ℕ → Bool
choices kind = eqb kind 67

abbrev pub fittings : ℕ → Bool
fittings kind = eqb kind 70

abbrev pub either : ℕ → Bool
either kind = eqb kind 67 || eqb kind 70

-- the job that a file states, with its names by their bytes, or why it is refused
unfoldable pub read_job : (ℕ → Bool) → List ℕ → Got (Job (List ℕ))
read_job takes f = read (bytes_in f) takes f
