-- What the code writes: a choice by what its file was read as, with its names at their spots in that file, but for one article that has another name.
use Rattle.std.specs.Prelude.{cond, List, [], ◌∷◌, ℕ, ◌≤◌, eqb, length, get_or, take, drop}
use Rattle.sets.specs.Ranges.{list_to}
use Rattle.jobfile.specs.declared.ReadChoice.{ReadChoice}
use Rattle.jobfile.specs.Job.{Record, Job}
use Rattle.jobfile.specs.Meaning.{NamesWithin}

-- how many bytes are before the records: the kind, two counts of one byte, and the order
abbrev pub head_bytes : ℕ
head_bytes = 11

-- the most bytes of a name that is put: one more than a name may have, so that a file with it is refused
abbrev pub name_most : ℕ
name_most = 33

-- the most bytes of a record: the bit map, two sets of 8 bytes, such a name with its length, and a price of 4
abbrev pub record_most : ℕ
record_most = 55

-- an article's record by its two sets, its name and its price
abbrev pub article_by : ℕ → ℕ → List ℕ → ℕ → Record (List ℕ)
article_by wishes clashes name price = record { before = wishes ∷ clashes ∷ []; name = name; after = price ∷ [] }

-- article i; its name is the one at its spot in the file, or the other one
abbrev pub article_in : List ℕ → ReadChoice → ℕ → List ℕ → ℕ → Record (List ℕ)
article_in file read number name i =
    article_by (get_or read.wishes i 0) (get_or read.clashes i 0) (cond (eqb i number) name (take (get_or read.lens i 0) (drop (get_or read.starts i 0) file))) (get_or read.prices i 0)

-- the whole choice; article `number` has the other name
abbrev pub choice_in : List ℕ → ReadChoice → ℕ → List ℕ → Job (List ℕ)
choice_in file read number name =
    record { kind = 67; counts = read.articles ∷ read.wish_count ∷ []; heads = read.order ∷ []; records = list_to read.articles (article_in file read number name) }

-- what the writer asks: no more articles than a file may have, and names within the file that are not too long; the other name may be longer by one byte
abbrev pub Writable : List ℕ → ReadChoice → List ℕ → Type 0
Writable file read name =
    (read.articles ≤ 64) × (length name ≤ name_most) × NamesWithin (length file) read.starts read.lens × ((i : ℕ) → get_or read.lens i 0 ≤ 32)
