-- The kinds of files as tables (docs/RULES.md, "Job files"). A file is: its kind; then counts; then sets; then a record for each article or
-- step, which is a bit map and those of its fields that the map marks, in the order of their bits: fields, a name, and fields after it.
use Rattle.std.specs.Prelude.{Bool, true, false, cond, List, [], ◌∷◌, ℕ, suc, ◌+◌, eqb, length}
use Rattle.std.proofs.Math.Option.{Option, none, some}

-- a count: how many bytes it takes, and its limit
pub record Count : Type 0 where
  pub bytes : ℕ
  pub limit : ℕ

-- what the members of a set are below: the file's second count, of wishes or facts, or the number of the record itself
pub data Bound : Type 0 where
  counted own : Bound

-- a field of a record: a set, with its count of bytes and the bound of its members; or an amount, with its count of bytes
pub data Field : Type 0 where
  set : ℕ → Bound → Field
  amount : ℕ → Field

abbrev pub width : Field → ℕ
width (set bytes bound) = bytes
width (amount bytes) = bytes

-- the fields of a record before its name and after it, and the longest name
pub record Layout : Type 0 where
  pub kind : ℕ
  pub counts : List Count
  pub heads : List ℕ
  pub before : List Field
  pub longest : ℕ
  pub after : List Field

-- the bit of the name, and how many bits a map has
abbrev pub name_bit : Layout → ℕ
name_bit layout = length layout.before

abbrev pub bits : Layout → ℕ
bits layout = suc (length layout.before + length layout.after)

-- articles and wishes; the order; wishes and clashes with lower articles; a name of at most 32 bytes; a price
unfoldable pub choice : Layout
choice = record {
  kind = 67;
  counts = record { bytes = 1; limit = 64 } ∷ record { bytes = 1; limit = 64 } ∷ [];
  heads = 8 ∷ [];
  before = set 8 counted ∷ set 8 own ∷ [];
  longest = 32;
  after = amount 4 ∷ [];
}

-- steps, facts and the horizon; start and goal; needs, gives and takes; a name of at most 32 bytes
unfoldable pub fitting : Layout
fitting = record {
  kind = 70;
  counts = record { bytes = 1; limit = 32 } ∷ record { bytes = 1; limit = 32 } ∷ record { bytes = 1; limit = 16 } ∷ [];
  heads = 4 ∷ 4 ∷ [];
  before = set 4 counted ∷ set 4 counted ∷ set 4 counted ∷ [];
  longest = 32;
  after = [];
}

-- the kinds that there are
unfoldable pub kinds : List Layout
kinds = choice ∷ fitting ∷ []

-- the layout of a kind, of these layouts
unfoldable pub layout_in : List Layout → ℕ → Option Layout
layout_in [] kind = none
layout_in (layout ∷ layouts) kind = cond (eqb kind layout.kind) (some layout) (layout_in layouts kind)

abbrev pub layout_of : ℕ → Option Layout
layout_of kind = layout_in kinds kind

-- whether there is such a kind
abbrev pub is_there : Option Layout → Bool
is_there none = false
is_there (some layout) = true

abbrev pub known : ℕ → Bool
known kind = is_there (layout_of kind)
