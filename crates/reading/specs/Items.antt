-- The items of a job file, each read at its position and tested in the order of the reasons' numbers. Widths and limits are parameters.
use Rattle.std.specs.Prelude.{Bool, not, List, ℕ, zero, suc, ◌+◌, ◌*◌, ◌^◌, leb, ltb, eqb, length, get_or, take, drop}
use Rattle.reading.specs.declared.Reason.TheVariants.{WrongKind, EndsEarly, OverLimit, ForbiddenBit, EmptyField, AbsentMember, LongName}
use Rattle.reading.specs.declared.Spot.{Spot}
use Rattle.reading.specs.Got.{got, Reader, refuse, and_then, checked}

-- reason 1: the first byte is a kind that the call takes
unfoldable pub kind_at : (ℕ → Bool) → Reader ℕ
kind_at takes f at = refuse (leb (length f) at) WrongKind at (refuse (not (takes (get_or f at 0))) WrongKind at (got (get_or f at 0) (at + 1)))

-- the number that this many bytes spell from a position on, the lowest first
unfoldable pub value_at : ℕ → List ℕ → ℕ → ℕ
value_at zero f at = 0
value_at (suc bytes) f at = get_or f at 0 + 256 * value_at bytes f (at + 1)

-- reason 2: a number of this many bytes
unfoldable pub number_at : ℕ → Reader ℕ
number_at bytes f at = refuse (ltb (length f) (at + bytes)) EndsEarly (length f) (got (value_at bytes f at) (at + bytes))

-- reason 3: a count or the horizon
unfoldable pub count_at : ℕ → ℕ → Reader ℕ
count_at bytes limit = checked (ltb limit) OverLimit (number_at bytes)

-- reason 4: the bit map of a record with this many fields
unfoldable pub map_at : ℕ → Reader ℕ
map_at fields = checked (leb (2 ^ fields)) ForbiddenBit (number_at 1)

-- reason 6: a set whose members are below a limit
unfoldable pub set_at : ℕ → ℕ → Reader ℕ
set_at bytes limit = checked (leb (2 ^ limit)) AbsentMember (number_at bytes)

-- reason 5: an amount as a field of a record
abbrev pub amount_at : ℕ → Reader ℕ
amount_at bytes = checked (λ v. eqb v 0) EmptyField (number_at bytes)

-- reasons 5 and 6: a set whose members are below a limit, as a field of a record
unfoldable pub field_at : ℕ → ℕ → Reader ℕ
field_at bytes limit = checked (leb (2 ^ limit)) AbsentMember (amount_at bytes)

-- What a name is taken for: its bytes, as the job has it, or the spot where they are, as the code has it.
pub record Naming (N : Type 0) : Type 0 where
  pub absent : N
  pub present : ℕ → ℕ → N

abbrev pub bytes_in : List ℕ → Naming (List ℕ)
bytes_in f = record { absent = take 0 f; present = λ start len. take len (drop start f) }

abbrev pub spots : Naming Spot
spots = record { absent = record { start = 0; len = 0 }; present = λ start len. record { start = start; len = len } }

-- reasons 5 and 7: the length of a name; reason 2: its bytes
unfoldable pub length_at : ℕ → Reader ℕ
length_at limit = checked (ltb limit) LongName (checked (λ v. eqb v 0) EmptyField (number_at 1))

unfoldable pub name_at : {N : Type 0} → Naming N → ℕ → Reader N
name_at names limit f at =
    and_then (length_at limit f at) λ len start.
    refuse (ltb (length f) (start + len)) EndsEarly (length f) (got (names.present start len) (start + len))
