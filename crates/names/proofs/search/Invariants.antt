-- `names::search` meets its contract. The invariant: the numbers before i do not have the name, whose form was made.
use mathlib.Core.Path.{◌≡◌}
use mathlib.Core.Bool.{Bool}
use mathlib.Core.List.{List}
use Prim.Native.Nat.{ℕ, ◌-◌, ◌<◌}
use lib.ListN.{length, get_or, take, drop}
use Rattle.sets.specs.First.{first_from}
use Rattle.unicode_forms.specs.Forms.{form}
use Rattle.unicode_forms.specs.Meaning.{told, short}
use Rattle.names.specs.Names.{same_name}
use Rattle.names.proofs.search.Given as goal

abbrev pub name_of : List ℕ → List ℕ → List ℕ → ℕ → List ℕ
name_of file starts lens i = take (get_or lens i 0) (drop (get_or starts i 0) file)

abbrev pub has_name : List ℕ → List ℕ → List ℕ → List ℕ → ℕ → Bool
has_name file starts lens name i = same_name (name_of file starts lens i) name

abbrev pub invariant-loop-i : goal.invariant-loop-i
invariant-loop-i l = (0 < length l.name) × (first_from (has_name l.file l.starts l.lens l.name) (l.n - l.i) l.i ≡ first_from (has_name l.file l.starts l.lens l.name) l.n 0) × (told l.wanted ≡ short 32 (form l.name))
