-- The call for a name, in a file of either kind (docs/RULES.md, "Names and comparison").
use Rattle.std.specs.Prelude.{List, ℕ}
use Rattle.jobfile.specs.Read.{read_job, either}
use Rattle.jobfile.specs.Meaning.{name_in}

-- the name of article or step `number`, as a part of the file; empty if the file is refused, lacks that number, or has no name for it
abbrev pub name_of : List ℕ → ℕ → List ℕ
name_of file number = name_in (read_job either file) number
