-- Saving a choice file with one change (docs/RULES.md, "Saving"): a buffer for the new file is lent.
use Rattle.std.specs.Prelude.{List, ℕ, Result}
use Rattle.reading.specs.declared.Refusal.{Refusal}
use Rattle.arguments.specs.Answers.{Said, Left, result_said}
use Rattle.changes.specs.Change.{Change}
use Rattle.drafts.specs.Draft.{draft_of, stored}

-- the length of the new file, which is at the front of the buffer, with the later bytes as they were. Tested are, in this order: the old file; 9; the
-- new file; 10. A refusal writes nothing
abbrev pub save_of : List ℕ → Change → List ℕ → Left ℕ
save_of file change buffer = stored buffer (draft_of file change)

-- what the code's answer says
abbrev pub save_told : Result ℕ Refusal → Said ℕ
save_told = result_said (λ n. n)
