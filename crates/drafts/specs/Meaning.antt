-- What the code's types mean.
use Rattle.std.specs.Prelude.{List, ℕ, take, set, Result, Ok, Err}
use Rattle.reading.specs.declared.Refusal.{Refusal}
use Rattle.jobfile.specs.declared.ReadChoice.{ReadChoice}
use Rattle.arguments.specs.Answers.{Answer, refusal, value, Said, result_said}
use Rattle.drafts.specs.declared.draft.Draft.{Draft}

-- how many bytes a page has
abbrev pub page_bytes : ℕ
page_bytes = 4096

-- a page whose first bytes are a file, or why there is none
abbrev pub draft_by : Result Draft Refusal → Answer (List ℕ)
draft_by (Err r) = refusal r.reason r.place
draft_by (Ok d) = value (take d.len d.page)

-- what was said of writing a file out: its length
abbrev pub stored_said : Result ℕ Refusal → Said ℕ
stored_said = result_said (λ len. len)

-- a choice as read, with another order, or with other wishes or clashes of article i
abbrev pub ordering : ReadChoice → ℕ → ReadChoice
ordering read v = record read { order = v }

abbrev pub wishing : ReadChoice → ℕ → ℕ → ReadChoice
wishing read i v = record read { wishes = set read.wishes i v }

abbrev pub clashing : ReadChoice → ℕ → ℕ → ReadChoice
clashing read i v = record read { clashes = set read.clashes i v }
