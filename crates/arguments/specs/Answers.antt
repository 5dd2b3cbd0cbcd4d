-- What a call answers: a refusal with reason and place, or a value (docs/RULES.md, "Reasons to turn a call down"). The file is tested first,
-- then the arguments in the order of the reasons' numbers (saving tests the new file between 9 and 10); the first fault ends the call.
use Rattle.std.specs.Prelude.{Bool, true, false, List, ◌++◌, ℕ, length, drop, Result, Ok, Err}
use Rattle.std.proofs.Math.Option.{Option, none, some}
use Rattle.reading.specs.declared.Reason.{Reason}
use Rattle.reading.specs.declared.Refusal.{Refusal}
use Rattle.reading.specs.Reasons.{number_of, answers}
use Rattle.reading.specs.Got.{Got, got, refused}

pub data Answer (A : Type 0) : Type 0 where
  refusal : Reason → ℕ → Answer A
  value : A → Answer A

-- the call on the job of a file, if the file is accepted
abbrev pub on_job : {A B : Type 0} → Got A → (A → Answer B) → Answer B
on_job (refused reason place) call = refusal reason place
on_job (got job end) call = call job

-- what comes after a value; a refusal ends the call
abbrev pub on_value : {A B : Type 0} → Answer A → (A → Answer B) → Answer B
on_value (refusal reason place) call = refusal reason place
on_value (value x) call = call x

-- a test of an argument: if it fails, its reason at place 0
abbrev pub unless : {A : Type 0} → Bool → Reason → Answer A → Answer A
unless true reason answer = refusal reason 0
unless false reason answer = answer

-- a test that finds a place
abbrev pub unless_at : {A : Type 0} → Option ℕ → Reason → Answer A → Answer A
unless_at (some place) reason answer = refusal reason place
unless_at none reason answer = answer

-- several tests taken together, and what is answered after them
abbrev pub passed : Answer (Unit {0})
passed = value tt

abbrev pub after_tests : {A : Type 0} → Answer (Unit {0}) → Answer A → Answer A
after_tests (refusal reason place) answer = refusal reason place
after_tests (value x) answer = answer

-- what was found; the reason that there is none has place 0
abbrev pub found_or : {A : Type 0} → Option A → Reason → Answer A
found_or (some x) reason = value x
found_or none reason = refusal reason 0

-- ---- an answer in the words of the rules

-- a refusal by the number of its reason, with its place; or a value. Contracts and promises are stated with it.
pub data Said (A : Type 0) : Type 0 where
  refused_by : ℕ → ℕ → Said A
  answered : A → Said A

abbrev pub said : {A : Type 0} → Answer A → Said A
said (refusal reason place) = refused_by (number_of reason) place
said (value x) = answered x

-- what a refusal of the code says
abbrev pub refusal_said : {A : Type 0} → Refusal → Said A
refusal_said r = refused_by (number_of r.reason) r.place

-- what a result of the code says, by what its value means
abbrev pub result_said : {A B : Type 0} → (A → B) → Result A Refusal → Said B
result_said meant (Err r) = refusal_said r
result_said meant (Ok x) = answered (meant x)

-- input is accepted if the call has a value or one of the answers 14 to 16
abbrev pub accepted : {A : Type 0} → Said A → Bool
accepted (refused_by number place) = answers number
accepted (answered x) = true

-- ---- calls that write

-- what such a call leaves: what it says, and the buffer that was lent
pub record Left (A : Type 0) : Type 0 where
  pub answer : Said A
  pub buffer : List ℕ

-- the words that were made are in front, and the later ones stay as they are; a refusal writes nothing
abbrev pub leaving : {A B : Type 0} → (A → List ℕ) → (A → B) → List ℕ → Answer A → Left B
leaving words told old (refusal reason place) = record { answer = said (refusal reason place); buffer = old }
leaving words told old (value x) = record { answer = answered (told x); buffer = words x ++ drop (length (words x)) old }
