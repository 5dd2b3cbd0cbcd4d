-- The reasons to turn a call down, by the numbers of docs/RULES.md, "Reasons to turn a call down".
use Rattle.std.specs.Prelude.{Bool, ◌&&◌, ℕ, leb}
use Rattle.reading.specs.declared.Reason.{Reason}
use Rattle.reading.specs.declared.Reason.TheVariants.{WrongKind, EndsEarly, OverLimit, ForbiddenBit, EmptyField, AbsentMember, LongName, TrailingBytes, OutOfRange, ShortBuffer, FalsePartition, LiveOutsideFile, BadGoal, NoSelection, NoPlan, NameNotFound, HighRate, OrderOutsideFile}

abbrev pub number_of : Reason → ℕ
number_of WrongKind = 1
number_of EndsEarly = 2
number_of OverLimit = 3
number_of ForbiddenBit = 4
number_of EmptyField = 5
number_of AbsentMember = 6
number_of LongName = 7
number_of TrailingBytes = 8
number_of OutOfRange = 9
number_of ShortBuffer = 10
number_of FalsePartition = 11
number_of LiveOutsideFile = 12
number_of BadGoal = 13
number_of NoSelection = 14
number_of NoPlan = 15
number_of NameNotFound = 16
number_of HighRate = 17
number_of OrderOutsideFile = 18

-- the numbers that are answers to input that is accepted: 14, 15 and 16. A later number is a refusal.
abbrev pub answers : ℕ → Bool
answers number = leb 14 number && leb number 16
