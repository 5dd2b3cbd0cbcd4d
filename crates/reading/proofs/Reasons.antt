-- No two reasons have one number: the number of a refusal tells its reason. Assumes nothing.
use mathlib.Core.Path.{◌≡◌, refl, ap, sym, ◌∙◌}
use Prim.Native.Nat.{ℕ}
use Rattle.reading.specs.declared.Reason.{Reason}
use Rattle.reading.specs.declared.Reason.TheVariants.{WrongKind, EndsEarly, OverLimit, ForbiddenBit, EmptyField, AbsentMember, LongName, TrailingBytes, OutOfRange, ShortBuffer, FalsePartition, LiveOutsideFile, BadGoal, NoSelection, NoPlan, NameNotFound, HighRate, OrderOutsideFile}
use Rattle.reading.specs.Reasons.{number_of}
use lib.ListN.{get_or}
use mathlib.Core.List.{[], ◌∷◌}

-- the reasons by their numbers
abbrev reason_at : ℕ → Reason
reason_at number =
    get_or (WrongKind ∷ WrongKind ∷ EndsEarly ∷ OverLimit ∷ ForbiddenBit ∷ EmptyField ∷ AbsentMember ∷ LongName ∷ TrailingBytes ∷ OutOfRange ∷ ShortBuffer ∷ FalsePartition ∷ LiveOutsideFile ∷ BadGoal ∷ NoSelection ∷ NoPlan ∷ NameNotFound ∷ HighRate ∷ OrderOutsideFile ∷ []) number WrongKind

number-back : (reason : Reason) → reason_at (number_of reason) ≡ reason
number-back WrongKind = refl
number-back EndsEarly = refl
number-back OverLimit = refl
number-back ForbiddenBit = refl
number-back EmptyField = refl
number-back AbsentMember = refl
number-back LongName = refl
number-back TrailingBytes = refl
number-back OutOfRange = refl
number-back ShortBuffer = refl
number-back FalsePartition = refl
number-back LiveOutsideFile = refl
number-back BadGoal = refl
number-back NoSelection = refl
number-back NoPlan = refl
number-back NameNotFound = refl
number-back HighRate = refl
number-back OrderOutsideFile = refl

pub number-tells : (r s : Reason) → number_of r ≡ number_of s → r ≡ s
number-tells r s e = sym (number-back r) ∙ ap reason_at e ∙ number-back s
