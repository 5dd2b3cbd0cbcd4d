-- What the planner answers (docs/RULES.md, "Planner").
use Rattle.std.specs.Prelude.{◌≡◌, List, ℕ, take, drop, Option, Some, None}
use Rattle.planning.specs.Rounds.{Fitting, Plan}

-- Which plan it is, is left free: the words in front are the rounds of a plan, in their order, and the others stay as they were; if there is
-- no plan, all stay as they were
abbrev pub Words : Fitting → List ℕ → List ℕ → Option ℕ → Type 0
Words F old new (Some k) = Plan F (take k new) × (drop k new ≡ drop k old)
Words F old new None = new ≡ old
