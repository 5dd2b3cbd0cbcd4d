-- What the code's types mean.
use Rattle.std.proofs.Math.Option as maybe
use Rattle.std.specs.Prelude.{Option, ℕ}
use Rattle.sets.specs.Handed.{handed_by}

-- the count of a plan's rounds, or that there is no plan
abbrev pub planned_by : maybe.Option ℕ → Option ℕ
planned_by o = handed_by o
