-- What the code's types mean.
use Rattle.std.specs.Prelude.{Option, ℕ}
use Rattle.std.proofs.Math.Option as maybe
use Rattle.sets.specs.Handed.{handed_by}

-- reason 13 by its place, or none
abbrev pub goals_by : maybe.Option ℕ → Option ℕ
goals_by place = handed_by place
