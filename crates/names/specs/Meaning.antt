-- What the code's types mean.
use Rattle.std.specs.Prelude.{ℕ, Option}
use Rattle.std.proofs.Math.Option as maybe
use Rattle.sets.specs.Handed.{handed_of}

-- the number of who has a name
abbrev pub holder_of : Option ℕ → maybe.Option ℕ
holder_of = handed_of
