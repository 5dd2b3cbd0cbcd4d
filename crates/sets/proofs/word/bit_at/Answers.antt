-- `sets::word::bit_at` meets its contract.
use Rattle.std.proofs.Common.{rules}
use Rattle.sets.specs.Sets.{bit}
use Rattle.sets.proofs.word.bit_at.Goals as goal

pub returns : goal.returns
unfolding bit
returns c = search rules
