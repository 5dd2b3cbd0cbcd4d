-- `sets::word::count` meets its contract.
use borrow.Author.Rules.{rules}
use mathlib.Core.Path.{sym}
use native.Mathlib.Omega.{arith}
use lib.Count.{ones-le}
use Rattle.sets.proofs.Counts.{count_ones}
use Rattle.sets.proofs.word.count.Goals as goal

pub returns : goal.returns
returns c = record { value = sym (count_ones c.args.s); upper_bound = omega (arith, ones-le 64 c.args.s (search rules)) }
