-- `sets::word::without` meets its contract.
use borrow.Author.Rules.{rules}
use Rattle.sets.proofs.Made.{and-not}
use Rattle.sets.proofs.word.without.Goals as goal

pub returns : goal.returns
returns c = and-not 64 c.args.a c.args.b (search rules) (search rules)
