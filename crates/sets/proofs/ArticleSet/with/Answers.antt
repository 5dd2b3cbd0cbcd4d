-- `sets::ArticleSet::with` meets its contract.
use mathlib.Core.Path.{ap, ◌∙◌}
use lib.Bits.{bit_or}
use Rattle.sets.proofs.Articles.{taking-alone}
use Rattle.sets.proofs.ArticleSet.with.Goals as goal

pub returns : goal.returns
returns c = ap (bit_or c.args.self.bits) c.alone.ensures ∙ taking-alone 64 c.args.self.bits c.args.article
