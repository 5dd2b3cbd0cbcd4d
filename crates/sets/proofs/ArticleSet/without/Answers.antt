-- `sets::ArticleSet::without` meets its contract.
use borrow.Author.Rules.{rules}
use mathlib.Core.Path.{ap, ◌∙◌}
use Rattle.sets.specs.Sets.{without}
use Rattle.sets.proofs.Made.{and-not}
use Rattle.sets.proofs.Articles.{giving-alone}
use Rattle.sets.proofs.ArticleSet.without.Goals as goal

pub returns : goal.returns
returns c =
    let s = c.args.self.bits in
    and-not 64 s c.alone.result (search rules) (search rules) ∙ ap (without s) c.alone.ensures ∙ giving-alone 64 s c.args.article
