-- `arguments::article` meets its contract.
use mathlib.Core.Path.{ap, ◌∙◌}
use native.Mathlib.Omega.{arith}
use borrow.Author.Tests.{lt-leb, le-leb}
use Rattle.std.specs.Prelude.{Err}
use Rattle.arguments.proofs.article.Goals as goal

pub returns-then-articles-article : goal.returns-then-articles-article
returns-then-articles-article c = ap Err c.at.ensures ∙ simp (le-leb c.args.articles c.args.article (omega arith))

pub returns : goal.returns
returns c = simp (lt-leb c.args.articles c.args.article (omega arith))
