-- `sets::ArticleSet::contains` meets its contract: at or above the capacity no number is a member.
use borrow.Author.Rules.{rules}
use mathlib.Core.Path.{sym}
use Rattle.sets.proofs.Bits.{bit_high, member-no}
use Rattle.sets.proofs.ArticleSet.contains.Goals as goal

pub returns-then-article-ge-CAPACITY : goal.returns-then-article-ge-CAPACITY
returns-then-article-ge-CAPACITY c =
    let s = c.args.self.bits in
    let i = c.args.article in
    sym (member-no s i (bit_high s 64 i (search rules) c.if-article-ge-CAPACITY.true))
