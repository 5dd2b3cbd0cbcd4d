-- `fair::answer_all` meets its contract: the tables are those of the network, the groups its own, and to say clashes both ways changes no choice.
use borrow.Author.Rules.{rules}
use mathlib.Core.Path.{◌∙◌}
use Prim.Native.Nat.{ℕ, ◌≤◌}
use lib.ListN.{length, replicate}
use Rattle.sets.proofs.Ranges.{zeros}
use Rattle.network.proofs.TableLaws.{tables-right}
use Rattle.choice.proofs.OfferLaws.{own-groups}
use Rattle.fair.proofs.FairLaws.{both-answers}
use Rattle.fair.proofs.answer_all.Goals as goal

pub answer_each-requires : goal.answer_each-requires
answer_each-requires c =
    let job = c.args.job in
    let both = c.both_ways-clashes in
    let groups = c.partition.new.groups in
    let room : job.articles ≤ length groups = search rules in (
      c.requires.0,
      room,
      tables-right 64 job.wishes job.clashes both.ensures c.transposed-carriers.ensures,
      own-groups 64 job.articles job.wishes both.result (replicate {A = ℕ} 64 0) groups (zeros 64) c.partition.ensures,
      c.requires.1,
    )

pub returns : goal.returns
returns c =
    c.answer_each.ensures ∙ both-answers c.args.job c.args.orders.now c.args.words.now c.requires.0 c.both_ways-clashes.ensures
