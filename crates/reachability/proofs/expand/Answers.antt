use borrow.Author.Rules.{rules}
use lib.ListN.{get_or}
use Rattle.sets.proofs.Ranges.{one_more}
use Rattle.planning.specs.Rounds.{listed_steps}
use Rattle.reachability.specs.States.{Leads}
use Rattle.reachability.proofs.StateLaws.{grown-on, leads-grown}
use Rattle.reachability.proofs.expand.Goals as goal

pub loop-a-preserved : goal.loop-a-preserved
loop-a-preserved c =
    let l = c.loop-a in
    let t = c.try_step in
    let S = listed_steps c.args.job.now.needs c.args.job.now.gives c.args.job.now.takes in
    let facts = get_or c.args.states.now c.args.i 0 in
    let (g, m) = c.in_ok-n.ensures in (
      search rules,
      search rules,
      grown-on l.invariant.2 g,
      one_more (Leads S t.new.states c.in_ok-n.n facts) l.a (λ b k. leads-grown g S facts b (l.invariant.3 b k)) m,
    )
