use borrow.Author.Rules.{rules}
use mathlib.Core.Path.{subst, ◌∙◌}
use Prim.Native.Nat.{ℕ, ◌<◌}
use native.Mathlib.Omega.{arith}
use lib.ListN.{get_or}
use Rattle.sets.specs.Sets.{◌⊆◌}
use Rattle.sets.proofs.Ranges.{one_more}
use Rattle.sets.proofs.Bits.{without-none}
use Rattle.planning.specs.Meaning.{fitting_in}
use Rattle.reachability.proofs.StateLaws.{Settled, among-grown, settled-grown, settled-hopeless}
use Rattle.reachability.proofs.hopeless.Goals as goal

pub loop-i-preserved : goal.loop-i-preserved
loop-i-preserved c =
    let job = c.args.job in
    let l = c.loop-i in
    let t = c.expand in
    let (g, m) = c.in-Some-expand.ensures in
    let here : l.i < l.count = c.loop-i-test.true in
    let lacks : (job.goal ⊆ get_or t.new.states l.i 0 → ⊥) =
    λ h. c.if-without-eq0.false (c.without.ensures ∙ without-none job.goal (get_or l.states l.i 0) (subst (λ (s : ℕ). job.goal ⊆ s) (g.same l.i here) h)) in (
      omega (arith, g.more),
      omega (arith, g.room, t.auto.states),
      search rules,
      search rules,
      among-grown g job.start l.invariant.4,
      one_more (Settled (fitting_in job) t.new.states c.in-Some-expand.grown) l.i (λ m k. settled-grown g (fitting_in job) m (omega arith) (l.invariant.5 m k)) (lacks, m),
    )

pub returns : goal.returns
returns c =
    let job = c.args.job in
    let l = c.loop-i in
    settled-hopeless (fitting_in job) l.states l.count l.invariant.4 (λ m k. l.invariant.5 m (omega (arith, c.loop-i-test.false)))
