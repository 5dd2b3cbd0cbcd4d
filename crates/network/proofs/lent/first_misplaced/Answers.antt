use mathlib.Core.Path.{sym, ap, ◌∙◌}
use native.Mathlib.Omega.{arith}
use lib.ListN.{get_or}
use borrow.Author.Count.{below_more}
use Rattle.sets.proofs.First.{first_found, none_found}
use Rattle.network.specs.Groups.{first_misplaced}
use Rattle.network.specs.Meaning.{lent_by}
use Rattle.network.proofs.MaskLaws.{masks-start, masks-length, masks-turn}
use Rattle.network.proofs.LentLaws.{range}
use Rattle.network.proofs.lent.first_misplaced.Invariants.{wrong}
use Rattle.network.proofs.lent.first_misplaced.Goals as goal

pub loop-u-init : goal.loop-u-init
loop-u-init c = (λ v l. absurd (omega arith), masks-start 64 (λ v. get_or c.args.groups.now v 0))

pub returns-then-misplaced : goal.returns-then-misplaced
unfolding first_misplaced
returns-then-misplaced c =
    let a = c.args in
    let l = c.loop-u in
    ap lent_by (first_found (wrong a.n a.clashes.now a.groups.now) a.n l.u c.loop-u-test.true l.invariant.0 (sym c.misplaced.ensures ∙ c.if-misplaced.true))

pub enter-requires : goal.enter-requires
enter-requires c =
    let l = c.loop-u in
    let a = c.args in
    (range a.n a.clashes.now a.groups.now l.u 64 c.from.result c.requires.0 c.from.ensures (sym c.misplaced.ensures ∙ c.if-misplaced.false), omega (arith, c.requires.0, c.loop-u-test.true), masks-length 64 (λ v. get_or a.groups.now v 0) l.masks l.u l.invariant.1)

pub loop-u-preserved : goal.loop-u-preserved
loop-u-preserved c =
    let l = c.loop-u in
    let a = c.args in
    let right = sym c.misplaced.ensures ∙ c.if-misplaced.false in (
      below_more _ _ l.invariant.0 right,
      masks-turn 64 (λ v. get_or a.groups.now v 0) l.masks c.enter.new.masks l.u c.from.result l.invariant.1 c.from.ensures (range a.n a.clashes.now a.groups.now l.u 64 c.from.result c.requires.0 c.from.ensures right) c.enter.ensures,
    )

pub returns : goal.returns
unfolding first_misplaced
returns c =
    let a = c.args in
    let l = c.loop-u in
    ap lent_by (none_found (wrong a.n a.clashes.now a.groups.now) a.n (λ v h. l.invariant.0 v (omega arith)))
