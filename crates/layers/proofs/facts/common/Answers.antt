use borrow.Author.Rules.{rules}
use mathlib.Core.Path.{sym, ◌∙◌}
use native.Mathlib.Omega.{arith}
use lib.Bits.{and_le_l}
use lib.ListN.{get_or}
use Rattle.layers.proofs.FactCode.{all_start, all-visit, all_end}
use Rattle.layers.proofs.facts.common.Goals as goal

pub loop-left-init : goal.loop-left-init
loop-left-init c = (search rules, omega arith, all_start 64 (λ x. get_or c.args.words.now x 0) c.args.set)

pub loop-left-preserved : goal.loop-left-preserved
loop-left-preserved c =
    let l = c.loop-left in
    let ws = c.args.words.now in
    let low = c.lowest-x in
    let visit = all-visit 64 (λ x. get_or ws x 0) l.all l.left low.result c.rest-left.result l.invariant.0 c.loop-left-test.true low.ensures.value c.rest-left.ensures.value in (
      omega (arith, c.rest-left.ensures.upper_bound, l.invariant.0),
      omega (arith, l.invariant.1, and_le_l l.all (get_or ws low.result 0)),
      visit ∙ l.invariant.2,
    )

pub returns : goal.returns
returns c =
    let l = c.loop-left in
    sym (all_end 64 (λ x. get_or c.args.words.now x 0) l.all l.left l.invariant.1 c.loop-left-test.false) ∙ l.invariant.2
