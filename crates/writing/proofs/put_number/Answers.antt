use mathlib.Core.Path.{refl, ◌∙◌}
use native.Mathlib.Omega.{arith}
use lib.ListN.{length-set}
use Rattle.jobfile.proofs.ItemLaws.{length-bytes}
use Rattle.writing.proofs.PutLaws.{number-start, number-turn, number-end}
use Rattle.writing.proofs.put_number.Goals as goal

pub loop-i-init : goal.loop-i-init
loop-i-init c = (refl, number-start c.args.page.now c.args.at c.args.bytes c.args.number)

pub loop-i-preserved : goal.loop-i-preserved
loop-i-preserved c =
    let l = c.loop-i in
    let a = c.args in (
      length-set l.page _ _ ∙ l.invariant.0,
      number-turn l.page a.at a.bytes l.i l.rest c.loop-i-test.true (omega arith) (omega arith) (omega arith) ∙ l.invariant.1,
    )

pub shape_of-page : goal.shape_of-page
shape_of-page c = c.loop-i.invariant.0

pub returns : goal.returns
returns c =
    let l = c.loop-i in
    let a = c.args in
    record {
      next = omega (arith, length-bytes a.bytes a.number);
      written = number-end l.page a.at a.bytes l.i l.rest (omega (arith, c.loop-i-test.false)) ∙ l.invariant.1;
      same = l.invariant.0;
    }
