use mathlib.Core.Path.{refl, ◌∙◌}
use native.Mathlib.Omega.{arith}
use lib.ListN.{length-set}
use Rattle.writing.proofs.PutLaws.{copy-turn, copy-end}
use Rattle.writing.proofs.put_bytes.Goals as goal

pub loop-i-init : goal.loop-i-init
loop-i-init c = (refl, refl)

pub loop-i-preserved : goal.loop-i-preserved
loop-i-preserved c =
    let l = c.loop-i in
    let a = c.args in (
      length-set l.page _ _ ∙ l.invariant.0,
      copy-turn a.page.now a.at a.bytes.now l.page l.i l.invariant.1 c.loop-i-test.true (omega arith) (omega arith),
    )

pub shape_of-page : goal.shape_of-page
shape_of-page c = c.loop-i.invariant.0

pub returns : goal.returns
returns c =
    let l = c.loop-i in
    let a = c.args in
    record {
      next = omega arith;
      written = copy-end a.page.now a.at a.bytes.now l.page l.i l.invariant.1 (omega (arith, c.loop-i-test.false));
      same = l.invariant.0;
    }
