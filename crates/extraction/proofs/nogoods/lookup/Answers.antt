use mathlib.Core.Path.{sym, ◌∙◌}
use native.Mathlib.Omega.{arith}
use Rattle.extraction.proofs.NogoodLaws.{noted-at}
use Rattle.extraction.proofs.nogoods.lookup.Goals as goal

pub returns-then-without-eq0 : goal.returns-then-without-eq0
returns-then-without-eq0 c =
    let a = c.args in
    let l = c.loop-i in
    noted-at a.table.now a.k a.facts l.i l.invariant (omega arith) (sym c.without.ensures ∙ c.if-without-eq0.true)
