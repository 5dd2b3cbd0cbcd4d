use mathlib.Core.Path.{◌≡◌, subst}
use Prim.Native.Nat.{ℕ}
use native.Mathlib.Omega.{arith}
use Rattle.std.proofs.lemmas.Result.{err_from_is_err_and}
use Rattle.jobfile.proofs.ColumnLaws.{ColumnsFilled, records-start, records-refused, records-turn, records-end}
use Rattle.jobfile.proofs.records.records_from.Goals as goal

pub loop-i-init : goal.loop-i-init
loop-i-init c = records-start c.args.file.now c.args.kind c.args.count c.args.n c.args.at

pub loop-i-preserved : goal.loop-i-preserved
loop-i-preserved c =
    let a = c.args in
    let l = c.loop-i in
    let found = c.in_ok-found in
    records-turn a.file.now a.kind a.count a.n a.at l.records l.i l.invariant c.loop-i-test.true found.found c.requires found.ensures.result_value found.ensures.len_in_bounds

pub returns-in_err-found : goal.returns-in_err-found
returns-in_err-found c =
    let a = c.args in
    let l = c.loop-i in
    let p = err_from_is_err_and c.from_residual.result c.from_residual.ensures.1 in
    rw (p.1, p.2) (record { result_value = records-refused a.file.now a.kind a.count a.n a.at l.records l.i l.invariant c.loop-i-test.true c.in_err-found.ensures.result_value; columns = tt })

pub returns : goal.returns
returns c =
    let a = c.args in
    let l = c.loop-i in
    let e : l.i ≡ a.n = omega arith in
    let filled = subst (λ (k : ℕ). ColumnsFilled a.file.now a.kind a.count a.n a.at l.records k) e l.invariant in
    record { result_value = records-end a.file.now a.kind a.count a.n a.at l.records filled; columns = filled.columns }
