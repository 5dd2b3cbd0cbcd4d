-- `calls::compare` meets its contract: each return by what the readers and the test told.
use native.Mathlib.Omega.{arith}
use Rattle.calls.proofs.ToldLaws.{seen}
use Rattle.calls.proofs.NameLaws.{compare-first, compare-second, compare-both}
use Rattle.std.proofs.lemmas.Result.{err_from_is_err_and}
use Rattle.calls.proofs.compare.Goals as goal

pub returns-in_err-a : goal.returns-in_err-a
returns-in_err-a c =
    let w = c.args in
    let x = err_from_is_err_and c.from_residual.result c.from_residual.ensures.1 in
    rw (x.1, x.2) (compare-first w.first.now w.second.now _ c.read_choice.ensures.value c.in_err-a.was (omega arith) (omega arith) (omega arith))

pub returns-in_err-b : goal.returns-in_err-b
returns-in_err-b c =
    let w = c.args in
    let a = c.in_ok-a in
    let x = err_from_is_err_and c.from_residual-in_err-b.result c.from_residual-in_err-b.ensures.1 in
    rw (x.1, x.2) (compare-second w.first.now w.second.now a.a a.ensures.value a.ensures.choice_bounds c.read_choice-2.ensures.value c.in_err-b.was)

pub returns : goal.returns
returns c =
    let w = c.args in
    let a = c.in_ok-a in
    let b = c.in_ok-b in
    compare-both w.first.now w.second.now a.a a.ensures.value a.ensures.choice_bounds b.b b.ensures.value b.ensures.choice_bounds c.alike.ensures (seen (λ values is. omega arith)) (seen (λ alike is. omega arith))
