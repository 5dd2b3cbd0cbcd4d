-- `jobfile::read_names` meets its contract: by the kind of the file, what its reader told.
use native.Mathlib.Omega.{arith}
use Rattle.std.proofs.lemmas.Result.{err_from_is_err_and}
use Rattle.jobfile.proofs.ReadLaws.{fitting-names, choice-names}
use Rattle.jobfile.proofs.read_names.Goals as goal

pub returns-in_err-read : goal.returns-in_err-read
returns-in_err-read c =
    let p = err_from_is_err_and c.from_residual.result c.from_residual.ensures.1 in
    let both = fitting-names c.args.file.now c.is_fitting.ensures 0 c.if-is_fitting.true c.in_err-read.ensures.value tt tt in
    rw (p.1, p.2) (record { value = both.0; names_bounds = both.1; few = both.2 })

pub returns-then-is_fitting : goal.returns-then-is_fitting
returns-then-is_fitting c =
    let both = fitting-names c.args.file.now c.is_fitting.ensures _ c.if-is_fitting.true c.in_ok-read.ensures.value c.in_ok-read.ensures.fitting_bounds (omega arith) in
    record { value = both.0; names_bounds = both.1; few = both.2 }

pub returns-in_err-read-2 : goal.returns-in_err-read-2
returns-in_err-read-2 c =
    let p = err_from_is_err_and c.from_residual-in_err-read-2.result c.from_residual-in_err-read-2.ensures.1 in
    let both = choice-names c.args.file.now c.is_fitting.ensures 0 c.if-is_fitting.false c.in_err-read-2.ensures.value tt tt in
    rw (p.1, p.2) (record { value = both.0; names_bounds = both.1; few = both.2 })

pub returns : goal.returns
returns c =
    let both = choice-names c.args.file.now c.is_fitting.ensures _ c.if-is_fitting.false c.in_ok-read-2.ensures.value c.in_ok-read-2.ensures.choice_bounds (omega arith) in
    record { value = both.0; names_bounds = both.1; few = both.2 }
