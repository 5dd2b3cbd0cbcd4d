-- `calls::find` meets its contract: the search over the names that the reader told.
use native.Mathlib.Omega.{arith}
use Rattle.jobfile.specs.Valid.{Bytes}
use Rattle.calls.proofs.NameLaws.{find-down, find-short, find-made}
use Rattle.std.proofs.lemmas.Result.{err_from_is_err_and}
use Rattle.calls.proofs.find.Goals as goal

pub returns-in_err-read : goal.returns-in_err-read
returns-in_err-read c =
    let a = c.args in
    let x = err_from_is_err_and c.from_residual.result c.from_residual.ensures.1 in
    rw (x.1, x.2) (find-down a.file.now a.name.now c.read_names.ensures.value c.in_err-read.was)

pub search-requires : goal.search-requires
search-requires c =
    let f = c.args.file.now in
    let r = c.in_ok-read in
    let bytes : Bytes f = λ k. omega (arith, c.shared_slice_known-1.given k) in
    (r.ensures.names_bounds.0, r.ensures.names_bounds.1, find-short f c.args.name.now bytes r.ensures.value r.ensures.names_bounds)

pub returns : goal.returns
returns c =
    let a = c.args in
    let r = c.in_ok-read in
    find-made a.file.now a.name.now r.read r.ensures.value r.ensures.names_bounds c.answer_of.ensures c.search.ensures (omega arith)
