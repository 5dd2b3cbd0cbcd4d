-- `calls::fact_layer` meets its contract: each return by what the reader, the test and the layers told.
use borrow.Author.Rules.{rules}
use native.Mathlib.Omega.{arith}
use lib.ListN.{length}
use Rattle.std.specs.Prelude.{Ok}
use Rattle.planning.specs.Layers.{fact_layer}
use Rattle.planning.specs.Meaning.{fitting_in}
use Rattle.planning.proofs.ReadLaws.{sized-read}
use Rattle.arguments.proofs.TestLaws.{layer-passed}
use Rattle.calls.proofs.CallLaws.{fitting-job}
use Rattle.calls.proofs.FittingLaws.{facts-fit, words-fit, layer-down, layer-stopped, facts-made}
use Rattle.std.proofs.lemmas.Result.{err_from_is_err_and}
use Rattle.calls.proofs.fact_layer.Goals as goal

pub returns-in_err-read : goal.returns-in_err-read
returns-in_err-read c =
    let a = c.args in
    let x = err_from_is_err_and c.from_residual.result c.from_residual.ensures.1 in
    rw (x.1, x.2) (layer-down (λ F. fact_layer 32 F a.k) 0 32 a.file.now a.words.now a.k c.read_fitting.ensures.value c.in_err-read.was)

pub returns-in_err-layer : goal.returns-in_err-layer
returns-in_err-layer c =
    let a = c.args in
    let r = c.in_ok-read in
    let R = fitting-job a.file.now r.read r.ensures.value r.ensures.fitting_bounds in
    let x = err_from_is_err_and c.from_residual-in_err-layer.result c.from_residual-in_err-layer.ensures.1 in
    rw (x.1, x.2) (layer-stopped (λ F. fact_layer 32 F a.k) 0 32 a.file.now a.words.now a.k r.read R c.layer.ensures c.in_err-layer.was)

pub fact_layer-layer-requires : goal.fact_layer-layer-requires
fact_layer-layer-requires c =
    let r = c.in_ok-read in
    sized-read c.args.file.now (Ok r.read) r.ensures.value r.ensures.fitting_bounds

pub facts-requires : goal.facts-requires
facts-requires c =
    let r = c.in_ok-read in
    let a = c.args in
    ((layer-passed a.k 0 r.read.horizon (length a.words.now) 32 c.layer.ensures c.in_ok-layer.was).2, words-fit (fitting_in r.read) _ c.fact_layer-layer.ensures)

pub overflow_cast-result : goal.overflow_cast-result
overflow_cast-result c =
    let r = c.in_ok-read in
    let fits = facts-fit (fitting_in r.read) _ c.fact_layer-layer.ensures (sized-read c.args.file.now (Ok r.read) r.ensures.value r.ensures.fitting_bounds) in
    search rules

pub returns : goal.returns
returns c =
    let a = c.args in
    let r = c.in_ok-read in
    let R = fitting-job a.file.now r.read r.ensures.value r.ensures.fitting_bounds in
    facts-made a.file.now a.words.now a.k r.read R c.layer.ensures c.in_ok-layer.was c.fact_layer-layer.ensures c.facts.ensures (omega arith) (omega arith)
