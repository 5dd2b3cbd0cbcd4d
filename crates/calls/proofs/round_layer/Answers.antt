-- `calls::round_layer` meets its contract: each return by what the reader, the test and the layers told.
use native.Mathlib.Omega.{arith}
use lib.ListN.{length}
use Rattle.std.specs.Prelude.{Ok}
use Rattle.planning.specs.Layers.{round_layer}
use Rattle.planning.proofs.ReadLaws.{sized-read}
use Rattle.arguments.proofs.TestLaws.{layer-passed}
use Rattle.calls.proofs.CallLaws.{fitting-job}
use Rattle.calls.proofs.FittingLaws.{layer-down, layer-stopped, vertices-made}
use Rattle.std.proofs.lemmas.Result.{err_from_is_err_and}
use Rattle.calls.proofs.round_layer.Goals as goal

pub returns-in_err-read : goal.returns-in_err-read
returns-in_err-read c =
    let a = c.args in
    let x = err_from_is_err_and c.from_residual.result c.from_residual.ensures.1 in
    rw (x.1, x.2) (layer-down (λ F. round_layer 32 F a.k) 1 64 a.file.now a.words.now a.k c.read_fitting.ensures.value c.in_err-read.was)

pub returns-in_err-layer : goal.returns-in_err-layer
returns-in_err-layer c =
    let a = c.args in
    let r = c.in_ok-read in
    let R = fitting-job a.file.now r.read r.ensures.value r.ensures.fitting_bounds in
    let x = err_from_is_err_and c.from_residual-in_err-layer.result c.from_residual-in_err-layer.ensures.1 in
    rw (x.1, x.2) (layer-stopped (λ F. round_layer 32 F a.k) 1 64 a.file.now a.words.now a.k r.read R c.layer.ensures c.in_err-layer.was)

pub round_layer-layer-requires : goal.round_layer-layer-requires
round_layer-layer-requires c =
    let r = c.in_ok-read in
    let a = c.args in
    let from_one = (layer-passed a.k 1 r.read.horizon (length a.words.now) 64 c.layer.ensures c.in_ok-layer.was).0 in
    (sized-read a.file.now (Ok r.read) r.ensures.value r.ensures.fitting_bounds, omega arith)

pub vertices-requires : goal.vertices-requires
vertices-requires c =
    let a = c.args in
    (layer-passed a.k 1 c.in_ok-read.read.horizon (length a.words.now) 64 c.layer.ensures c.in_ok-layer.was).2

pub returns : goal.returns
returns c =
    let a = c.args in
    let r = c.in_ok-read in
    let R = fitting-job a.file.now r.read r.ensures.value r.ensures.fitting_bounds in
    vertices-made a.file.now a.words.now a.k r.read R c.layer.ensures c.in_ok-layer.was c.round_layer-layer.ensures c.vertices.ensures (omega arith) (omega arith)
