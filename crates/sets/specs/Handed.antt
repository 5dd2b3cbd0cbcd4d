-- What the code hands back where there may be nothing: the `some` and `none` of the definitions as the code's `Some` and `None`, and back.
use Rattle.std.specs.Prelude.{Option, Some, None}
use Rattle.std.proofs.Math.Option as maybe

abbrev pub handed_by : {A : Type 0} → maybe.Option A → Option A
handed_by (maybe.some x) = Some x
handed_by maybe.none = None

abbrev pub handed_of : {A : Type 0} → Option A → maybe.Option A
handed_of (Some x) = maybe.some x
handed_of None = maybe.none
