-- `capi::kitchen_version` meets its contract.
use native.Mathlib.Omega.{arith}
use Rattle.calls.proofs.ToldLaws.{seen}
use Rattle.capi.proofs.kitchen_version.Goals as goal

pub returns : goal.returns
returns c = seen (λ version is. omega arith)
