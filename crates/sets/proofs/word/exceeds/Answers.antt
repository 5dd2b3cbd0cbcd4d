-- `sets::word::exceeds` meets its contract.
use borrow.Author.Rules.{rules}
use mathlib.Core.Path.{sym}
use Prim.Native.Nat.{◌^◌, ◌<◌}
use native.Mathlib.Omega.{arith}
use lib.Pow.{pow_mono}
use borrow.Author.Tests.{lt-leb}
use Rattle.sets.proofs.Bits.{shifted-out}
use Rattle.sets.proofs.word.exceeds.Goals as goal

pub returns-then-limit-ge-WIDTH : goal.returns-then-limit-ge-WIDTH
returns-then-limit-ge-WIDTH c =
    let a = c.args in
    let fits : a.s < 2 ^ 64 = search rules in
    sym (lt-leb (2 ^ a.limit) a.s (omega (arith, pow_mono {i = 64} {j = a.limit} c.if-limit-ge-WIDTH.true)))

pub returns : goal.returns
returns c = shifted-out c.args.s c.args.limit
