-- `sets::word::more_if` meets its contract.
use mathlib.Core.Path.{sym, ap, ◌∙◌}
use mathlib.Core.Bool.{Bool}
use Prim.Native.Nat.{◌^◌}
use lib.Bits.{bit_or, or_zero_r}
use Rattle.sets.specs.Ranges.{given}
use Rattle.sets.proofs.word.more_if.Goals as goal

pub returns : goal.returns
returns c = sym (ap (λ (b : Bool). bit_or c.args.s (given b (2 ^ c.args.i))) c.if-passed.false ∙ or_zero_r c.args.s)
