-- `unicode_forms::order::settled` meets its contract. The invariant: the character stands at `at`, with those before it and those that it passed around it.
use Prim.Native.Nat.{◌<◌}
use Rattle.unicode_forms.proofs.SettleLaws.{Going}
use Rattle.unicode_forms.proofs.order.settled.Given as goal

abbrev pub invariant-loop-at : goal.invariant-loop-at
invariant-loop-at l = (l.count < 32) × Going l.count l.c l.initial.next l.at l.next
