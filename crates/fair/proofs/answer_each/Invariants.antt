-- `fair::answer_each` meets its contract: i entries are written, and each turn writes one more into the part from its first word on.
use mathlib.Core.Path.{◌≡◌}
use mathlib.Core.List.{◌++◌}
use Prim.Native.Nat.{◌*◌}
use lib.ListN.{length, take, drop}
use Rattle.network.specs.Network.{listed}
use Rattle.fair.specs.Fair.{entry_words, entries}
use Rattle.fair.specs.Meaning.{order_over}
use Rattle.fair.proofs.answer_each.Given as goal

abbrev pub invariant-loop-i : goal.invariant-loop-i
invariant-loop-i l =
    (length l.words ≡ length l.initial.words) × (l.words ≡ entries (order_over (listed l.n l.wishes l.clashes) l.wish_count) (take l.i l.orders) ++ drop (entry_words * l.i) l.initial.words)
