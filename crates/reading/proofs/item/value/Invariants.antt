-- `reading::item::value` meets its contract. The invariant: v is the number that the bytes from i on spell.
use mathlib.Core.Path.{◌≡◌}
use Prim.Native.Nat.{◌+◌, ◌-◌, ◌^◌, ◌<◌}
use Rattle.reading.specs.Items.{value_at}
use Rattle.reading.proofs.item.value.Given as goal

abbrev pub invariant-loop-i : goal.invariant-loop-i
invariant-loop-i l = (l.v ≡ value_at (l.bytes - l.i) l.file (l.at + l.i)) × (l.v < 256 ^ (l.bytes - l.i))
