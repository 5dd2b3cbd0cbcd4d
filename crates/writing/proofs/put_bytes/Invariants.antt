-- `writing::put_bytes` meets its contract. The invariant: the first bytes are put.
use mathlib.Core.Path.{◌≡◌}
use lib.ListN.{length, take}
use lib.Seq.{sets}
use Rattle.writing.proofs.put_bytes.Given as goal

abbrev pub invariant-loop-i : goal.invariant-loop-i
invariant-loop-i l = (length l.page ≡ length l.initial.page) × (l.page ≡ sets l.initial.page l.at (take l.i l.bytes))
