-- `writing::put_number` meets its contract. The invariant: the bytes that are put, and those of what is left of the number after them, are the
-- number's.
use mathlib.Core.Path.{◌≡◌}
use Prim.Native.Nat.{◌+◌, ◌-◌}
use lib.ListN.{length}
use lib.Seq.{sets}
use Rattle.jobfile.specs.Write.{bytes_of}
use Rattle.writing.proofs.put_number.Given as goal

abbrev pub invariant-loop-i : goal.invariant-loop-i
invariant-loop-i l =
    (length l.page ≡ length l.initial.page) × (sets l.page (l.at + l.i) (bytes_of (l.bytes - l.i) l.rest) ≡ sets l.initial.page l.at (bytes_of l.bytes l.number))
