-- `show_trials::file::written` stays within the bytes: a record has at most 13.
use Prim.Native.Nat.{◌+◌, ◌*◌, ◌≤◌}
use Rattle.show_trials.proofs.file.written.Given as goal

abbrev pub invariant-loop-i : goal.invariant-loop-i
invariant-loop-i l = l.at ≤ 12 + 13 * l.i
