-- `extraction::extract` and `extraction::dropped`, which call each other, meet their contracts. The measure of the recursion is 2 ^ 33 times the rounds that are left, and the number of the box:
-- a call is for one round less, in the whole box, or for the same round, in the box less one of its facts; that of dropped facts lies between
-- the boxes of its round and those of the next. The invariant of the loop: plan and table
-- keep their lengths, the table is right, and whatever selection of the box can be worked back needs all facts that have been left out in their turn
-- (`Turning`). The measure of the loop is the number of the set of facts whose turn is still to come.
use mathlib.Core.Path.{◌≡◌}
use Prim.Native.Nat.{◌+◌, ◌*◌, ◌^◌}
use lib.ListN.{length}
use Rattle.sets.specs.Sets.{◌⊆◌}
use Rattle.extraction.specs.Extraction.{graph, Back, Nogoods}
use Rattle.extraction.proofs.ExtractLaws.{Turning}
use Rattle.extraction.proofs.+dropped_extract.Given as goal

abbrev pub decreases-dropped : goal.decreases-dropped
decreases-dropped l = l.j * 2 ^ 33 + 2 ^ 32

abbrev pub decreases-extract : goal.decreases-extract
decreases-extract l = l.k * 2 ^ 33 + l.may

abbrev pub invariant-dropped-loop-left : goal.invariant-dropped-loop-left
invariant-dropped-loop-left l =
    (length l.plan ≡ length l.initial.plan) × (length l.table ≡ length l.initial.table) × Nogoods (graph l.needs l.gives l.members l.words l.start) l.table
    × (l.least ⊆ l.refuted) × (Back (graph l.needs l.gives l.members l.words l.start) l.j l.least → ⊥) × (l.left ⊆ l.least)

abbrev pub decreases-dropped-loop-left : goal.decreases-dropped-loop-left
decreases-dropped-loop-left l =
    l.left

abbrev pub invariant-extract-loop-left : goal.invariant-extract-loop-left
invariant-extract-loop-left l =
    (length l.plan ≡ length l.initial.plan) × (length l.table ≡ length l.initial.table) × Nogoods (graph l.needs l.gives l.members l.words l.start) l.table
    × Turning (graph l.needs l.gives l.members l.words l.start) l.j l.goal l.may l.must l.why l.c l.left l.kept l.reason

abbrev pub decreases-extract-loop-left : goal.decreases-extract-loop-left
decreases-extract-loop-left l =
    l.left
