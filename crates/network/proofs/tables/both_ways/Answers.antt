use Prim.Native.Nat.{◌^◌, ◌<◌}
use native.Mathlib.Omega.{arith}
use lib.Bits.{bit_or}
use lib.ListN.{get_or}
use Rattle.network.specs.Tables.{both_ways}
use Rattle.sets.proofs.Filled.{filled-turn, filled-end}
use Rattle.network.proofs.TableLaws.{both_row, both-row}
use Rattle.network.proofs.tables.both_ways.Goals as goal

pub loop-u-preserved : goal.loop-u-preserved
loop-u-preserved c =
    let cs = c.args.clashes.now in
    let t = c.transposed-named_by in
    let l = c.loop-u in
    let h : l.u < 64 = omega arith in
    let fits : get_or cs l.u 0 < 2 ^ 64 = c.fits-clashes l.u in
    filled-turn 64 (both_row 64 cs) l.both l.u (bit_or (get_or cs l.u 0) (get_or t.result l.u 0)) l.invariant h (both-row 64 cs t.result l.u t.ensures fits h)

pub returns : goal.returns
unfolding both_ways
returns c =
    let l = c.loop-u in
    filled-end 64 (both_row 64 c.args.clashes.now) l.both l.u l.invariant (omega arith)
