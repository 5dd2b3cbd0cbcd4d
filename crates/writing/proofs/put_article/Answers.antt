-- `writing::put_article` meets its contract: the record has the other name, or the bytes at its spot.
use Prim.Native.Nat.{◌+◌, ◌-◌}
use native.Mathlib.Omega.{arith}
use lib.ListN.{take, drop, length-take}
use Rattle.writing.proofs.PutLaws.{record-end, other_name, kept-name}
use Rattle.writing.proofs.put_article.Goals as goal

pub returns-then-other : goal.returns-then-other
returns-then-other c =
    let p = c.put_record in
    let a = c.args in record { put = other_name a.wishes a.clashes a.price a.name.now (take a.len (drop a.start a.file.now)) p.ensures (omega arith) (omega arith) (omega arith) c.if-other.true; upper_bound = record-end a.wishes a.clashes a.name.now a.price p.ensures (omega (arith, c.requires.1)) }

pub returns : goal.returns
returns c =
    let p = c.put_record-2 in
    let a = c.args in
    let from = drop a.start a.file.now in
    let k = a.start + a.len - a.start in record { put = kept-name a.wishes a.clashes a.price k a.len a.name.now from p.ensures (omega arith) (omega arith) (omega arith) (omega arith) c.if-other.false; upper_bound = record-end a.wishes a.clashes (take k from) a.price p.ensures (omega (arith, length-take k from, c.requires.3)) }
