-- `writing::put_name` meets its contract: nothing is put of an empty name, and of another its length and its bytes.
use native.Mathlib.Omega.{arith}
use lib.ListN.{length}
use Rattle.writing.proofs.PutLaws.{put-none, put-append, put_as, byte-as, name-none, name-some}
use Rattle.writing.proofs.put_name.Goals as goal

pub returns-then-name-eq0 : goal.returns-then-name-eq0
returns-then-name-eq0 c =
    let a = c.args in
    put_as (put-none a.page.now a.at (omega arith)) (name-none a.name.now (omega (arith, c.if-name-eq0.true)))

pub returns : goal.returns
returns c =
    let name = c.args.name.now in
    put_as (put-append (byte-as (length name) c.put_byte-start.ensures (omega (arith, c.requires.1))) c.put_bytes.ensures)
    (name-some name (λ e. let z : ⊥ = omega (arith, c.if-name-eq0.false) in z))
