-- `writing::put_record` meets its contract: the bit map, the two sets, the name and the price are put one after the other.
use native.Mathlib.Omega.{arith}
use Rattle.writing.proofs.PutLaws.{field-as, field-most, name-most, record-put}
use Rattle.writing.proofs.put_record.Goals as goal

pub put_field-c-requires : goal.put_field-c-requires
put_field-c-requires c =
    let wishes = field-as 8 c.args.wishes c.put_field-b.ensures (omega arith) (omega arith) in
    omega (arith, c.put_byte-a.ensures.next, c.put_byte-a.ensures.same, wishes.next, wishes.same, field-most 8 c.args.wishes, c.requires.0)

pub put_name-d-requires : goal.put_name-d-requires
put_name-d-requires c =
    let wishes = field-as 8 c.args.wishes c.put_field-b.ensures (omega arith) (omega arith) in
    let clashes = field-as 8 c.args.clashes c.put_field-c.ensures (omega arith) (omega arith) in (
      omega (
        arith,
        c.put_byte-a.ensures.next,
        c.put_byte-a.ensures.same,
        wishes.next,
        wishes.same,
        clashes.next,
        clashes.same,
        field-most 8 c.args.wishes,
        field-most 8 c.args.clashes,
        c.requires.0,
        c.requires.1,
      ),
      omega (arith, c.requires.1),
    )

pub put_field-requires : goal.put_field-requires
put_field-requires c =
    let wishes = field-as 8 c.args.wishes c.put_field-b.ensures (omega arith) (omega arith) in
    let clashes = field-as 8 c.args.clashes c.put_field-c.ensures (omega arith) (omega arith) in
    omega (
      arith,
      c.put_byte-a.ensures.next,
      c.put_byte-a.ensures.same,
      wishes.next,
      wishes.same,
      clashes.next,
      clashes.same,
      c.put_name-d.ensures.next,
      c.put_name-d.ensures.same,
      field-most 8 c.args.wishes,
      field-most 8 c.args.clashes,
      name-most c.args.name.now,
      c.requires.0,
      c.requires.1,
    )

pub returns : goal.returns
returns c =
    let a = c.args in
    let wishes = field-as 8 a.wishes c.put_field-b.ensures (omega arith) (omega arith) in
    let clashes = field-as 8 a.clashes c.put_field-c.ensures (omega arith) (omega arith) in
    let price = field-as 4 a.price c.put_field.ensures (omega arith) (omega arith) in
    record-put a.wishes a.clashes a.name.now a.price c.put_byte-a.ensures wishes clashes c.put_name-d.ensures price
    (omega (arith, c.mark.ensures.0, c.mark-2.ensures.0, c.mark-3.ensures.0, c.mark-4.ensures.0))
