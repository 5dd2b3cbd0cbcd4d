-- `writing::put_choice` meets its contract: the kind, the counts, the order and the records are put one after the other.
use native.Mathlib.Omega.{arith}
use Rattle.sets.specs.Ranges.{list_to}
use Rattle.jobfile.proofs.ItemLaws.{length-bytes}
use Rattle.writing.specs.Meaning.{article_in}
use Rattle.writing.proofs.PutLaws.{byte-as, number-as, choice-put}
use Rattle.writing.proofs.put_choice.Goals as goal

pub put_number-c-requires : goal.put_number-c-requires
put_number-c-requires c =
    let r = c.args.read in
    let articles = number-as 1 r.articles c.put_number-b.ensures (omega arith) (omega arith) in
    omega (arith, c.put_byte-a.ensures.next, c.put_byte-a.ensures.same, articles.next, articles.same, length-bytes 1 r.articles, c.requires.0)

pub put_number-d-requires : goal.put_number-d-requires
put_number-d-requires c =
    let r = c.args.read in
    let articles = number-as 1 r.articles c.put_number-b.ensures (omega arith) (omega arith) in
    let wishes = number-as 1 r.wish_count c.put_number-c.ensures (omega arith) (omega arith) in
    omega (
      arith,
      c.put_byte-a.ensures.next,
      c.put_byte-a.ensures.same,
      articles.next,
      articles.same,
      wishes.next,
      wishes.same,
      length-bytes 1 r.articles,
      length-bytes 1 r.wish_count,
      c.requires.0,
    )

pub put_records-requires : goal.put_records-requires
put_records-requires c =
    let r = c.args.read in
    let articles = number-as 1 r.articles c.put_number-b.ensures (omega arith) (omega arith) in
    let wishes = number-as 1 r.wish_count c.put_number-c.ensures (omega arith) (omega arith) in
    let order = number-as 8 r.order c.put_number-d.ensures (omega arith) (omega arith) in (
      omega (
        arith,
        c.put_byte-a.ensures.next,
        c.put_byte-a.ensures.same,
        articles.next,
        articles.same,
        wishes.next,
        wishes.same,
        order.next,
        order.same,
        length-bytes 1 r.articles,
        length-bytes 1 r.wish_count,
        length-bytes 8 r.order,
        c.requires.0,
      ),
      c.requires.1,
    )

pub returns : goal.returns
returns c =
    let p = c.put_records.ensures in
    let a = c.args in
    let r = a.read in
    let kind = byte-as 67 c.put_byte-a.ensures (omega arith) in
    let articles = number-as 1 r.articles c.put_number-b.ensures (omega arith) (omega arith) in
    let wishes = number-as 1 r.wish_count c.put_number-c.ensures (omega arith) (omega arith) in
    let order = number-as 8 r.order c.put_number-d.ensures (omega arith) (omega arith) in record { put = choice-put r.articles r.wish_count r.order (list_to r.articles (article_in a.file.now r a.number a.name.now)) kind articles wishes order p.put; upper_bound = omega (arith, p.upper_bound, kind.next, articles.next, wishes.next, order.next, length-bytes 1 r.articles, length-bytes 1 r.wish_count, length-bytes 8 r.order) }
