use mathlib.Core.Path.{◌≡◌, ap}
use mathlib.Core.List.{List}
use Prim.Native.Nat.{ℕ}
use native.Mathlib.Omega.{arith}
use Rattle.sets.specs.Ranges.{list_to}
use Rattle.jobfile.specs.Layout.{choice}
use Rattle.jobfile.specs.Job.{Record}
use Rattle.jobfile.specs.Write.{write_record, write_all}
use Rattle.writing.specs.Put.{Put}
use Rattle.writing.specs.Meaning.{article_in}
use Rattle.writing.proofs.PutLaws.{put-none, put-append, put_as, all_none, all-turn}
use Rattle.writing.proofs.put_records.Goals as goal

pub loop-i-init : goal.loop-i-init
loop-i-init c =
    let a = c.args in
    (omega arith, put_as (put-none a.page.now a.at (omega arith)) (all_none (write_record choice) (article_in a.file.now a.read a.number a.name.now)))

pub put_article-k-requires : goal.put_article-k-requires
put_article-k-requires c =
    let l = c.loop-i in (
      omega (arith, l.invariant.0, l.invariant.1.same, c.requires.0, c.loop-i-test.true),
      c.requires.1.1,
      c.requires.1.2 l.i,
      c.requires.1.3 l.i,
    )

pub loop-i-preserved : goal.loop-i-preserved
loop-i-preserved c =
    let a = c.args in
    let l = c.loop-i in
    let p = c.put_article-k in
    let article : ℕ → Record (List ℕ) = article_in a.file.now a.read a.number a.name.now in
    let put : Put l.page l.k (write_record choice (article l.i)) p.new.page p.result =
    record { next = omega (arith, p.ensures.put.next); written = p.ensures.put.written; same = p.ensures.put.same } in (
      omega (arith, p.ensures.upper_bound, l.invariant.0),
      put_as (put-append l.invariant.1 put) (all-turn (write_record choice) article l.i),
    )

pub returns : goal.returns
returns c =
    let a = c.args in
    let l = c.loop-i in
    let end : l.i ≡ a.read.articles = omega arith in record { put = put_as l.invariant.1 (ap (λ (n : ℕ). write_all (write_record choice) (list_to n (article_in a.file.now a.read a.number a.name.now))) end); upper_bound = omega (arith, l.invariant.0, end) }
