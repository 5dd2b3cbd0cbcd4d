-- `unicode_forms::utf8::read` meets its contract.
use mathlib.Core.Path.{sym, ◌∙◌}
use native.Mathlib.Omega.{arith}
use borrow.Author.Tests.{not-true, not-false}
use Rattle.unicode_forms.proofs.Utf8Laws.{pair-from, read_one, read-cut, read-bad, read-two}
use Rattle.std.proofs.lemmas.Bool.{not_from_false, not_from_true}
use Rattle.unicode_forms.proofs.utf8.read.Goals as goal

pub returns-then-a-lt128 : goal.returns-then-a-lt128
returns-then-a-lt128 c =
    let a = c.args in
    read_one a.bytes.now a.at c.from-a.result c.requires c.from-a.ensures c.if-a-lt128.true

pub returns-then-bytes-at-lt2 : goal.returns-then-bytes-at-lt2
returns-then-bytes-at-lt2 c =
    let a = c.args in
    read-cut a.bytes.now a.at c.from-a.result c.requires c.from-a.ensures c.if-a-lt128.false (omega (arith, c.if-bytes-at-lt2.true))

pub returns-then-not-is_pair : goal.returns-then-not-is_pair
returns-then-not-is_pair c =
    read-bad c.args.bytes.now c.args.at c.from-a.result c.requires c.from-a.ensures c.from-b.result c.if-bytes-at-lt2.false c.from-b.ensures c.if-a-lt128.false (sym c.is_pair.ensures ∙ not-true c.is_pair.result (not_from_false _ c.if-not-is_pair.true))

pub overflow_sub-result : goal.overflow_sub-result
overflow_sub-result c =
    let (p, q, r, m) = pair-from c.from-a.result c.from-b.result (sym c.is_pair.ensures ∙ not-false c.is_pair.result (not_from_true _ c.if-not-is_pair.false)) in
    omega arith

pub overflow_sub-result-2 : goal.overflow_sub-result-2
overflow_sub-result-2 c =
    let (p, q, r, m) = pair-from c.from-a.result c.from-b.result (sym c.is_pair.ensures ∙ not-false c.is_pair.result (not_from_true _ c.if-not-is_pair.false)) in
    q

pub returns : goal.returns
returns c =
    read-two c.args.bytes.now c.args.at c.from-a.result c.requires c.from-a.ensures c.from-b.result c.if-bytes-at-lt2.false c.from-b.ensures c.if-a-lt128.false (sym c.is_pair.ensures ∙ not-false c.is_pair.result (not_from_true _ c.if-not-is_pair.false))
