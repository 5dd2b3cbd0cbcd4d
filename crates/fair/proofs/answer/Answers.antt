-- `fair::answer` meets its contract: each entry by what was told, its words compared as numbers.
use mathlib.Core.Path.{ap, ◌∙◌}
use mathlib.Core.List.{List, ◌++◌}
use Prim.Native.Nat.{ℕ}
use native.Mathlib.Omega.{arith}
use lib.ListN.{drop}
use Rattle.network.specs.Network.{listed}
use Rattle.fair.specs.Fair.{entry_words}
use Rattle.fair.proofs.FairLaws.{entry-lacks, entry-chosen, entry-none}
use Rattle.fair.proofs.answer.Goals as goal

pub returns-then-exceeds : goal.returns-then-exceeds
returns-then-exceeds c =
    let a = c.args in
    let number = c.from-lacks.ensures in
    c.put.ensures ∙ ap (λ (l : List ℕ). l ++ drop entry_words a.words.now)
    (entry-lacks (listed a.n a.wishes.now a.clashes.now) a.wish_count a.order c.exceeds.ensures c.if-exceeds.true (omega (arith, number)) (omega arith) (omega arith))

pub returns-in-Ok : goal.returns-in-Ok
returns-in-Ok c =
    let a = c.args in
    c.put-in-Ok.ensures ∙ ap (λ (l : List ℕ). l ++ drop entry_words a.words.now)
    (entry-chosen (listed a.n a.wishes.now a.clashes.now) a.wish_count a.order c.exceeds.ensures c.if-exceeds.false c.offer-chosen.ensures c.in-Ok.is (omega arith) (omega arith) (omega arith))

pub returns-in-Err : goal.returns-in-Err
returns-in-Err c =
    let a = c.args in
    let number = c.from-none.ensures in
    c.put-in-Err.ensures ∙ ap (λ (l : List ℕ). l ++ drop entry_words a.words.now)
    (entry-none (listed a.n a.wishes.now a.clashes.now) a.wish_count a.order c.exceeds.ensures c.if-exceeds.false c.offer-chosen.ensures c.in-Err.is (omega (arith, number)) (omega arith) (omega arith))
