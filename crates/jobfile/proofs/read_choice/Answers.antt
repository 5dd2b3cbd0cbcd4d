-- `jobfile::read_choice` meets its contract: the items that it reads are those of the definition, one after the other.
use native.Mathlib.Omega.{arith}
use Rattle.jobfile.proofs.ReadLaws.{choice-accepted}
use Rattle.jobfile.proofs.read_choice.Goals as goal

pub returns : goal.returns
returns c =
    let file = c.args.file.now in
    let at = c.in_ok-at in
    let articles = c.in_ok-articles in
    let wishes = c.in_ok-counted in
    let order = c.in_ok-order in
    let records = c.in_ok-wishes in
    let all = choice-accepted file articles.articles.value wishes.counted.value order.order.value at.at articles.articles.next wishes.counted.next order.order.next records.field-0
    at.ensures articles.ensures.result_value wishes.ensures.result_value order.ensures records.ensures.result_value c.in_ok-finish.ensures
    (λ k. omega (arith, c.type_inv.file k)) articles.ensures.value_le_limit wishes.ensures.value_le_limit records.ensures.columns in
    record { value = all.0; choice_bounds = all.1; few = all.2 }
