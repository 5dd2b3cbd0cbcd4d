-- `filter::stays` meets its contract.
use mathlib.Core.Path.{sym, ap, ◌∙◌}
use mathlib.Core.Bool.{Bool, ◌&&◌}
use lib.Dec.{leb}
use lib.ListN.{get_or}
use Rattle.sets.specs.Sets.{without, count}
use Rattle.sets.proofs.Bits.{member-yes}
use Rattle.filter.proofs.PassLaws.{lacking-left}
use Rattle.filter.proofs.stays.Goals as goal

pub returns-then-bit_at-eq1 : goal.returns-then-bit_at-eq1
returns-then-bit_at-eq1 c =
    let a = c.args in
    let s = get_or a.wishes.now a.v 0 in
    c.reaches.ensures
    ∙ lacking-left a.goal s a.want c.count-own.result a.rest c.requires.1 c.count-own.ensures.value
    ∙ sym (ap (λ (b : Bool). b && leb (count (without a.goal s)) a.rest) (member-yes a.live a.v (sym c.bit_at.ensures ∙ c.if-bit_at-eq1.true)))
