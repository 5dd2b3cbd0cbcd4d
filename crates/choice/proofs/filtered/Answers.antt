-- `choice::filtered` meets its contract.
use native.Mathlib.Omega.{arith}
use mathlib.Core.List.{[]}
use lib.ListN.{get_or}
use Rattle.network.specs.Network.{listed}
use Rattle.choice.proofs.AmongLaws.{all-filtered}
use Rattle.choice.proofs.filtered.Goals as goal

pub returns : goal.returns
returns c =
    let a = c.args in
    let p = c.pass_each-reached in
    all-filtered (listed a.n a.wishes.now []) (λ u. get_or a.groups.now u 0) a.goals.now p.ensures.short_value p.ensures.live_value (omega (arith, c.if-reached-goals.false))
