-- `layers::rounds::meeting` meets its contract.
use borrow.Author.Rules.{rules}
use mathlib.Core.Path.{ap, ◌∙◌}
use Prim.Native.Nat.{ℕ, ◌^◌, ◌<◌}
use Rattle.sets.specs.Sets.{member}
use Rattle.layers.proofs.SetCode.{turned-meets}
use Rattle.layers.proofs.rounds.meeting.Goals as goal

pub returns : goal.returns
returns c =
    let a = c.args in
    let h : a.s < 2 ^ 64 = search rules in
    λ table e y l. ap (λ (r : ℕ). member r y) c.gather.ensures ∙ turned-meets 64 a.s a.turned.now table h e y l
