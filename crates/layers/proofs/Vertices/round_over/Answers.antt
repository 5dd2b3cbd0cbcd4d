-- `layers::Vertices::round_over` meets its contract.
use Prim.Native.Nat.{◌+◌}
use Rattle.layers.proofs.RoundCode.{round-made}
use Rattle.layers.proofs.Vertices.round_over.Goals as goal

pub returns : goal.returns
returns c =
    let a = c.args in
    let m = c.standing-members in
    round-made 32 a.self.now.needs a.self.now.gives a.self.now.takes (32 + a.count) a.below.members m.result a.below.words c.words-words.result m.ensures c.words-words.ensures
