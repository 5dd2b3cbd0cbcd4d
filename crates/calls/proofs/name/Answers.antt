-- `calls::name` meets its contract: the name is the bytes at its spot.
use mathlib.Core.Path.{◌≡◌, sym, ap, ◌∙◌}
use Prim.Native.Nat.{ℕ, ◌+◌, ◌-◌}
use native.Mathlib.Omega.{arith}
use lib.ListN.{take, drop}
use Rattle.reading.specs.Items.{spots}
use Rattle.jobfile.specs.Read.{read, either}
use Rattle.jobfile.proofs.NamingLaws.{bytes_at, name-at-spot}
use Rattle.calls.proofs.NameLaws.{spot-asked}
use Rattle.calls.proofs.name.Goals as goal

pub returns : goal.returns
returns c =
    let f = c.args.file.now in
    let s = c.spot-spot.result in
    let e : s.start + s.len - s.start ≡ s.len = omega arith in
    ap (λ (n : ℕ). take n (drop s.start f)) e ∙ ap (bytes_at f) (spot-asked (read spots either f) c.spot-spot.ensures.value (omega arith)) ∙ sym (name-at-spot f either c.args.number)
