-- `supports::row` meets its contract.
use mathlib.Core.Path.{◌≡◌, ap, ◌∙◌}
use Prim.Native.Nat.{ℕ, ◌+◌, ◌-◌, ◌*◌}
use native.Mathlib.Omega.{arith}
use lib.ListN.{take, drop}
use Rattle.supports.specs.Supports.{row_of}
use Rattle.supports.proofs.row.Goals as goal

pub returns : goal.returns
unfolding row_of
returns c =
    let all : 64 * c.args.j + 64 - 64 * c.args.j ≡ 64 = omega arith in
    c.copy_from_slice.ensures.after ∙ ap (λ (n : ℕ). take n (drop (64 * c.args.j) c.args.words.now)) all
