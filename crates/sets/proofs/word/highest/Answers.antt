-- `sets::word::highest` meets its contract.
use borrow.Author.Rules.{rules}
use Prim.Native.Nat.{ℕ, suc, ◌-◌, ◌^◌, ◌≤◌, ◌<◌}
use mathlib.Core.Path.{◌≡◌, subst}
use native.Mathlib.Omega.{arith}
use lib.Count.{count_leading_zeros, leading_top}
use Rattle.sets.proofs.word.highest.Goals as goal

pub returns : goal.returns
returns c =
    let (j, e, low, high) = leading_top 64 c.args.s (omega (arith, c.requires)) (search rules) in
    let same : j ≡ 63 - count_leading_zeros 64 c.args.s = omega (arith, e) in
    subst (λ (r : ℕ). (r < 64) × (2 ^ r ≤ c.args.s) × (c.args.s < 2 ^ suc r)) same (omega (arith, e), low, high)
