-- `text::used` meets its contract: after a full page there is nothing.
use borrow.Author.Rules.{rules}
use mathlib.Core.Path.{◌≡◌, ap, sym, ◌∙◌}
use Prim.Native.Nat.{ℕ, min}
use native.Mathlib.Omega.{arith}
use lib.ListN.{length, take}
use Rattle.std.proofs.lemmas.List.{take_min}
use Rattle.text.proofs.used.Goals as goal

pub returns : goal.returns
returns c =
    let page = c.args.page in
    let full : length page.bytes ≡ 2048 = search rules in
    record { upper_bound = omega arith; bytes_value = ap (λ (n : ℕ). take n page.bytes) c.min.ensures ∙ ap (λ (n : ℕ). take (min page.len n) page.bytes) (sym full) ∙ take_min page.len page.bytes }
