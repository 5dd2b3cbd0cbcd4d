-- `unicode_forms::order::class` meets its contract.
use mathlib.Core.Path.{ap, ◌∙◌}
use Prim.Native.Nat.{ℕ, ◌/◌}
use borrow.Author.Tests.{lt-ltb, le-ltb}
use Rattle.unicode_forms.proofs.order.class.Goals as goal

pub returns-then-c-lt192 : goal.returns-then-c-lt192
returns-then-c-lt192 c = simp (lt-ltb c.args.c 0xc0 c.if-c-lt192.true)

pub returns : goal.returns
returns c = ap (λ (x : ℕ). x / 16777216) c.entry.ensures ∙ simp (le-ltb c.args.c 0xc0 c.if-c-lt192.false)
