-- `unicode_forms::order::entry` meets its contract.
use mathlib.Core.Path.{◌≡◌, refl, ap, sym, ◌∙◌}
use Prim.Native.Nat.{ℕ, ◌+◌, ◌-◌, ◌≤◌, ◌<◌}
use native.Mathlib.Omega.{arith}
use lib.ListN.{get_or}
use borrow.Author.Tests.{lt-ltb, le-ltb}
use Rattle.unicode_forms.specs.Table.{table}
use Rattle.unicode_forms.specs.Canonical.{place_of}
use Rattle.unicode_forms.proofs.Utf8Laws.{covered-low, covered-high}
use Rattle.unicode_forms.proofs.order.entry.Goals as goal

pub returns-then-c-lt384 : goal.returns-then-c-lt384
returns-then-c-lt384 c = c.at.ensures ∙ ap (λ (i : ℕ). get_or table i 0) (placed c.args.c c.if-c-lt384.true)
  where
    placed : (x : ℕ) → x < 0x180 → x - 0xc0 ≡ place_of x
    placed x h = rw (lt-ltb x 0x180 h)

pub overflow_sub-c-2 : goal.overflow_sub-c-2
overflow_sub-c-2 c = omega (arith, covered-high c.args.c c.requires.1 c.if-c-lt384.false)

pub at-requires-2 : goal.at-requires-2
at-requires-2 c = omega (arith, covered-high c.args.c c.requires.1 c.if-c-lt384.false, covered-low c.args.c c.requires.1)

pub returns : goal.returns
returns c =
    let x = c.args.c in
    let high : 0x180 ≤ x = c.if-c-lt384.false in
    c.at-2.ensures ∙ ap (λ (i : ℕ). get_or table i 0) (let place : _ ≡ 192 + (x - 0x300) = omega (arith, high) in place) ∙ ap (λ (i : ℕ). get_or table i 0) (marked x high)
  where
    marked : (x : ℕ) → 0x180 ≤ x → 192 + (x - 0x300) ≡ place_of x
    marked x h = sym (rw (le-ltb x 0x180 h) refl)
