use mathlib.Core.Path.{refl, sym, ap, ◌∙◌}
use mathlib.Core.List.{List}
use mathlib.Core.Option.{Option, some}
use Prim.Native.Nat.{ℕ, ◌+◌}
use native.Mathlib.Omega.{arith}
use lib.ListN.{take, drop, length-drop, drop_of_length-le}
use Rattle.unicode_forms.specs.Utf8.{covers_all}
use Rattle.unicode_forms.specs.Forms.{text_of, ordered}
use Rattle.unicode_forms.specs.Meaning.{told}
use Rattle.unicode_forms.proofs.FormLaws.{rest, rest-start, rest-step, rest_end, rest-none, rest-full}
use Rattle.unicode_forms.proofs.form.Form.normalized.Goals as goal

pub loop-at-init : goal.loop-at-init
unfolding covers_all ordered
loop-at-init c = (omega arith, refl, (omega arith, refl, refl), rest-start 32 (text_of c.args.bytes.now))

pub read-requires : goal.read-requires
read-requires c = omega (arith, c.loop-at-test.true, c.loop-at.invariant.1)

pub returns-in_err-next : goal.returns-in_err-next
returns-in_err-next c =
    let l = c.loop-at in
    let o = some (take l.done.0 l.done.1.0) in
    ap told c.from_residual.ensures ∙ sym (rest-none 32 o) ∙ ap (rest 32 o) (sym c.in_err-next.ensures) ∙ l.invariant.3

pub returns-in_err-done : goal.returns-in_err-done
returns-in_err-done c =
    let l = c.loop-at in
    let b = c.args.bytes.now in
    let o = some (take l.done.0 l.done.1.0) in
    let next = c.in_ok-next in
    let left = text_of (drop (l.at + next.next.size) b) in
    ap told c.from_residual-in_err-done.ensures ∙ sym (rest-full 32 left) ∙ ap (λ (p : Option (List ℕ)). rest 32 p left) c.in_err-done.ensures
    ∙ sym (rest-step 32 o next.next.code next.next.size l.at b next.ensures) ∙ l.invariant.3

pub loop-at-preserved : goal.loop-at-preserved
loop-at-preserved c =
    let l = c.loop-at in
    let b = c.args.bytes.now in
    let o = some (take l.done.0 l.done.1.0) in
    let next = c.in_ok-next in
    let left = text_of (drop (l.at + next.next.size) b) in (
      omega (arith, length-drop l.at b, l.invariant.0, l.invariant.1, next.ensures.inside),
      l.invariant.1,
      c.in_ok-done.done.sound,
      ap (λ (p : Option (List ℕ)). rest 32 p left) c.in_ok-done.ensures
          ∙ sym (rest-step 32 o next.next.code next.next.size l.at b next.ensures) ∙ l.invariant.3,
    )

pub returns : goal.returns
returns c =
    let l = c.loop-at in
    let b = c.args.bytes.now in
    let o = some (take l.done.0 l.done.1.0) in
    sym (rest_end 32 o) ∙ ap (λ (x : List ℕ). rest 32 o (text_of x)) (sym (drop_of_length-le b {i = l.at} (omega (arith, l.invariant.1, c.loop-at-test.false)))) ∙ l.invariant.3
