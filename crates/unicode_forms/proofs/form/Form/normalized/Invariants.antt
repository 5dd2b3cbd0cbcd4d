-- `unicode_forms::form::Form::normalized` meets its contract. The invariant: with the characters of the bytes that are left, the form so far becomes that of all.
use mathlib.Core.Path.{◌≡◌}
use mathlib.Core.Option.{some}
use Prim.Native.Nat.{◌-◌, ◌≤◌}
use lib.ListN.{length, drop, take}
use Rattle.unicode_forms.specs.Forms.{text_of, form, Sound}
use Rattle.unicode_forms.specs.Meaning.{short}
use Rattle.unicode_forms.proofs.FormLaws.{rest}
use Rattle.unicode_forms.proofs.form.Form.normalized.Given as goal

abbrev pub invariant-loop-at : goal.invariant-loop-at
invariant-loop-at l = (l.at ≤ l.n) × (l.n ≡ length l.bytes) × Sound 32 l.done.0 (take l.done.0 l.done.1.0) × (rest 32 (some (take l.done.0 l.done.1.0)) (text_of (drop l.at l.bytes)) ≡ short 32 (form l.bytes))

abbrev pub decreases-loop-at : goal.decreases-loop-at
decreases-loop-at l = l.n - l.at
