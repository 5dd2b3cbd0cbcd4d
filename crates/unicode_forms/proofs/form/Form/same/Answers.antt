-- `unicode_forms::form::Form::same` meets its contract.
use mathlib.Core.Path.{◌∙◌}
use Rattle.sets.proofs.Lists.{pointwise_same}
use Rattle.unicode_forms.proofs.form.Form.same.Goals as goal

pub returns-in-Some-Some : goal.returns-in-Some-Some
returns-in-Some-Some c = rw (c.in-Some-Some.is-0, c.in-Some-Some.is-1) (c.eq.ensures ∙ pointwise_same _ _)
