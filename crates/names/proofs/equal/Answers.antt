-- `names::equal` meets its contract.
use mathlib.Core.Path.{sym, ap₂, ◌∙◌}
use Rattle.sets.proofs.Lists.{pointwise_same}
use Rattle.unicode_forms.specs.Forms.{same_form}
use Rattle.unicode_forms.proofs.FormLaws.{told_none}
use Rattle.names.proofs.EqualLaws.{bytes_same, forms-same, forms-differ}
use Rattle.names.proofs.equal.Goals as goal

pub returns-then-eq : goal.returns-then-eq
returns-then-eq c = c.if-eq.true ∙ bytes_same c.args.a.now c.args.b.now (sym (pointwise_same _ _) ∙ sym c.if-eq.ensures)

pub returns-then-is_some : goal.returns-then-is_some
returns-then-is_some c =
    let differ = sym (pointwise_same _ _) ∙ sym c.if-eq.ensures in
    c.same.ensures ∙ ap₂ same_form c.normalized.ensures c.requires.1 ∙ forms-same 32 c.args.a.now c.args.b.now c.requires.0 differ

pub returns-else-is_some : goal.returns-else-is_some
returns-else-is_some c =
    let differ = sym (pointwise_same _ _) ∙ sym c.if-eq.ensures in
    let gone = told_none c.args.wanted c.if-is_some.ensures in
    c.if-is_some.false ∙ forms-differ 32 c.args.a.now c.args.b.now c.requires.0 differ (sym c.requires.1 ∙ gone)
