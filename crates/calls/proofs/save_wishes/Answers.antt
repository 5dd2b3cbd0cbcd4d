-- `calls::save_wishes` meets its contract: what is stored is the draft with that change.
use mathlib.Core.Path.{ap, ◌∙◌}
use Rattle.drafts.specs.Draft.{stored}
use Rattle.calls.proofs.save_wishes.Goals as goal

pub returns : goal.returns
returns c =
    c.store.ensures ∙ ap (stored c.args.to.now) c.wishes-draft.ensures
