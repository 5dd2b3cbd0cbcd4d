-- `reachability::try_step` meets its contract.
use mathlib.Core.Path.{◌∙◌}
use Rattle.sets.proofs.Bits.{without-none}
use Rattle.reachability.proofs.StateLaws.{grown-none}
use Rattle.reachability.proofs.try_step.Goals as goal

pub returns-then-without-ne0 : goal.returns-then-without-ne0
returns-then-without-ne0 c = (
  grown-none c.args.states.now c.args.count c.requires.0,
  λ h. absurd (c.if-without-ne0.true (c.without.ensures ∙ without-none c.args.needs c.args.facts h)),
)
