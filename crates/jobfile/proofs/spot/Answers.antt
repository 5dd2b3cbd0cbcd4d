-- `jobfile::spot` meets its contract.
use mathlib.Core.Path.{ap, ◌∙◌}
use Rattle.reading.specs.Items.{spots}
use Rattle.jobfile.specs.Read.{read, either}
use Rattle.jobfile.specs.Meaning.{spot_by}
use Rattle.jobfile.proofs.ReadLaws.{names-spot}
use Rattle.jobfile.proofs.spot.Goals as goal

pub returns-in-Ok-clause-value : goal.returns-in-Ok-clause-value
returns-in-Ok-clause-value c =
    c.spot_at.ensures ∙ ap (λ v. spot_by v c.args.number) c.in-Ok.ensures.value ∙ names-spot (read spots either c.args.file.now) c.in-Ok.ensures.few c.args.number
