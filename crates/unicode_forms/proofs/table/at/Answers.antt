-- `unicode_forms::table::at` meets its contract: the constant is the table.
use mathlib.Core.Path.{refl}
use Rattle.unicode_forms.specs.Table.{table}
use Rattle.unicode_forms.proofs.table.at.Goals as goal

pub returns : goal.returns
unfolding table
returns c = refl
