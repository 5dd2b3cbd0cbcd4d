-- What the code answers an order by: the network of the file, and how many wishes it has.
use Rattle.std.specs.Prelude.{ℕ, ◌^◌, leb}
use Rattle.reading.specs.declared.Reason.TheVariants.{OrderOutsideFile}
use Rattle.network.specs.Network.{Network}
use Rattle.choice.specs.Choice.{offered}
use Rattle.arguments.specs.Answers.{Answer, unless}
use Rattle.calls.specs.Choose.{Chosen, searched}

abbrev pub order_over : Network → ℕ → ℕ → Answer Chosen
order_over N wish_count wanted = unless (leb (2 ^ wish_count) wanted) OrderOutsideFile (searched (offered N wanted))
