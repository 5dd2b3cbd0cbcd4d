-- What the code's types mean.
use Rattle.std.specs.Prelude.{Result, Ok, Err}
use Rattle.reading.specs.declared.Refusal.{Refusal}
use Rattle.jobfile.specs.declared.ReadChoice.{ReadChoice}
use Rattle.network.specs.Network.{Network, listed}
use Rattle.arguments.specs.Answers.{Answer, refusal, value}

-- what the code's tests give: nothing, or the refusal
abbrev pub verdict_of : Answer (Unit {0}) → Result (Unit {0}) Refusal
verdict_of (refusal reason place) = Err (record { reason = reason; place = place })
verdict_of (value x) = Ok tt

-- the network of a choice file as read
abbrev pub network_in : ReadChoice → Network
network_in job = listed job.articles job.wishes job.clashes
