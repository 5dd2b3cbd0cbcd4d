-- `calls::answer_of` meets its contract.
use mathlib.Core.Path.{ap, sym, ◌∙◌}
use native.Mathlib.Omega.{arith}
use Rattle.reading.specs.declared.Reason.TheVariants.{NameNotFound}
use Rattle.names.specs.Meaning.{holder_of}
use Rattle.arguments.specs.Answers.{found_or, said, refusal_said}
use Rattle.calls.proofs.ToldLaws.{seen, found-said}
use Rattle.calls.proofs.answer_of.Goals as goal

pub returns-in-Some : goal.returns-in-Some
returns-in-Some c = found-said NameNotFound c.in-Some.is (seen (λ values is. omega arith)) (omega arith)

pub returns-in-None : goal.returns-in-None
returns-in-None c = ap refusal_said c.at.ensures ∙ sym (ap (λ n. said (found_or (holder_of n) NameNotFound)) c.in-None.is)
