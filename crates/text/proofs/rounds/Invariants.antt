-- `text::rounds` meets its contract: the three parts of the first line and the rounds come one after the other, and there is room for them.
-- The invariant: the rounds before i come after the first line.
use mathlib.Core.Path.{◌≡◌}
use Rattle.text.specs.Text.{round_texts}
use Rattle.text.specs.Meaning.{shown, extended}
use Rattle.text.proofs.rounds.Given as goal

abbrev pub invariant-loop-i : goal.invariant-loop-i
invariant-loop-i l = shown l.done ≡ extended l.initial.done (round_texts 32 l.i l.words)
