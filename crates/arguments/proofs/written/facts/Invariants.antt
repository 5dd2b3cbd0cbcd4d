-- `arguments::written::facts` meets its contract. The invariant: the words in front of word i are written, and the others are as they were.
use Rattle.sets.proofs.Filled.{Pasted}
use Rattle.arguments.proofs.written.facts.Given as goal

abbrev pub invariant-loop-i : goal.invariant-loop-i
invariant-loop-i l = Pasted l.initial.words 0 l.mutex l.words l.i
