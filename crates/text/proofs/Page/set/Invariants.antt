-- `text::Page::set` meets its contract. The invariant: the members below i come after the text of the page.
use mathlib.Core.Path.{◌≡◌}
use Rattle.text.specs.Text.{members}
use Rattle.text.specs.Meaning.{shown, extended}
use Rattle.text.proofs.Page.set.Given as goal

abbrev pub invariant-loop-i : goal.invariant-loop-i
invariant-loop-i l = shown l.done ≡ extended l.initial.done (members l.i l.s)
