-- `text::Page::say` meets its contract. The invariant: the bytes in front of the next one come after the text of the page.
use mathlib.Core.Path.{◌≡◌}
use lib.ListN.{take}
use Rattle.text.specs.Meaning.{shown, extended}
use Rattle.text.proofs.Page.say.Given as goal

abbrev pub invariant-loop-byte : goal.invariant-loop-byte
invariant-loop-byte l = shown l.done ≡ extended l.initial.done (take l.byte-index l.text)
