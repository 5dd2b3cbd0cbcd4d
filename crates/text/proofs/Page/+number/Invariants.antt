-- `text::Page::number` meets its contract. The measure is the number: its tenth is less.
use Rattle.text.proofs.Page.+number.Given as goal

abbrev pub decreases-number : goal.decreases-number
decreases-number l = l.n
