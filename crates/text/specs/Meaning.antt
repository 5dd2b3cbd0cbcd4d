-- What the code's types mean: a page.
use Rattle.std.specs.Prelude.{List, ◌++◌, ℕ, take}
use Rattle.text.specs.declared.Page.{Page}

-- the text on a page
abbrev pub shown : Page → List ℕ
shown page = take page.len page.bytes

-- a text after that of a page, as far as there is room
abbrev pub extended : Page → List ℕ → List ℕ
extended page text = take 2048 (shown page ++ text)
