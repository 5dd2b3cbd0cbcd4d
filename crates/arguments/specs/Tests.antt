-- The tests of what a caller lends, in the order of the reasons' numbers (docs/RULES.md, "Reasons to turn a call down", 9 to 13).
use Rattle.std.specs.Prelude.{◌||◌, List, ℕ, leb, ltb, length, get_or}
use Rattle.reading.specs.declared.Reason.TheVariants.{OutOfRange, ShortBuffer, FalsePartition, LiveOutsideFile, BadGoal}
use Rattle.network.specs.Network.{Network}
use Rattle.network.specs.Groups.{first_misplaced}
use Rattle.filter.specs.Filter.{outside, bad_goal, first_bad}
use Rattle.arguments.specs.Answers.{Answer, unless, unless_at, passed}

-- 9: an article's number is below the count of articles
abbrev pub article_test : ℕ → ℕ → Answer (Unit {0})
article_test article articles = unless (leb articles article) OutOfRange passed

-- 10: a buffer of this length has at least `size` elements
abbrev pub room_test : ℕ → ℕ → Answer (Unit {0})
room_test len size = unless (ltb len size) ShortBuffer passed

-- 9 and 10: a layer's number is in its range, and the buffer has room for its words
abbrev pub layer_test : ℕ → ℕ → ℕ → ℕ → ℕ → Answer (Unit {0})
layer_test k lowest highest len size = unless (ltb k lowest || ltb highest k) OutOfRange (unless (ltb len size) ShortBuffer passed)

-- 10 and 11: the groups that are lent have a byte for each article, and are a partition
abbrev pub groups_test : Network → List ℕ → Answer (Unit {0})
groups_test N groups = unless (ltb (length groups) N.articles) ShortBuffer (unless_at (first_misplaced N (λ u. get_or groups u 0)) FalsePartition passed)

-- 12 and 13: the live set is of the file's articles, and one goal is in order
abbrev pub pass_test : ℕ → ℕ → ℕ → ℕ → Answer (Unit {0})
pass_test articles order live goal = unless (outside articles live) LiveOutsideFile (unless (bad_goal order goal) BadGoal passed)

-- 13: every goal of a list is in order
abbrev pub goals_test : ℕ → List ℕ → Answer (Unit {0})
goals_test order goals = unless_at (first_bad order goals) BadGoal passed
