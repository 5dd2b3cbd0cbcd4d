-- When two jobs are alike (docs/RULES.md, "Names and comparison").
use Rattle.std.specs.Prelude.{Bool, ◌&&◌, eqb}
use Rattle.sets.specs.Lists.{same_list}
use Rattle.jobfile.specs.Job.{Job, size, wish_count, order, wishes, clashes}

-- two choices are alike if their counts, their orders and all their wishes and clashes agree; names and prices play no part
abbrev pub alike : {N : Type 0} → Job N → Job N → Bool
alike a b = eqb (size a) (size b) && (eqb (wish_count a) (wish_count b) && (eqb (order a) (order b) && (same_list (wishes a) (wishes b) && same_list (clashes a) (clashes b))))
