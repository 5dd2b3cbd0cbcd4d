-- `planner::search::shortest` meets its contract. The invariant: the arrays keep their lengths, the caller's words are as they were, the nogoods are
-- right, no count of rounds below k works the goal back, and the tables are those of the fitting.
use mathlib.Core.Path.{◌≡◌}
use Prim.Native.Nat.{ℕ, ◌<◌}
use lib.ListN.{length}
use Rattle.planning.specs.Meaning.{fitting_in}
use Rattle.extraction.specs.Extraction.{graph, Back, Nogoods, Fine}
use Rattle.planner.proofs.PlannerLaws.{Tabulated}
use Rattle.planner.proofs.search.shortest.Given as goal

abbrev pub invariant-loop-k : goal.invariant-loop-k
invariant-loop-k l =
    (length l.made ≡ 16) × (length l.table ≡ 8192) × (l.out ≡ l.initial.out) × Nogoods (graph l.vertices.needs l.vertices.gives l.members l.words l.job.start) l.table
    × ((i : ℕ) → i < l.k → Back (graph l.vertices.needs l.vertices.gives l.members l.words l.job.start) i l.job.goal → ⊥)
    × Tabulated (fitting_in l.job) l.job.horizon (graph l.vertices.needs l.vertices.gives l.members l.words l.job.start) × Fine (graph l.vertices.needs l.vertices.gives l.members l.words l.job.start) l.carriers
