-- The filter looks at wishes only: it does not depend on the clashes. Assumes nothing.
use mathlib.Core.Path.{◌≡◌, refl, ap}
use mathlib.Core.Bool.{cond}
use mathlib.Core.List.{List, [], ◌∷◌}
use Prim.Native.Nat.{ℕ, suc}
use Rattle.sets.specs.Sets.{full, without}
use Rattle.network.specs.Network.{listed}
use Rattle.filter.specs.Filter.{share, contribution, total, others, supported, pass, passes, falls_short, first_short, set_aside}

pub pass-listed : (n : ℕ) (ws cs ds : List ℕ) (group : ℕ → ℕ) (live p : ℕ) → pass (listed n ws cs) group live p ≡ pass (listed n ws ds) group live p
unfolding pass supported others contribution share
pass-listed n ws cs ds group live p = refl

pub passes-listed : (n : ℕ) (ws cs ds : List ℕ) (group : ℕ → ℕ) (live : ℕ) (goals : List ℕ) → passes (listed n ws cs) group live goals ≡ passes (listed n ws ds) group live goals
unfolding passes pass supported others contribution share
passes-listed n ws cs ds group live [] = refl
passes-listed n ws cs ds group live (p ∷ ps) = passes-listed n ws cs ds group (pass (listed n ws cs) group live p) ps

pub total-listed : (n : ℕ) (ws cs ds : List ℕ) (group : ℕ → ℕ) (live p : ℕ) → total (listed n ws cs) group live p ≡ total (listed n ws ds) group live p
unfolding total contribution share
total-listed n ws cs ds group live p = refl

pub short-listed : (n : ℕ) (ws cs ds : List ℕ) (group : ℕ → ℕ) (live : ℕ) (goals : List ℕ) → first_short (listed n ws cs) group live goals ≡ first_short (listed n ws ds) group live goals
unfolding first_short falls_short total pass supported others contribution share
short-listed n ws cs ds group live [] = refl
short-listed n ws cs ds group live (p ∷ ps) =
    ap (λ (k : ℕ). cond (falls_short (listed n ws cs) group live p) 0 (suc k)) (short-listed n ws cs ds group (pass (listed n ws cs) group live p) ps)

pub aside-listed : (n : ℕ) (ws cs ds : List ℕ) (group : ℕ → ℕ) (goals : List ℕ) → set_aside (listed n ws cs) group goals ≡ set_aside (listed n ws ds) group goals
unfolding set_aside
aside-listed n ws cs ds group goals = ap (without (full n)) (passes-listed n ws cs ds group (full n) goals)
