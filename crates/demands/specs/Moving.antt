-- What the user asks of one price that moves (docs/RULES.md, "Prices"), in words that no code computes with. proofs/Moving.antt proves it.
use Rattle.std.specs.Prelude.{◌≡◌, ◌≢◌, List, ℕ, ◌≤◌, ℤ, nat_abs, ◌-ℤ◌, get_or, ◌≤ℤ◌}
use Rattle.jobfile.specs.Job.{Job, names_of, size, wish_count, order, wishes, clashes, prices}
use Rattle.network.specs.Network.{network_of, Selection}
use Rattle.pricing.specs.Prices.{signed}
use Rattle.arguments.specs.Answers.{Said, refused_by, answered}
use Rattle.bill.specs.Price.{Bill, price_by}

-- ---- two jobs

-- the jobs differ only in the price of article a: all else that they state is the same. The price itself may be the same, too
pub record OnlyPrice (a : ℕ) (old new : Job (List ℕ)) : Type 0 where
  pub kind : old.kind ≡ new.kind
  pub articles : size old ≡ size new
  pub wish_count : wish_count old ≡ wish_count new
  pub order : order old ≡ order new
  pub wishes : wishes old ≡ wishes new
  pub clashes : clashes old ≡ clashes new
  pub names : names_of old.records ≡ names_of new.records
  pub others : (i : ℕ) → i ≢ a → get_or (prices old) i 0 ≡ get_or (prices new) i 0

-- there is at least one selection
abbrev pub Possible : Job (List ℕ) → Type 0
Possible job = (x : ℕ) × Selection (network_of job) (order job) x

-- ---- two amounts

-- by how much two amounts differ
abbrev pub difference : ℤ → ℤ → ℕ
difference a b = nat_abs (a -ℤ b)

-- a price goes from p to q, and a total from t to u: it goes no further than the price did, and never against its sign
pub record Follows (p q t u : ℤ) : Type 0 where
  pub most : difference t u ≤ difference p q
  pub rises : p ≤ℤ q → t ≤ℤ u
  pub falls : q ≤ℤ p → u ≤ℤ t

-- ---- two answers

-- the total of a bill, before tax, as its word spells it
abbrev pub before_tax : Bill ℕ → ℤ
before_tax bill = signed 64 bill.total

-- both calls answer, and the total goes with the price of article a
abbrev pub TotalsFollow : ℕ → Job (List ℕ) → Job (List ℕ) → Said (Bill ℕ) → Said (Bill ℕ) → Type 0
TotalsFollow a old new (answered b) (answered c) = Follows (price_by old a) (price_by new a) (before_tax b) (before_tax c)
TotalsFollow a old new (answered b) (refused_by number place) = ⊥
TotalsFollow a old new (refused_by number place) s = ⊥
