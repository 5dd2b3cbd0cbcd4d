-- What the user asks of prices, in words that no code computes with. proofs/Pricing.antt proves it.
use Rattle.std.specs.Prelude.{ℕ, ◌+◌, ◌*◌, ◌≤◌, ◌<◌, ℤ}
use Rattle.pricing.specs.Weights.{up, down}

-- q is a / 10,000 to the nearest, halves up: it is no more than half above it, and less than half below it
pub record Rounded (a q : ℕ) : Type 0 where
  pub above : 2 * (10000 * q) ≤ 2 * a + 10000
  pub below : 2 * a < 2 * (10000 * q) + 10000

-- a tax is the total times the rate, divided by 10,000, to the nearest cent: on either side of zero by what total and tax are without their signs. So
-- halves go away from zero, and the tax is on the side that the total is on
pub record TaxRight (total : ℤ) (rate : ℕ) (tax : ℤ) : Type 0 where
  pub due : Rounded (up total * rate) (up tax)
  pub back : Rounded (down total * rate) (down tax)
