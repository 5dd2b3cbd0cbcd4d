-- What was asked of prices, over file bytes, rates and answers of the open call. What turns it down is among the demands (`demand-1-price`). Assumes
-- nothing.
use mathlib.Core.Path.{◌≡◌, refl, sym, ap, ap₂, subst, ◌∙◌}
use mathlib.Core.Bool.{Bool, true, false}
use mathlib.Core.List.{List}
use mathlib.Core.Option.{Option, none, some, none-ne-some}
use Prim.Native.Nat.{ℕ, ◌^◌, ◌≤◌}
use native.Mathlib.Omega.{arith}
use lib.Dec.{ltb}
use lib.IntN.{ℤ}
use lib.ListN.{get_or}
use lib.Signed.{◌≤ℤ◌}
use borrow.Author.Tests.{ltb-false, le-ltb}
use Rattle.sets.specs.First.{LeastFrom, Smallest}
use Rattle.reading.specs.Got.{got}
use Rattle.jobfile.specs.Layout.{choice}
use Rattle.jobfile.specs.Job.{Job, size, order, prices}
use Rattle.jobfile.specs.Read.{read_job, choices}
use Rattle.jobfile.specs.Valid.{Bytes}
use Rattle.jobfile.proofs.FileLaws.{each_at_lem}
use Rattle.jobfile.proofs.StatedLaws.{choice-stated, amounts-below}
use Rattle.network.specs.Network.{listed, network_of, Selection}
use Rattle.pricing.specs.Prices.{signed, word_of, total, whole_rate, tax_on, Cheapest, cheapest}
use Rattle.pricing.specs.Weights.{up, down}
use Rattle.pricing.proofs.AmountLaws.{le_up, up_le}
use Rattle.pricing.proofs.PriceLaws.{cheapest-right, some-cheapest}
use Rattle.arguments.specs.Answers.{on_job, after_tests, refused_by, answered, said, accepted}
use Rattle.arguments.specs.Tests.{groups_test, goals_test}
use Rattle.bill.specs.Price.{Bill, price_by, billed, price_in, in_words, price_words_of}
use Rattle.calls.specs.Choose.{chosen_for, choose_in, choose_of}
use Rattle.calls.specs.Compare.{compare_of}
use Rattle.demands.specs.Demands.{Exactly}
use Rattle.demands.specs.Pricing.{TaxRight}
use Rattle.demands.proofs.DemandLaws.{one_value}
use Rattle.demands.proofs.PriceLaws.{words_said, answer_by, bill-made, none_made, tax-right, total-most, total-spelt, tax-spelt}
use Rattle.demands.proofs.Demands.{demand-1-alike, demand-1-compare-result}

module _ (file : List ℕ) (rate : ℕ) {job : Job (List ℕ)} {end : ℕ} (e : read_job choices file ≡ got job end) where
  -- the call on the job of the file
  on-job : said (price_words_of file rate) ≡ words_said (price_in job rate)
  on-job = ap (λ g. words_said (on_job g (λ j. price_in j rate))) e

  -- there is no selection exactly if 14 is said; and it is said at place 0, whichever goal of the choice falls short
  pub price-none : rate ≤ 10000 → Exactly (said (price_words_of file rate) ≡ refused_by 14 0) ((x : ℕ) → Selection (network_of job) (order job) x → ⊥)
  price-none passes = (
    λ r x s.
        let (z, found, c) = some-cheapest (network_of job) (price_by job) (order job) x s in
        let (q, p) = none_made (billed (size job) (price_by job) rate) (ltb whole_rate rate) (cheapest (network_of job) (price_by job) (order job)) 0 (sym on-job ∙ r) in
        none-ne-some z (sym q ∙ found),
    λ h. on-job
        ∙ ap (λ (b : Bool). words_said (answer_by (billed (size job) (price_by job) rate) b (cheapest (network_of job) (price_by job) (order job)))) (le-ltb whole_rate rate passes)
        ∙ ap (λ (o : Option ℕ). words_said (answer_by (billed (size job) (price_by job) rate) false o)) (nothing (cheapest (network_of job) (price_by job) (order job)) (cheapest-right (network_of job) (price_by job) (order job)) h),
  )
    where
      nothing : (o : Option ℕ) → Smallest (Cheapest (network_of job) (price_by job) (order job)) 0 o → ((x : ℕ) → Selection (network_of job) (order job) x → ⊥) → o ≡ none
      nothing none w h = refl
      nothing (some x) w h = absurd (h x w.holds.selection)

  -- if there is one, and the rate passes, a bill is answered
  pub price-some : rate ≤ 10000 → (x : ℕ) → Selection (network_of job) (order job) x → (b : Bill ℕ) × (said (price_words_of file rate) ≡ answered b)
  price-some passes x s =
      let (z, found, c) = some-cheapest (network_of job) (price_by job) (order job) x s in
      (_, on-job ∙ ap₂ (λ (high : Bool) (o : Option ℕ). words_said (answer_by (billed (size job) (price_by job) rate) high o)) (le-ltb whole_rate rate passes) found)

  pub price-none-place : (place : ℕ) → said (price_words_of file rate) ≡ refused_by 14 place → place ≡ 0
  price-none-place place r = (none_made (billed (size job) (price_by job) rate) (ltb whole_rate rate) (cheapest (network_of job) (price_by job) (order job)) place (sym on-job ∙ r)).1

  -- ---- a selection is answered

  module _ {b : Bill ℕ} (told : said (price_words_of file rate) ≡ answered b) where
    abbrev price : ℕ → ℤ
    price = price_by job

    -- the rate passes, and what is told is the bill of the cheapest selection
    made : (x : ℕ) × (ltb whole_rate rate ≡ false) × (cheapest (network_of job) price (order job) ≡ some x) × (b ≡ in_words (billed (size job) price rate x))
    made = bill-made (billed (size job) price rate) (ltb whole_rate rate) (cheapest (network_of job) price (order job)) (sym on-job ∙ told)

    best : LeastFrom (Cheapest (network_of job) price (order job)) 0 b.selection
    best =
        let (x, high, found, is) = made in
        subst (λ (y : ℕ). LeastFrom (Cheapest (network_of job) price (order job)) 0 y) (sym (ap (λ (b : Bill ℕ). b.selection) is))
        (subst (λ (o : Option ℕ). Smallest (Cheapest (network_of job) price (order job)) 0 o) found (cheapest-right (network_of job) price (order job)))

    -- it is one
    pub price-selects : Selection (network_of job) (order job) b.selection
    price-selects = best.holds.selection

    -- no selection comes to less
    pub price-least : (x : ℕ) → Selection (network_of job) (order job) x → total (size job) price b.selection ≤ℤ total (size job) price x
    price-least x s = best.holds.least x s

    -- and of those that come to as much it has the smallest number
    pub price-smallest : (x : ℕ) → Selection (network_of job) (order job) x → total (size job) price x ≤ℤ total (size job) price b.selection → b.selection ≤ x
    price-smallest x s l =
        best.least x (record {
          selection = s;
          least = λ y t.
              let m = price-least y t in
              up_le (total (size job) price x) (total (size job) price y)
              (omega (arith, le_up (total (size job) price x) (total (size job) price b.selection) l, le_up (total (size job) price b.selection) (total (size job) price y) m));
        }) (omega arith)

    -- ---- its amounts, as their words spell them

    module _ (bytes : Bytes file) where
      small : (up (total (size job) price b.selection) ≤ 2 ^ 37) × (down (total (size job) price b.selection) ≤ 2 ^ 37)
      unfolding choice
      small =
          let ok = choice-stated file bytes e in
          total-most (size job) b.selection (prices job) (each_at_lem (λ c v. v ≤ c.limit) (record { bytes = 1; limit = 64 }) 0 (omega arith) choice.counts job.counts ok.counts 0)
          (amounts-below choice (get_or job.counts 1 0) 0 4 refl 0 job.records ok.records)

      sum : b.total ≡ word_of 64 (total (size job) price b.selection)
      sum = let (x, high, found, is) = made in ap (λ (b : Bill ℕ). b.total) is ∙ sym (ap (λ (b : Bill ℕ). word_of 64 (total (size job) price b.selection)) is)

      -- the total is the sum of the prices of its articles
      pub price-total : signed 64 b.total ≡ total (size job) price b.selection
      price-total = ap (signed 64) sum ∙ total-spelt (total (size job) price b.selection) small.0 small.1

      -- the tax is to the nearest cent, halves away from zero
      pub price-tax : TaxRight (signed 64 b.total) rate (signed 64 b.tax)
      price-tax =
          let (x, high, found, is) = made in
          let z = total (size job) price b.selection in
          let t : b.tax ≡ word_of 64 (tax_on z rate) = ap (λ (b : Bill ℕ). b.tax) is ∙ sym (ap (λ (b : Bill ℕ). word_of 64 (tax_on (total (size job) price b.selection) rate)) is) in
          let right : signed 64 b.tax ≡ tax_on z rate = ap (signed 64) t ∙ tax-spelt z rate small.0 small.1 (ltb-false whole_rate rate high) in
          subst (λ (q : ℤ). TaxRight (signed 64 b.total) rate q) (sym right) (subst (λ (q : ℤ). TaxRight q rate (tax_on z rate)) (sym price-total) (tax-right z rate))

-- ---- who leaves prices aside

-- files that are alike have the same choice, whatever their prices
pub prices-aside : (first second groups goals : List ℕ) (floor : ℕ) → said (compare_of first second) ≡ answered true → said (choose_of first groups goals floor) ≡ said (choose_of second groups goals floor)
prices-aside first second groups goals floor told =
    let (a, b, m, n, ea, eb, is) = demand-1-compare-result first second (ap accepted told) in
    let (size_same, wish-same, order_same, wishes-same, clashes-same) = (demand-1-alike a b).0 (one_value (sym is ∙ told)) in
    let network-same : network_of a ≡ network_of b = λ i. listed (size_same i) (wishes-same i) (clashes-same i) in
    ap (λ g. said (on_job g (λ job. choose_in job groups goals floor))) ea
    ∙ (λ i. said (after_tests (groups_test (network-same i) groups) (after_tests (goals_test (order_same i) goals) (chosen_for (network-same i) (λ u. get_or groups u 0) goals (order_same i) floor))))
    ∙ sym (ap (λ g. said (on_job g (λ job. choose_in job groups goals floor))) eb)
