-- The laws that the demands on prices rest on. Assumes nothing.
use mathlib.Core.Path.{◌≡◌, refl, sym, ap, ap₂}
use mathlib.Core.Logic.{⊎_elim}
use mathlib.Core.Bool.{Bool, true, false}
use mathlib.Core.List.{List, [], ◌∷◌}
use mathlib.Core.Option.{Option, none, some}
use Prim.Native.Nat.{ℕ, suc, ◌*◌, ◌^◌, ◌≤◌, ◌<◌}
use native.Mathlib.Nat.{mul-le-mul_left}
use native.Mathlib.Decide.{dec_lt}
use native.Mathlib.Omega.{arith}
use lib.Dec.{ltb}
use lib.IntN.{ℤ, pos, negsuc, sub_ℕ}
use lib.ListN.{get_or}
use Rattle.reading.specs.declared.Reason.TheVariants.{HighRate}
use Rattle.pricing.specs.Prices.{signed, word_of, total, whole_rate, nearest, tax_on}
use Rattle.pricing.specs.Weights.{up, down, over}
use Rattle.pricing.proofs.AmountLaws.{negated-up, sub_cases, parts_low, parts-high, words_spell}
use Rattle.pricing.proofs.WeightLaws.{over-most}
use Rattle.pricing.proofs.PriceLaws.{total-sum}
use Rattle.arguments.specs.Answers.{Answer, refusal, value, on_value, unless, passed, after_tests, Said, refused_by, answered, said, accepted}
use Rattle.bill.specs.Price.{Bill, bill_or, rate_test, in_words}
use Rattle.demands.specs.Demands.{Exactly, Refuses, high_rate}
use Rattle.demands.specs.Pricing.{Rounded, TaxRight}
use Rattle.demands.proofs.DemandLaws.{same_number, same_place, one_value, no-refusal, Checks, checks-passed, checks-unless, below-exactly}

-- ---- answers

-- what is said of amounts, in words
abbrev pub words_said : Answer (Bill ℤ) → Said (Bill ℕ)
words_said a = said (on_value a (λ bill. value (in_words bill)))

-- in words the same is turned down
pub words-refused : (a : Answer (Bill ℤ)) (number place : ℕ) → Exactly (Refuses (words_said a) number place) (Refuses (said a) number place)
words-refused (refusal reason p) number place = (
  λ w. (ap₂ (λ (n q : ℕ). refused_by n q) (same_number w.0) (same_place w.0), w.1),
  λ w. (ap₂ (λ (n q : ℕ). refused_by n q) (same_number w.0) (same_place w.0), w.1),
)
words-refused (value b) number place = (λ w. absurd (no-refusal w.0), λ w. absurd (no-refusal w.0))

pub words-accepted : (a : Answer (Bill ℤ)) → accepted (words_said a) ≡ accepted (said a)
words-accepted (refusal reason place) = refl
words-accepted (value b) = refl

pub rate-checks : (rate : ℕ) → Checks (rate_test rate) (high_rate rate ∷ [])
rate-checks rate = checks-unless (ltb whole_rate rate) (whole_rate < rate) HighRate refl (below-exactly whole_rate rate) checks-passed

pub bill-taken : (o : Option ℕ) (bill : ℕ → Bill ℤ) → accepted (said (bill_or o bill)) ≡ true
bill-taken none bill = refl
bill-taken (some x) bill = refl

-- a bill is said if the rate passes and a selection was found; 14 if none was
module _ (bill : ℕ → Bill ℤ) where
  abbrev pub answer_by : Bool → Option ℕ → Answer (Bill ℤ)
  answer_by high o = after_tests (unless high HighRate passed) (bill_or o bill)

  pub bill-made : (high : Bool) (o : Option ℕ) {b : Bill ℕ} → words_said (answer_by high o) ≡ answered b → (x : ℕ) × (high ≡ false) × (o ≡ some x) × (b ≡ in_words (bill x))
  bill-made true o e = absurd (no-refusal (sym e))
  bill-made false none e = absurd (no-refusal (sym e))
  bill-made false (some x) e = (x, refl, refl, sym (one_value e))

  pub none_made : (high : Bool) (o : Option ℕ) (place : ℕ) → words_said (answer_by high o) ≡ refused_by 14 place → (o ≡ none) × (place ≡ 0)
  none_made true o place e = absurd (let z : ◌≡◌ {A = ℕ} 17 14 = same_number e in omega (arith, z))
  none_made false none place e = (refl, sym (same_place e))
  none_made false (some x) place e = absurd (no-refusal e)

-- ---- the tax

nearest-right : (a : ℕ) → Rounded a (nearest a whole_rate)
nearest-right a = record { above = omega arith; below = omega arith }

pub tax-right : (z : ℤ) (rate : ℕ) → TaxRight z rate (tax_on z rate)
tax-right (pos t) rate = record { due = nearest-right (t * rate); back = record { above = omega arith; below = omega arith } }
tax-right (negsuc t) rate =
    let (u, d) = negated-up (pos (nearest (suc t * rate) whole_rate)) in
    let r = nearest-right (suc t * rate) in
    record { due = record { above = omega (arith, u); below = omega (arith, u) }; back = record { above = omega (arith, d, r.above); below = omega (arith, d, r.below) } }

-- ---- amounts are what their words spell

sub-most : (a b : ℕ) → (up (sub_ℕ a b) ≤ a) × (down (sub_ℕ a b) ≤ b)
sub-most a b =
    ⊎_elim (λ (l, e). (omega (arith, ap (λ (z : ℤ). up z) e), omega (arith, l, ap (λ (z : ℤ). down z) e)))
    (λ (l, e). (omega (arith, l, ap (λ (z : ℤ). up z) e), omega (arith, ap (λ (z : ℤ). down z) e))) (sub_cases a b)

-- a price of 32 bits
price-most : (v : ℕ) → v < 2 ^ 32 → (up (signed 32 v) ≤ 2 ^ 31) × (down (signed 32 v) ≤ 2 ^ 31)
price-most v h = go (dec_lt v (2 ^ 31))
  where
    go : Dec (v < 2 ^ 31) → (up (signed 32 v) ≤ 2 ^ 31) × (down (signed 32 v) ≤ 2 ^ 31)
    go (yes l) = let (u, d) = parts_low 32 v l in (omega (arith, u, l), omega (arith, d))
    go (no l) = let (u, d) = parts-high 32 v (omega (arith, l)) h in (omega (arith, u), omega (arith, d, l))

-- a total of no more than 64 articles
pub total-most : (n x : ℕ) (prices : List ℕ) → n ≤ 64 → ((i : ℕ) → get_or prices i 0 < 2 ^ 32)
    → (up (total n (λ i. signed 32 (get_or prices i 0)) x) ≤ 2 ^ 37) × (down (total n (λ i. signed 32 (get_or prices i 0)) x) ≤ 2 ^ 37)
total-most n x prices few fit =
    let price : ℕ → ℤ = λ i. signed 32 (get_or prices i 0) in
    let e = total-sum n price x in
    let (u, d) = sub-most (over n x (λ i. up (price i))) (over n x (λ i. down (price i))) in
    let a = over-most n x (2 ^ 31) (λ i. up (price i)) (λ i. (price-most (get_or prices i 0) (fit i)).0) in
    let b = over-most n x (2 ^ 31) (λ i. down (price i)) (λ i. (price-most (get_or prices i 0) (fit i)).1) in
    (omega (arith, ap (λ (z : ℤ). up z) e, u, a, few), omega (arith, ap (λ (z : ℤ). down z) e, d, b, few))

-- and its tax
rounded-most : (t rate q : ℕ) → t ≤ 2 ^ 37 → rate ≤ 10000 → Rounded (t * rate) q → q ≤ 2 ^ 38
rounded-most t rate q h r w = let m : t * rate ≤ t * 10000 = mul-le-mul_left t r in omega (arith, h, m, w.above)

pub tax-spelt : (z : ℤ) (rate : ℕ) → up z ≤ 2 ^ 37 → down z ≤ 2 ^ 37 → rate ≤ 10000 → signed 64 (word_of 64 (tax_on z rate)) ≡ tax_on z rate
tax-spelt z rate hu hd r =
    let w = tax-right z rate in
    words_spell 64 (tax_on z rate) (omega arith) (omega (arith, rounded-most (up z) rate (up (tax_on z rate)) hu r w.due)) (omega (arith, rounded-most (down z) rate (down (tax_on z rate)) hd r w.back))

pub total-spelt : (z : ℤ) → up z ≤ 2 ^ 37 → down z ≤ 2 ^ 37 → signed 64 (word_of 64 z) ≡ z
total-spelt z hu hd = words_spell 64 z (omega arith) (omega (arith, hu)) (omega (arith, hd))
