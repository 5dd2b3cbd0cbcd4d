-- What was asked of one price that moves, over file bytes, rates and answers of the open call. It rests on what the call promises (Pricing.antt), and not on
-- how the cheapest selection is found. Assumes nothing.
use mathlib.Core.Path.{◌≡◌, refl, sym, ap, ap₂, subst, subst₂, ◌∙◌}
use mathlib.Core.Logic.{◌≢◌}
use mathlib.Core.List.{List, [], ◌∷◌}
use Prim.Native.Nat.{ℕ, ◌^◌, ◌≤◌, ◌<◌}
use native.Mathlib.Decide.{ℕ_discrete}
use native.Mathlib.Omega.{arith}
use lib.IntN.{ℤ}
use lib.ListN.{length, get_or}
use lib.Seq.{ext_get_or}
use Rattle.reading.specs.Got.{got}
use Rattle.jobfile.specs.Layout.{choice}
use Rattle.jobfile.specs.Job.{Record, no_record, Job, size, wish_count, order, wishes, clashes, prices}
use Rattle.jobfile.specs.Read.{read_job, choices}
use Rattle.jobfile.specs.Write.{write}
use Rattle.jobfile.specs.Valid.{Bytes, Valid}
use Rattle.jobfile.proofs.FileLaws.{Body}
use Rattle.jobfile.proofs.StatedLaws.{choice-known, choice-counts, choice-head, choice-stated}
use Rattle.jobfile.proofs.Theorems.{body_of, exact, read_back}
use Rattle.network.specs.Network.{Network, listed, network_of, Selection}
use Rattle.pricing.specs.Prices.{signed, total, Cheapest}
use Rattle.arguments.specs.Answers.{Said, answered, said}
use Rattle.changes.specs.Change.{with_record}
use Rattle.changes.proofs.AlterLaws.{alter-here, alter-other, alter-map}
use Rattle.changes.proofs.ChangeLaws.{amount-here, name-here}
use Rattle.changes.proofs.FitLaws.{record-fits}
use Rattle.changes.proofs.LengthLaws.{sets-here, price-here}
use Rattle.changes.proofs.ByteLaws.{choice-bytes}
use Rattle.bill.specs.Price.{Bill, price_by, price_words_of}
use Rattle.demands.specs.Moving.{OnlyPrice, Possible, Follows, before_tax, TotalsFollow}
use Rattle.demands.proofs.MoveLaws.{follows_same, cheapest-follows}
use Rattle.demands.proofs.Pricing.{price-some, price-selects, price-least, price-total}

-- a bill is that of a cheapest selection
bill-cheapest : (file : List ℕ) (rate : ℕ) {job : Job (List ℕ)} {end : ℕ} (e : read_job choices file ≡ got job end) {b : Bill ℕ} → said (price_words_of file rate) ≡ answered b
    → Cheapest (network_of job) (price_by job) (order job) b.selection
bill-cheapest file rate e told = record { selection = price-selects file rate e told; least = price-least file rate e told }

-- two files that are accepted, whose jobs differ only in the price of article a
module _ (first second : List ℕ) (bytes : Bytes first) (bytes' : Bytes second) {old new : Job (List ℕ)} {m n : ℕ} (e : read_job choices first ≡ got old m) (e' : read_job choices second ≡ got new n)
    (a : ℕ) (only : OnlyPrice a old new) where
  -- so both have the same selections, and all other prices are the same
  same-network : network_of old ≡ network_of new
  same-network =
      let wishes-same : wishes old ≡ wishes new = only.wishes in
      let clashes-same : clashes old ≡ clashes new = only.clashes in
      λ i. listed (only.articles i) (wishes-same i) (clashes-same i)

  same-order : order old ≡ order new
  same-order = only.order

  same-prices : (i : ℕ) → i ≢ a → price_by old i ≡ price_by new i
  same-prices i d = let words : get_or (prices old) i 0 ≡ get_or (prices new) i 0 = only.others i d in ap (signed 32) words

  totals-follow : (rate rate' : ℕ) {b c : Bill ℕ} → said (price_words_of first rate) ≡ answered b → said (price_words_of second rate') ≡ answered c
      → Follows (price_by old a) (price_by new a) (before_tax b) (before_tax c)
  totals-follow rate rate' {b} {c} told told' =
      let cheap : Cheapest (network_of old) (price_by new) (order old) c.selection =
      subst₂ (λ (N : Network) (o : ℕ). Cheapest N (price_by new) o c.selection) (sym same-network) (sym same-order) (bill-cheapest second rate' e' told') in
      let total-of-b : before_tax b ≡ total (size old) (price_by old) b.selection = price-total first rate e told bytes in
      let total-of-c : before_tax c ≡ total (size old) (price_by new) c.selection = price-total second rate' e' told' bytes' ∙ ap (λ (k : ℕ). total k (price_by new) c.selection) (sym only.articles) in
      subst₂ (λ (t u : ℤ). Follows (price_by old a) (price_by new a) t u) (sym total-of-b) (sym total-of-c)
      (cheapest-follows (network_of old) (order old) a (price_by old) (price_by new) same-prices b.selection c.selection (bill-cheapest first rate e told) cheap)

  -- with at least one selection, and at any rates that are accepted, both calls answer; and the totals before tax differ by no more than that price did, and
  -- never against its sign
  pub one-price-moves : Possible old → (rate rate' : ℕ) → rate ≤ 10000 → rate' ≤ 10000 → TotalsFollow a old new (said (price_words_of first rate)) (said (price_words_of second rate'))
  one-price-moves (x, s) rate rate' passes passes' =
      let (b, told) = price-some first rate e passes x s in
      let (c, told') = price-some second rate' e' passes' x (subst₂ (λ (N : Network) (o : ℕ). Selection N o x) same-network same-order s) in
      subst₂ (λ (s t : Said (Bill ℕ)). TotalsFollow a old new s t) (sym told) (sym told') (totals-follow rate rate' told told')

  -- if the price is the same, so are the totals
  pub one-price-stays : price_by old a ≡ price_by new a → (rate rate' : ℕ) {b c : Bill ℕ} → said (price_words_of first rate) ≡ answered b → said (price_words_of second rate') ≡ answered c
      → before_tax b ≡ before_tax c
  one-price-stays same rate rate' {b} {c} told told' =
      follows_same (price_by old a) (before_tax b) (before_tax c) (subst (λ (q : ℤ). Follows (price_by old a) q (before_tax b) (before_tax c)) (sym same) (totals-follow rate rate' told told'))

-- ---- what the jobs can differ in

-- a job with another price of article a
abbrev with_price : ℕ → Record (List ℕ) → Record (List ℕ)
with_price v r = record { before = r.before; name = r.name; after = v ∷ [] }

abbrev repriced : ℕ → ℕ → Job (List ℕ) → Job (List ℕ)
repriced a v job = with_record a (with_price v) job

module _ (job : Job (List ℕ)) (ok : Body choice job) (a v : ℕ) where
  repriced-valid : v < 2 ^ 32 → Valid (repriced a v job)
  unfolding choice
  repriced-valid h = record-fits job ok a (with_price v) (λ r o. record { before = o.before; short = o.short; letters = o.letters; after = (h, tt) })

  repriced-only : OnlyPrice a job (repriced a v job)
  repriced-only = record {
    kind = refl;
    articles = refl;
    wish_count = refl;
    order = refl;
    wishes = sym (alter-map (λ r. get_or r.before 0 0) a (with_price v) (λ r. refl) job.records);
    clashes = sym (alter-map (λ r. get_or r.before 1 0) a (with_price v) (λ r. refl) job.records);
    names = sym (alter-map (λ r. r.name) a (with_price v) (λ r. refl) job.records);
    others = λ i d. amount-here job 0 i ∙ ap (λ (r : Record (List ℕ)). get_or r.after 0 0) (sym (alter-other a i (with_price v) job.records no_record d)) ∙ sym (amount-here (repriced a v job) 0 i);
  }

  repriced-price : a < size job → get_or (prices (repriced a v job)) a 0 ≡ v
  repriced-price there = amount-here (repriced a v job) 0 a ∙ ap (λ (r : Record (List ℕ)). get_or r.after 0 0) (alter-here a (with_price v) job.records no_record (omega (arith, ok.size, there)))

-- every price can move, and to every amount that has room in a file: there is a second file
pub one-price-fits : (first : List ℕ) → Bytes first → {old : Job (List ℕ)} {m : ℕ} → read_job choices first ≡ got old m → (a v : ℕ) → a < size old → v < 2 ^ 32
    → (second : List ℕ) × (new : Job (List ℕ)) × (n : ℕ) × Bytes second × (read_job choices second ≡ got new n) × OnlyPrice a old new × (get_or (prices new) a 0 ≡ v)
unfolding choice
one-price-fits first bytes {old} e a v there small =
    let ok = choice-stated first bytes e in
    let new = repriced a v old in
    let valid = repriced-valid old ok a v small in
    (write new, new, length (write new), choice-bytes new (body_of new valid (choice-known ok)), read_back choices new valid (ap choices ok.kind), repriced-only old ok a v, repriced-price old ok a v there)

-- jobs that differ only in a price, and in that neither, are the same
only_same : (old new : Job (List ℕ)) → Body choice old → Body choice new → (a : ℕ) → OnlyPrice a old new → get_or (prices old) a 0 ≡ get_or (prices new) a 0 → old ≡ new
only_same old new ok ok' a only e = λ t. record { kind = only.kind t; counts = counts t; heads = heads t; records = records t }
  where
    counts : old.counts ≡ new.counts
    counts = choice-counts old.counts ok.counts ∙ ap₂ (λ (n w : ℕ). n ∷ w ∷ []) only.articles only.wish_count ∙ sym (choice-counts new.counts ok'.counts)

    heads : old.heads ≡ new.heads
    heads = choice-head (wish_count old) old.heads ok.heads ∙ ap (λ (o : ℕ). o ∷ []) only.order ∙ sym (choice-head (wish_count new) new.heads ok'.heads)

    price : (i : ℕ) → Dec (i ≡ a) → get_or (prices old) i 0 ≡ get_or (prices new) i 0
    price i (yes q) = ap (λ (k : ℕ). get_or (prices old) k 0) q ∙ e ∙ ap (λ (k : ℕ). get_or (prices new) k 0) (sym q)
    price i (no d) = only.others i d

    at : (i : ℕ) → i < size old → i < size new → get_or old.records i no_record ≡ get_or new.records i no_record
    at i l l' =
        let before = sets-here old ok i l ∙ ap₂ (λ (w c : List ℕ). get_or w i 0 ∷ get_or c i 0 ∷ []) only.wishes only.clashes ∙ sym (sets-here new ok' i l') in
        let name = sym (name-here old i) ∙ ap (λ (s : List (List ℕ)). get_or s i []) only.names ∙ name-here new i in
        let after = price-here old ok i l ∙ ap (λ (v : ℕ). v ∷ []) (price i (ℕ_discrete i a)) ∙ sym (price-here new ok' i l') in
        λ t. record { before = before t; name = name t; after = after t }

    records : old.records ≡ new.records
    records = ext_get_or no_record old.records new.records (ok.size ∙ only.articles ∙ sym ok'.size) (λ i l. at i (omega (arith, ok.size, l)) (omega (arith, ok.size, l, only.articles)))

-- so if the price is the same, the files are: there is nothing else that they can differ in
pub one-price-only : (first second : List ℕ) → Bytes first → Bytes second → {old new : Job (List ℕ)} {m n : ℕ} → read_job choices first ≡ got old m → read_job choices second ≡ got new n
    → (a : ℕ) → OnlyPrice a old new → get_or (prices old) a 0 ≡ get_or (prices new) a 0 → first ≡ second
one-price-only first second bytes bytes' {old} {new} e e' a only same =
    exact choices first bytes e ∙ ap write (only_same old new (choice-stated first bytes e) (choice-stated second bytes' e') a only same) ∙ sym (exact choices second bytes' e')
