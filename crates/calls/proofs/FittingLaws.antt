-- Layers and plan on a file: from what the reader, the tests and the planner told to what the rules answer. Assumes nothing.
use mathlib.Core.Path.{◌≡◌, refl, ap, ap₂, sym, ◌∙◌, subst}
use mathlib.Core.List.{List, ◌++◌}
use mathlib.Core.Option.{Option, none, some}
use Prim.Native.Nat.{ℕ, zero, suc, ◌+◌, ◌-◌, ◌^◌, ◌≤◌, ◌<◌}
use native.Mathlib.Decide.{dec_lt}
use native.Mathlib.Nat.{zero-add}
use native.Mathlib.Omega.{arith}
use lib.ListN.{length, get_or, take, drop}
use lib.Pow.{pow_mono}
use lib.Seq.{ext_get_or, get_or-take, length-take-le, take_all, paste}
use Rattle.sets.specs.Ranges.{list_to}
use Rattle.sets.proofs.Ranges.{list_length, list_at, list-past}
use Rattle.reading.specs.declared.Reason.TheVariants.{NoPlan}
use Rattle.reading.specs.declared.Refusal.{Refusal}
use Rattle.reading.specs.Got.{Got}
use Rattle.reading.specs.Items.{spots}
use Rattle.std.specs.Prelude.{Result, Ok, Err}
use Rattle.jobfile.specs.declared.ReadFitting.{ReadFitting}
use Rattle.jobfile.specs.Job.{Job}
use Rattle.jobfile.specs.Meaning.{padded, as_fitting, fitting_read}
use Rattle.jobfile.specs.Read.{read, read_job, fittings}
use Rattle.jobfile.proofs.ReadLaws.{padded-at}
use Rattle.planning.specs.Rounds.{Fitting, fitting_of, fewest}
use Rattle.planning.specs.Layers.{Layer, vertices, facts_over, fact_layer, round_over, round_layer}
use Rattle.planning.specs.Back.{Sized}
use Rattle.planning.proofs.WordLaws.{words-below}
use Rattle.planning.proofs.LayerLaws.{facts_below}
use Rattle.planning.specs.Meaning.{fitting_in}
use Rattle.layers.specs.Meaning.{layer, roomy}
use Rattle.layers.proofs.LayerCode.{facts-length, rounds-length}
use Rattle.std.specs.Prelude as Prelude
use Rattle.std.specs.Prelude.{Some, None}
use Rattle.planner.specs.Meaning.{planned_by}
use Rattle.planner.specs.Planner.{Words}
use Rattle.arguments.specs.Answers.{Answer, refusal, value, on_job, after_tests, found_or, Said, answered, said, refusal_said, Left, leaving}
use Rattle.arguments.specs.Tests.{room_test, layer_test}
use Rattle.arguments.specs.Meaning.{verdict_of}
use Rattle.arguments.proofs.TestLaws.{test-refused, through}
use Rattle.calls.specs.Layers.{fact_layer_of, round_layer_of}
use Rattle.calls.specs.Plan.{plan_in, plan_of, WordsIn, Buffer}
use Rattle.calls.proofs.ToldLaws.{values, number, number-said}
use Rattle.arguments.proofs.FileLaws.{file-down, job-down, on-job}
use Rattle.calls.proofs.CallLaws.{FittingRead}

-- ---- the layers

-- a list that is put into an array is the front of that array
padded-front : (n size : ℕ) (l : List ℕ) → length l ≡ n → n ≤ size → take n (padded size l) ≡ l
padded-front n size l e room =
    let len : length (padded size l) ≡ size = list_length size (λ i. get_or l i 0) in
    ext_get_or 0 (take n (padded size l)) l (length-take-le n (padded size l) (omega (arith, len)) ∙ sym e) (λ i h.
    let small : i < n = omega (arith, length-take-le n (padded size l) (omega (arith, len))) in
    get_or-take n (padded size l) i 0 small ∙ list_at size (λ j. get_or l j 0) 0 i (omega arith))

module _ (F : Fitting) where
  -- the words of facts are sets of facts
  fact-words-below : (k i : ℕ) → get_or (fact_layer 32 F k).words i 0 < 2 ^ 32
  unfolding fact_layer facts_over
  fact-words-below zero i = go (dec_lt i 32)
    where
      go : Dec (i < 32) → get_or (list_to {A = ℕ} 32 (λ p. 0)) i 0 < 2 ^ 32
      go (yes l) = omega (arith, list_at {A = ℕ} 32 (λ p. 0) 0 i l)
      go (no l) = omega (arith, list-past {A = ℕ} 32 (λ p. 0) 0 i (omega arith))
  fact-words-below (suc k) i = words-below 32 _ _ i

-- what a fact layer in arrays has room for
module _ (F : Fitting) (k : ℕ) {m : ℕ} {ws : List ℕ} (e : layer m ws ≡ roomy 64 (fact_layer 32 F k)) where
  pub facts-fit : Sized 32 F → m < 2 ^ 32
  facts-fit ok = omega (arith, ap (λ L. L.members) e, facts_below 32 F ok k, pow_mono ok.room)

  pub words-fit : (i : ℕ) → i < 32 → get_or ws i 0 < 2 ^ 32
  words-fit i l =
      omega (arith, ap (λ L. get_or L.words i 0) e, padded-at 64 (fact_layer 32 F k).words (omega (arith, facts-length 32 F k)) i, fact-words-below F k i)

-- A call for layer k of a file, which `draw` gives of its fitting: k is tested from `lowest` on, and the buffer for `size` words.
module _ (draw : Fitting → Layer) (lowest size : ℕ) (f old : List ℕ) (k : ℕ) where
  abbrev layer_of : Fitting → Answer Layer
  layer_of F = after_tests (layer_test k lowest F.horizon (length old) size) (value (draw F))

  -- what is left of an answer
  abbrev left : Answer Layer → Left ℕ
  left a = leaving (λ layer. layer.words) (λ layer. layer.members) old a

  abbrev on_file : Answer Layer
  on_file = on_job (read_job fittings f) (λ job. layer_of (fitting_of job))

  pub layer-down : {v : Result ReadFitting Refusal} {x : Refusal} → v ≡ fitting_read (read spots fittings f) → v ≡ Err x → record { answer = refusal_said x; buffer = old } ≡ left on_file
  layer-down p q = ap left (job-down (λ job. layer_of (fitting_of job)) (file-down as_fitting f fittings p q))

  module _ (r : ReadFitting) (R : FittingRead f r) {v : Result (Unit {0}) Refusal} (e : v ≡ verdict_of (layer_test k lowest r.horizon (length old) size)) where
    from-file : layer_of (fitting_in r) ≡ on_file
    from-file = ap layer_of R.fitting ∙ on-job (λ job. layer_of (fitting_of job)) R.is

    pub layer-stopped : {x : Refusal} → v ≡ Err x → record { answer = refusal_said x; buffer = old } ≡ left on_file
    layer-stopped q = ap left (test-refused (layer_test k lowest r.horizon (length old) size) (value (draw (fitting_in r))) e q ∙ from-file)

    -- the words of the layer were copied to the front, and x was handed on
    layer-made : (ws : List ℕ) {x : ℕ} {new : List ℕ} → v ≡ Ok tt → take size ws ≡ (draw (fitting_in r)).words → length (draw (fitting_in r)).words ≡ size → new ≡ paste old 0 ws size
        → x ≡ (draw (fitting_in r)).members → record { answer = answered x; buffer = new } ≡ left on_file
    layer-made ws q words many wrote told =
        let same = wrote ∙ ap₂ (λ (ws : List ℕ) (n : ℕ). ws ++ drop n old) words (zero-add size ∙ sym many) in
        ap₂ (λ (x : ℕ) (b : List ℕ). record { answer = answered x; buffer = b }) told same
        ∙ ap left (through (layer_test k lowest r.horizon (length old) size) (value (draw (fitting_in r))) e q ∙ from-file)

module _ (f old : List ℕ) (k : ℕ) (r : ReadFitting) (R : FittingRead f r) where
  -- layer j was made, and x handed on
  pub facts-made : {v : Result (Unit {0}) Refusal} {x j m : ℕ} {ws new : List ℕ} → v ≡ verdict_of (layer_test k 0 r.horizon (length old) 32) → v ≡ Ok tt → layer m ws ≡ roomy 64 (fact_layer 32 (fitting_in r) j) → new ≡ paste old 0 ws 32
      → j ≡ k → x ≡ m → record { answer = answered x; buffer = new } ≡ fact_layer_of f k old
  facts-made {m = m} {ws = ws} e q drawn wrote asked told =
      let L = fact_layer 32 (fitting_in r) k in
      let many : length L.words ≡ 32 = facts-length 32 (fitting_in r) k in
      let made : layer m ws ≡ roomy 64 L = drawn ∙ ap (λ (i : ℕ). roomy 64 (fact_layer 32 (fitting_in r) i)) asked in
      layer-made (λ F. fact_layer 32 F k) 0 32 f old k r R e ws q (ap (λ M. take 32 M.words) made ∙ padded-front 32 64 L.words many (omega arith)) many wrote (told ∙ ap (λ M. M.members) made)

  -- the round layer over fact layer j was made, and x handed on
  abbrev round_after : ℕ → Layer
  round_after i = round_over 32 (vertices 32 (fitting_in r)) (32 + r.steps) (fact_layer 32 (fitting_in r) i)

  pub vertices-made : {v : Result (Unit {0}) Refusal} {x j m : ℕ} {ws new : List ℕ} → v ≡ verdict_of (layer_test k 1 r.horizon (length old) 64) → v ≡ Ok tt → layer m ws ≡ round_after j → new ≡ paste old 0 ws 64
      → j ≡ k - 1 → x ≡ m → record { answer = answered x; buffer = new } ≡ round_layer_of f k old
  vertices-made {m = m} {ws = ws} e q drawn wrote asked told =
      let L = round_layer 32 (fitting_in r) k in
      let many : length L.words ≡ 64 = rounds-length 32 (fitting_in r) k in
      let made : layer m ws ≡ L = drawn ∙ ap round_after asked in
      layer-made (λ F. round_layer 32 F k) 1 64 f old k r R e ws q (ap (λ M. take 64 M.words) made ∙ take_all 64 L.words (omega arith)) many wrote (told ∙ ap (λ M. M.members) made)

-- ---- the plan

module _ (f old new : List ℕ) where
  -- what the call promises of an answer, and the same by what the file was read as
  abbrev pub Promised : Said ℕ → Type 0
  Promised s = (s ≡ said (plan_of f old)) × Buffer (read_job fittings f) old new (plan_of f old)

  abbrev by : Said ℕ → Got (Job (List ℕ)) → Type 0
  by s g = (s ≡ said (on_job g (λ job. plan_in job old))) × Buffer g old new (on_job g (λ job. plan_in job old))

  pub plan-down : {v : Result ReadFitting Refusal} {x : Refusal} → v ≡ fitting_read (read spots fittings f) → v ≡ Err x → new ≡ old → Promised (refusal_said x)
  plan-down {x = x} p q same = subst (by (refusal_said x)) (sym (file-down as_fitting f fittings p q)) (refl, same)

  -- `size` words were demanded
  module _ (r : ReadFitting) (R : FittingRead f r) {v : Result (Unit {0}) Refusal} {size : ℕ} (room : v ≡ verdict_of (room_test (length old) size)) (as_read : size ≡ r.horizon) where
    e : v ≡ verdict_of (room_test (length old) r.horizon)
    e = room ∙ ap (λ (n : ℕ). verdict_of (room_test (length old) n)) as_read

    -- over a fitting
    abbrev plan_over : Fitting → Answer ℕ
    plan_over F = after_tests (room_test (length old) F.horizon) (found_or (fewest F F.horizon) NoPlan)

    abbrev Over : Answer ℕ → Fitting → Type 0
    Over a F = (a ≡ plan_over F) × WordsIn F old new (plan_over F)

    on-file : {a : Answer ℕ} → Over a (fitting_in r) → Promised (said a)
    on-file {a} h = let (k, w) = subst (Over a) R.fitting h in subst (by (said a)) (sym R.is) (ap said k, w)

    -- an answer that the words go with
    with-words : {a : Answer ℕ} → a ≡ plan_over (fitting_in r) → WordsIn (fitting_in r) old new a → Over a (fitting_in r)
    with-words k w = (k, subst (WordsIn (fitting_in r) old new) k w)

    pub plan-short : {x : Refusal} → v ≡ Err x → new ≡ old → Promised (refusal_said x)
    plan-short q same = on-file (with-words (test-refused (room_test (length old) r.horizon) (found_or (fewest (fitting_in r) r.horizon) NoPlan) e q) same)

    module _ (ok : v ≡ Ok tt) {m : Prelude.Option ℕ} (p : m ≡ planned_by (fewest (fitting_in r) r.horizon)) (words : Words (fitting_in r) old new m) where
      tested : {a : Answer ℕ} → a ≡ found_or (fewest (fitting_in r) r.horizon) NoPlan → WordsIn (fitting_in r) old new a → Promised (said a)
      tested k w = on-file (with-words (k ∙ through (room_test (length old) r.horizon) (found_or (fewest (fitting_in r) r.horizon) NoPlan) e ok) w)

      rounds-made : {k : ℕ} → m ≡ Some k → Promised (answered k)
      rounds-made {k} q = tested (go (fewest (fitting_in r) r.horizon) (sym p ∙ q)) (subst (Words (fitting_in r) old new) q words)
        where
          go : (o : Option ℕ) → planned_by o ≡ Some k → value k ≡ found_or o NoPlan
          go (some j) h = let s : j ≡ k = cc in sym (ap (λ (i : ℕ). value i) s)
          go none h = let z : ◌≡◌ {A = ℕ} 0 1 = cc in absurd (omega arith)

      pub plan-made : {t : Said ℕ} {k : ℕ} → m ≡ Some k → values t ≡ 1 → number t ≡ k → Promised t
      plan-made {t} q one told = subst Promised (sym (number-said t one told)) (rounds-made q)

      pub plan-none : m ≡ None → Promised (said (refusal NoPlan 0))
      plan-none q = tested (go (fewest (fitting_in r) r.horizon) (sym p ∙ q)) (subst (Words (fitting_in r) old new) q words)
        where
          go : (o : Option ℕ) → planned_by o ≡ None → refusal NoPlan 0 ≡ found_or o NoPlan
          go (some j) h = let z : ◌≡◌ {A = ℕ} 0 1 = cc in absurd (omega arith)
          go none h = refl
