-- What saving answers, by what the draft was stored with. Assumes nothing.
use mathlib.Core.Path.{◌≡◌, sym, ap, ◌∙◌}
use mathlib.Core.List.{List}
use Prim.Native.Nat.{ℕ}
use Rattle.std.specs.Prelude.{Result, Ok, Err}
use Rattle.reading.specs.declared.Refusal.{Refusal}
use Rattle.arguments.specs.Answers.{answered, refusal_said, Left}
use Rattle.drafts.specs.Meaning.{stored_said}

module _ {new : List ℕ} {v : Result ℕ Refusal} {left : Left ℕ} (stored : record { answer = stored_said v; buffer = new } ≡ left) where
  -- a refusal
  pub save-down : {x : Refusal} → v ≡ Err x → record { answer = refusal_said x; buffer = new } ≡ left
  save-down e = ap (λ (w : Result ℕ Refusal). record { answer = stored_said w; buffer = new }) (sym e) ∙ stored

  -- a new file of this length
  pub save-made : {n len : ℕ} → v ≡ Ok len → n ≡ len → record { answer = answered n; buffer = new } ≡ left
  save-made {n} e size = ap (λ (k : ℕ). record { answer = answered k; buffer = new }) size ∙ ap (λ (w : Result ℕ Refusal). record { answer = stored_said w; buffer = new }) (sym e) ∙ stored
