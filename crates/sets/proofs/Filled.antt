-- A loop that fills an array that it made, and a loop that copies words into a buffer that it was lent. Assumes nothing.
use mathlib.Core.Path.{◌≡◌, refl, sym, ap, ap₂, ◌∙◌}
use mathlib.Core.List.{List}
use Prim.Native.Nat.{ℕ, ◌+◌, ◌≤◌, ◌<◌}
use native.Mathlib.Numerals.{add-one}
use native.Mathlib.Decide.{dec_lt}
use native.Mathlib.Omega.{arith}
use lib.ListN.{length, get_or, set, replicate, length-set, length-replicate}
use lib.Seq.{get_or-set_same, get_or-set_other, ext_get_or, paste, paste-zero, paste-suc}
use Rattle.sets.specs.Ranges.{list_to}
use Rattle.sets.proofs.Ranges.{one_more, list_length, list_at, list-past}

-- ---- filling: the rows below i are made

abbrev pub Filled : ℕ → (ℕ → ℕ) → List ℕ → ℕ → Type 0
Filled w f rows i = (length rows ≡ w) × ((k : ℕ) → k < i → get_or rows k 0 ≡ f k)

pub filled-start : (w : ℕ) (f : ℕ → ℕ) → Filled w f (replicate {A = ℕ} w 0) 0
filled-start w f = (length-replicate {A = ℕ} w 0, λ k l. absurd (omega arith))

pub filled-turn : (w : ℕ) (f : ℕ → ℕ) (rows : List ℕ) (i x : ℕ) → Filled w f rows i → i < w → x ≡ f i → Filled w f (set rows i x) (i + 1)
filled-turn w f rows i x (size, held) l e = (
  length-set rows i x ∙ size,
  one_more (λ (k : ℕ). get_or (set rows i x) k 0 ≡ f k) i
      (λ k h. get_or-set_other rows i k x 0 (λ q. let z : ⊥ = omega arith in z) ∙ held k h)
      (get_or-set_same rows i x 0 (omega (arith, size)) ∙ e),
)

pub filled-end : (w : ℕ) (f : ℕ → ℕ) (rows : List ℕ) (i : ℕ) → Filled w f rows i → i ≡ w → rows ≡ list_to w f
filled-end w f rows i (size, held) e =
    ext_get_or 0 rows (list_to w f) (size ∙ sym (list_length w f))
    (λ k l. let h : k < w = omega (arith, size) in held k (omega arith) ∙ sym (list_at w f 0 k h))

-- ---- filling in part: the rows from i on are still 0

pub past-turn : (rows : List ℕ) (i x : ℕ) → ((k : ℕ) → i ≤ k → get_or rows k 0 ≡ 0) → (k : ℕ) → i + 1 ≤ k → get_or (set rows i x) k 0 ≡ 0
past-turn rows i x past k l = get_or-set_other rows i k x 0 (λ e. let z : ⊥ = omega arith in z) ∙ past k (omega arith)

pub filled-part : (w : ℕ) (f : ℕ → ℕ) (rows : List ℕ) (i n : ℕ) → Filled w f rows i → ((k : ℕ) → i ≤ k → get_or rows k 0 ≡ 0) → i ≡ n → rows ≡ list_to w (λ k. get_or (list_to n f) k 0)
filled-part w f rows i n (size, held) past e =
    filled-end w (λ k. get_or (list_to i f) k 0) rows w (size, λ k l. go k (dec_lt k i)) refl ∙ ap (λ (m : ℕ). list_to w (λ k. get_or (list_to m f) k 0)) e
  where
    go : (k : ℕ) → Dec (k < i) → get_or rows k 0 ≡ get_or (list_to i f) k 0
    go k (yes l) = held k l ∙ sym (list_at i f 0 k l)
    go k (no l) = past k (omega arith) ∙ sym (list-past i f 0 k (omega arith))

-- ---- copying: the first i words are at the places from `at` on, and all others are as they were

module _ (old : List ℕ) (at : ℕ) (from : List ℕ) where
  abbrev pub Pasted : List ℕ → ℕ → Type 0
  Pasted to i = (length to ≡ length old) × (to ≡ paste old at from i)

  pub pasted-start : Pasted old 0
  pasted-start = (refl, paste-zero old at from)

  pub pasted-turn : (to : List ℕ) (i : ℕ) {p x : ℕ} → Pasted to i → at + i < length old → i < length from → p ≡ at + i → x ≡ get_or from i 0 → Pasted (set to p x) (i + 1)
  pasted-turn to i {p} {x} (size, e) room l place same = (
    length-set to p x ∙ size,
    rw add-one (ap (λ (t : List ℕ). set t p x) e ∙ ap₂ (λ (q y : ℕ). set (paste old at from i) q y) place same ∙ paste-suc old at from i 0 room l),
  )

  pub pasted-end : (to : List ℕ) (i n : ℕ) → Pasted to i → i ≤ n → n ≤ i → to ≡ paste old at from n
  pasted-end to i n (size, e) l m = let q : i ≡ n = omega arith in e ∙ ap (paste old at from) q
