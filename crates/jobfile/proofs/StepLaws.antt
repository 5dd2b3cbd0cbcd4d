-- Records and files from a position or a refusal on: the items that the code has found, one after the other, are those of the definition. Assumes nothing.
use mathlib.Core.Path.{◌≡◌, refl, ap, sym, ◌∙◌}
use mathlib.Core.Bool.{Bool, true, false, cond}
use mathlib.Core.List.{List, [], ◌∷◌}
use mathlib.Core.Option.{some}
use Prim.Native.Nat.{ℕ, suc}
use lib.Dec.{ltb}
use lib.ListN.{length, get_or}
use Rattle.std.specs.Prelude.{Result, Ok, Err}
use Rattle.sets.specs.Sets.{member}
use Rattle.reading.specs.declared.Reason.TheVariants.{TrailingBytes}
use Rattle.reading.specs.declared.Refusal.{Refusal}
use Rattle.reading.specs.Got.{got, refuse, and_then, optional, each_at, up_from}
use Rattle.reading.specs.Items.{Naming, kind_at, count_at, map_at, set_at, name_at}
use Rattle.jobfile.specs.Layout.{Field, Layout, name_bit, bits, layout_of}
use Rattle.jobfile.specs.Job.{Record, Job}
use Rattle.jobfile.specs.Read.{item_at, fields_at, record_at, body_at, layout_or, layout_at, read}
use Rattle.reading.specs.Meaning.{got_by, read_from, finished}
use Rattle.reading.proofs.StepLaws.{and_assoc, settled, join}

-- ---- records

module _ (f : List ℕ) (count own m : ℕ) where
  pub fields-none : (k : ℕ) (c : Result ℕ Refusal) → got_by [] c ≡ read_from c (fields_at [] count own m k f)
  unfolding fields_at
  fields-none k c = sym (settled [] c)

  pub fields-more : (field : Field) (fields : List Field) (k v : ℕ) (vs : List ℕ) (c d from : Result ℕ Refusal)
      → got_by v c ≡ read_from from (optional (member m k) 0 (item_at field count own) f)
      → got_by vs d ≡ read_from c (fields_at fields count own m (suc k) f) → got_by (v ∷ vs) d ≡ read_from from (fields_at (field ∷ fields) count own m k f)
  unfolding fields_at
  fields-more field fields k v vs c d from e h =
      join v (v ∷ vs) c d from (optional (member m k) 0 (item_at field count own) f) _ e
      (join vs (v ∷ vs) d d c (fields_at fields count own m (suc k) f) _ h (sym (settled (v ∷ vs) d)))

pub record_is : {N : Type 0} (names : Naming N) (layout : Layout) (f : List ℕ) (count own m : ℕ) (vs : List ℕ) (name : N) (ws : List ℕ) (a b c d from : Result ℕ Refusal)
    → got_by m a ≡ read_from from (map_at (bits layout) f)
    → got_by vs b ≡ read_from a (fields_at layout.before count own m 0 f)
    → got_by name c ≡ read_from b (optional (member m (name_bit layout)) names.absent (name_at names layout.longest) f)
    → got_by ws d ≡ read_from c (fields_at layout.after count own m (suc (name_bit layout)) f)
    → got_by (record { before = vs; name = name; after = ws }) d ≡ read_from from (record_at names layout count own f)
unfolding record_at
record_is names layout f count own m vs name ws a b c d from e₁ e₂ e₃ e₄ =
    let r : Record _ = record { before = vs; name = name; after = ws } in
    join m r a d from (map_at (bits layout) f) _ e₁
    (join vs r b d a (fields_at layout.before count own m 0 f) _ e₂
    (join name r c d b (optional (member m (name_bit layout)) names.absent (name_at names layout.longest) f) _ e₃
    (join ws r d d c (fields_at layout.after count own m (suc (name_bit layout)) f) _ e₄ (sym (settled r d)))))

-- ---- files

pub body_is : {N : Type 0} (names : Naming N) (layout : Layout) (f : List ℕ) (counts heads : List ℕ) (records : List (Record N)) (a b c from : Result ℕ Refusal)
    → got_by counts a ≡ read_from from (each_at (λ c. count_at c.bytes c.limit) layout.counts f)
    → got_by heads b ≡ read_from a (each_at (λ bytes. set_at bytes (get_or counts 1 0)) layout.heads f)
    → got_by records c ≡ read_from b (each_at (record_at names layout (get_or counts 1 0)) (up_from (get_or counts 0 0) 0) f)
    → got_by (record { kind = layout.kind; counts = counts; heads = heads; records = records }) c ≡ read_from from (body_at names layout f)
unfolding body_at
body_is names layout f counts heads records a b c from e₁ e₂ e₃ =
    let j : Job _ = record { kind = layout.kind; counts = counts; heads = heads; records = records } in
    join counts j a c from (each_at (λ c. count_at c.bytes c.limit) layout.counts f) _ e₁
    (join heads j b c a (each_at (λ bytes. set_at bytes (get_or counts 1 0)) layout.heads f) _ e₂
    (join records j c c b (each_at (record_at names layout (get_or counts 1 0)) (up_from (get_or counts 0 0) 0) f) _ e₃ (sym (settled j c))))

-- the whole file: its kind, which is one that there is, and its body up to the end
pub file-is : {N : Type 0} (names : Naming N) (takes : ℕ → Bool) (f : List ℕ) (kind : ℕ) (layout : Layout) (job : Job N) (a c : Result ℕ Refusal)
    → got_by kind a ≡ kind_at takes f 0
    → layout_of kind ≡ some layout
    → got_by job c ≡ read_from a (body_at names layout f)
    → read_from (finished (length f) c) (λ at. got job (length f)) ≡ read names takes f
unfolding read layout_at
file-is names takes f kind layout job a c e q h = last c
    ∙ ap (λ x. and_then x (λ j end. refuse (ltb end (length f)) TrailingBytes end (got j (length f)))) (h ∙ turn a ∙ ap (λ x. and_then x (λ l n. body_at names l f n)) (there a ∙ ap (λ x. and_then x (λ k n. layout_or (layout_of k) n)) e))
    ∙ and_assoc (layout_at takes f 0) _ _
  where
    last : (c : Result ℕ Refusal) → read_from (finished (length f) c) (λ at. got job (length f)) ≡ and_then (got_by job c) (λ j end. refuse (ltb end (length f)) TrailingBytes end (got j (length f)))
    last (Ok n) = go (ltb n (length f))
      where
        go : (b : Bool) → read_from (cond b (Err (record { reason = TrailingBytes; place = n })) (Ok n)) (λ at. got job (length f)) ≡ refuse b TrailingBytes n (got job (length f))
        go true = refl
        go false = refl
    last (Err r) = refl

    turn : (a : Result ℕ Refusal) → read_from a (body_at names layout f) ≡ and_then (got_by layout a) (λ l n. body_at names l f n)
    turn (Ok n) = refl
    turn (Err r) = refl

    there : (a : Result ℕ Refusal) → got_by layout a ≡ and_then (got_by kind a) (λ k n. layout_or (layout_of k) n)
    there (Ok n) = rw q
    there (Err r) = refl
