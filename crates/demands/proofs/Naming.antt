-- What was asked of one name from two keyboards, over names, file bytes and answers of the open calls. That a name is found at the lowest number that has
-- an equal one, and that 16 says that none has, is among the demands (`demand-1-find-lowest`, `demand-1-find-none`). Assumes nothing.
use mathlib.Core.Path.{◌≡◌, refl, sym, ap, ◌∙◌}
use mathlib.Core.Logic.{inl, inr}
use mathlib.Core.Bool.{true}
use mathlib.Core.List.{List, []}
use mathlib.Core.Option.{Option, none, some}
use Prim.Native.Nat.{ℕ, ◌≤◌, ◌<◌}
use native.Mathlib.Decide.{dec_lt}
use native.Mathlib.Omega.{arith}
use lib.ListN.{length, get_or}
use Rattle.reading.specs.declared.Reason.TheVariants.{NameNotFound}
use Rattle.reading.specs.Got.{got}
use Rattle.unicode_forms.specs.Utf8.{utf8, covers, covers_all}
use Rattle.unicode_forms.specs.Canonical.{parts, Many, Apart, Exchanged, InOrder, Decomposition}
use Rattle.unicode_forms.specs.Forms.{nfd}
use Rattle.unicode_forms.proofs.TableLaws.{fixed}
use Rattle.unicode_forms.proofs.EquivalenceLaws.{order-only, nfd-decomposes, decomposition-nfd}
use Rattle.jobfile.specs.Job.{Job, names_of, size}
use Rattle.jobfile.specs.Read.{read_job, either}
use Rattle.jobfile.specs.Valid.{Bytes}
use Rattle.jobfile.specs.Meaning.{name_in}
use Rattle.jobfile.proofs.ShortLaws.{name-short}
use Rattle.names.specs.Names.{Equal, same_name, lowest_named}
use Rattle.names.proofs.EqualLaws.{same-equal, equal-same, name-reflexive, name-symmetric, name-transitive, equal-twice}
use Rattle.names.proofs.SameLaws.{search-same}
use Rattle.arguments.specs.Answers.{on_job, found_or, refused_by, answered, said}
use Rattle.calls.specs.Find.{find_of}
use Rattle.calls.specs.Name.{name_of}
use Rattle.demands.specs.Demands.{Exactly, Has}
use Rattle.demands.proofs.DemandLaws.{lowest-exactly, nobody-exactly}
use Rattle.demands.proofs.Demands.{demand-1-find-lowest, demand-1-find-none}

-- ---- when two names are equal, whatever their bytes

-- the test that the call makes says what the rule says
pub names-tested : (a b : List ℕ) → Exactly (same_name a b ≡ true) (Equal a b)
names-tested a b = (same-equal a b, equal-same a b)

pub names-reflexive : (a : List ℕ) → Equal a a
names-reflexive a = name-reflexive a

pub names-symmetric : (a b : List ℕ) → Equal a b → Equal b a
names-symmetric a b e = name-symmetric a b e

pub names-transitive : (a b c : List ℕ) → Equal a b → Equal b c → Equal a c
names-transitive a b c p q = name-transitive a b c p q

-- a name that is not the UTF-8 of covered characters equals only its own bytes
pub names-by-bytes : (a b : List ℕ) → ((x : List ℕ) → covers_all x ≡ true → a ≡ utf8 x → ⊥) → Equal a b → a ≡ b
names-by-bytes a b other (inl e) = e
names-by-bytes a b other (inr (x, y, xa, ya, xc, yc, e)) = absurd (other x xc xa)

-- ---- what canonical equivalence rests on

-- nothing that a covered character gives way to can be taken apart further
pub table-fixed : (c : ℕ) → covers c ≡ true → Apart (parts c)
table-fixed c h = (fixed c h).1

-- whichever reorderable pairs are exchanged first, the same text is reached
pub order-one : (x y z : List ℕ) → Many Exchanged x y → InOrder y → Many Exchanged x z → InOrder z → y ≡ z
order-one x y z p q r s = order-only x y p q ∙ sym (order-only x z r s)

-- a covered text has a canonical decomposition, and only one
pub decomposition-one : (x : List ℕ) → covers_all x ≡ true → (d : List ℕ) × Decomposition x d × ((e : List ℕ) → Decomposition x e → e ≡ d)
decomposition-one x h = (nfd x, nfd-decomposes x h, λ e p. decomposition-nfd x e h p)

-- ---- finding

-- whichever of two equal names is typed, the answer is the same, on every file
pub find-either : (file a b : List ℕ) → Equal a b → said (find_of file a) ≡ said (find_of file b)
find-either file a b e =
    ap (λ (h : Job (List ℕ) → Option ℕ). said (on_job (read_job either file) (λ job. found_or (h job) NameNotFound)))
    (λ k job. search-same a b e (size job) (λ i. get_or (names_of job.records) i []) k)

module _ (file : List ℕ) {job : Job (List ℕ)} {end : ℕ} (e : read_job either file ≡ got job end) where
  -- a name that is not empty, and equal to that of number i, is found: at i, or at a lower number whose name is equal, too
  pub find-named : (name : List ℕ) (i : ℕ) → (name ≡ [] → ⊥) → i < size job → Equal (name_of file i) name
      → (j : ℕ) × (j ≤ i) × (said (find_of file name) ≡ answered j) × Equal (name_of file j) name
  find-named name i some_byte l same = go (lowest_named name (size job) (λ k. get_or (names_of job.records) k [])) refl
    where
      here : (k : ℕ) → name_of file k ≡ get_or (names_of job.records) k []
      here k = ap (λ g. name_in g k) e

      has : Has job name i
      has = (some_byte, l, rw (← here i) same)

      go : (o : Option ℕ) → lowest_named name (size job) (λ k. get_or (names_of job.records) k []) ≡ o
          → (j : ℕ) × (j ≤ i) × (said (find_of file name) ≡ answered j) × Equal (name_of file j) name
      go none q = absurd ((nobody-exactly name job).0 q i has)
      go (some j) q =
          let (found, least) = (lowest-exactly name job j).0 q in
          (j, lower j (dec_lt i j) least, (demand-1-find-lowest file name e j).1 (found, least), rw (here j) found.2)
        where
          lower : (j : ℕ) → Dec (i < j) → ((k : ℕ) → k < j → Has job name k → ⊥) → j ≤ i
          lower j (yes h) least = absurd (least i h has)
          lower j (no h) least = omega (arith, h)

  -- the empty name is nobody's
  pub find-empty : said (find_of file []) ≡ refused_by 16 0
  find-empty = (demand-1-find-none file [] e).1 (λ i w. w.0 refl)

  -- and so is a name of more than 64 bytes: no equal one has room in a file
  pub find-long : Bytes file → (name : List ℕ) → 64 < length name → said (find_of file name) ≡ refused_by 16 0
  find-long bytes name long =
      (demand-1-find-none file name e).1
      (λ i w. let f : ⊥ = omega (arith, equal-twice (get_or (names_of job.records) i []) name w.2, name-short either file bytes i, ap (λ g. length (name_in g i)) e) in f)
