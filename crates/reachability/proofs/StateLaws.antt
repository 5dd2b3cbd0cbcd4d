-- The laws of the list of states: what is listed stays listed as the list grows, and a list that has an end and no goal refutes every plan.
-- Assumes nothing.
use mathlib.Core.Path.{◌≡◌, refl, sym, subst, ◌∙◌}
use mathlib.Core.List.{List}
use Prim.Native.Nat.{ℕ, ◌+◌, ◌≤◌, ◌<◌}
use native.Mathlib.Nat.{le_refl, le_trans}
use native.Mathlib.Omega.{arith}
use lib.Bits.{bit_or}
use lib.ListN.{length, get_or, set, length-set}
use lib.Seq.{get_or-set_same, get_or-set_other}
use Rattle.sets.specs.Sets.{◌⊆◌, without}
use Rattle.planning.specs.Rounds.{Steps, Fitting, Plan}
use Rattle.planning.proofs.SerialLaws.{stepped, closed-hopeless}
use Rattle.reachability.specs.States.{Among, Leads, Grown}

-- ---- a list that grows

pub grown-none : (l : List ℕ) (n : ℕ) → n ≤ length l → Grown l l n n
grown-none l n h = record { more = le_refl n; room = h; same = λ j k. refl }

pub grown-on : {a b c : List ℕ} {n m r : ℕ} → Grown a b n m → Grown b c m r → Grown a c n r
grown-on g h = record {
  more = le_trans g.more h.more;
  room = h.room;
  same = λ j l. h.same j (le_trans l g.more) ∙ g.same j l;
}

-- one state more, after the others
pub grown-one : (l : List ℕ) (n s : ℕ) → n < length l → Grown l (set l n s) n (n + 1) × Among (set l n s) (n + 1) s
grown-one l n s h = (
  record {
    more = omega arith;
    room = omega (arith, length-set l n s);
    same = λ j k. get_or-set_other l n j s 0 (λ (z : j ≡ n). let f : ⊥ = omega arith in f);
  },
  (n, omega arith, get_or-set_same l n s 0 h),
)

-- what is listed stays listed
pub among-grown : {old new : List ℕ} {n r : ℕ} → Grown old new n r → (s : ℕ) → Among old n s → Among new r s
among-grown g s (j, l, e) = (j, le_trans l g.more, g.same j l ∙ e)

pub leads-grown : {old new : List ℕ} {n r : ℕ} → Grown old new n r → (S : Steps) (s a : ℕ) → Leads S old n s a → Leads S new r s a
leads-grown g S s a h need = among-grown g (bit_or (without s (S.takes a)) (S.gives a)) (h need)

-- ---- states that are settled: state m lacks the goal, and all that its steps lead to is listed

abbrev pub Settled : Fitting → List ℕ → ℕ → ℕ → Type 0
Settled F states n m = (F.goal ⊆ get_or states m 0 → ⊥) × ((a : ℕ) → a < F.count → Leads F.steps states n (get_or states m 0) a)

pub settled-grown : {old new : List ℕ} {n r : ℕ} → Grown old new n r → (F : Fitting) (m : ℕ) → m < n → Settled F old n m → Settled F new r m
settled-grown {old = old} {new = new} {n = n} {r = r} g F m l (lacks, leads) =
    subst (λ (s : ℕ). (F.goal ⊆ s → ⊥) × ((a : ℕ) → a < F.count → Leads F.steps new r s a)) (sym (g.same m l))
    (lacks, λ a k. leads-grown g F.steps (get_or old m 0) a (leads a k))

-- if all of them are, no plan exists
pub settled-hopeless : (F : Fitting) (states : List ℕ) (n : ℕ) → Among states n F.start → ((m : ℕ) → m < n → Settled F states n m) → (rs : List ℕ) → Plan F rs → ⊥
settled-hopeless F states n start all = closed-hopeless F (Among states n) closed start lacks
  where
    closed : (s a : ℕ) → Among states n s → a < F.count → F.steps.needs a ⊆ s → Among states n (stepped F s a)
    closed s a (j, l, e) k = subst (λ (t : ℕ). Leads F.steps states n t a) e ((all j l).1 a k)

    lacks : (s : ℕ) → Among states n s → F.goal ⊆ s → ⊥
    lacks s (j, l, e) = subst (λ (t : ℕ). F.goal ⊆ t → ⊥) e (all j l).0
