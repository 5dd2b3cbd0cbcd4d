-- Sets that the code makes by operations on words: told bit by bit, from a table that is turned round, less one member, and member by member.
-- Assumes nothing.
use mathlib.Core.Path.{◌≡◌, sym, ap, ap₂, ◌∙◌}
use mathlib.Core.Bool.{Bool, true, false, ◌&&◌}
use mathlib.Core.List.{List}
use Prim.Native.Nat.{ℕ, ◌-◌, ◌^◌, ◌<◌}
use native.Mathlib.Decide.{ℕ_discrete}
use native.Mathlib.Omega.{arith}
use lib.Dec.{eqb}
use lib.ListN.{get_or}
use lib.Pow.{pow-lt}
use Rattle.sets.specs.Ranges.{num, given}
use Rattle.sets.specs.Sets.{bit, ◌∈◌, member, without, meets, set_of, gathered}
use Rattle.sets.proofs.Ranges.{both_true, true-both, same_true, same_false, same-yes, same-no, given_yes, given-le}
use Rattle.sets.proofs.Bits.{ext-below, bit-without, bit-one, one-alone, bit-other, not_in, member_below, member-yes, yes-member, member-no, num-member, not-member, part_in, meets-no, no-meets}
use Rattle.sets.proofs.Made.{set_below, set-bit, given-in, gathered-at, gathered-from, gathered-below}
use Rattle.sets.specs.Tables.{transposed}
use Rattle.sets.proofs.Tables.{turned-at}

-- a bit by its test
pub member-bit : (s i : ℕ) {b : Bool} → member s i ≡ b → bit s i ≡ num b
member-bit s i e = sym (num-member s i) ∙ ap num e

-- a set of n bits whose bits are those of a test
pub set-by-bits : (n s : ℕ) (test : ℕ → Bool) → s < 2 ^ n → ((i : ℕ) → i < n → bit s i ≡ num (test i)) → s ≡ set_of n test
set-by-bits n s test h e = ext-below n s (set_of n test) h (set_below n test) (λ i l. e i l ∙ sym (set-bit n test i l))

-- a set less one member
pub bit-less : (s x y : ℕ) → bit (without s (2 ^ x)) y ≡ num (member s y) - num (eqb x y)
bit-less s x y = bit-without s (2 ^ x) y ∙ ap₂ ◌-◌ (sym (num-member s y)) (go (ℕ_discrete x y))
  where
    go : Dec (x ≡ y) → bit (2 ^ x) y ≡ num (eqb x y)
    go (yes q) = ap (bit (2 ^ x)) (sym q) ∙ bit-one x ∙ sym (same-yes x y q)
    go (no d) = bit-other x y (λ q. d (sym q)) ∙ sym (same-no x y d)

-- let t have those members of s whose row has y: then y is gathered from s exactly if s meets t
pub gathered-meets : (w s t y : ℕ) (f : ℕ → ℕ) → ((i : ℕ) → i < w → i ∈ s → bit (f i) y ≡ bit t i) → ((i : ℕ) → i ∈ s → i ∈ t → i < w)
    → member (gathered w s f) y ≡ meets s t
gathered-meets w s t y f same few = same_false (member (gathered w s f) y) (meets s t) there back
  where
    there : member (gathered w s f) y ≡ false → meets s t ≡ false
    there z = meets-no s t (λ i e m. let l = few i e m in omega (arith, not-member (gathered w s f) y z, gathered-at w f s i l e y, same i l e))

    back : meets s t ≡ false → member (gathered w s f) y ≡ false
    back z =
        member-no (gathered w s f) y (not_in (gathered w s f) y (λ g.
        let (i, l, e, m) = gathered-from w f s y g in no-meets s t z i e (omega (arith, same i l e))))

-- so from a table turned round come the numbers whose row meets s
pub turned-meets : (w s : ℕ) (turned table : List ℕ) → s < 2 ^ w → turned ≡ transposed w table → (y : ℕ) → y < w
    → member (gathered w s (λ i. get_or turned i 0)) y ≡ meets s (get_or table y 0)
turned-meets w s turned table h e y l =
    gathered-meets w s (get_or table y 0) y (λ i. get_or turned i 0)
    (λ i k m. ap (λ (t : List ℕ). bit (get_or t i 0) y) e ∙ turned-at w table i y k l)
    (λ i m k. member_below s w i h m)

-- the members of s that pass a test, one by one
pub gathered-test : (n s : ℕ) (test : ℕ → Bool) → gathered n s (λ i. given (test i) (2 ^ i)) ≡ set_of n (λ i. member s i && test i)
gathered-test n s test = set-by-bits n all (λ i. member s i && test i) below (λ i l. member-bit all i (same_true (member all i) (member s i && test i) (there i) (back i l)))
  where
    one : ℕ → ℕ
    one i = given (test i) (2 ^ i)

    all : ℕ
    all = gathered n s one

    below : all < 2 ^ n
    below = gathered-below n one n s (λ i l e. omega (arith, given-le (test i) (2 ^ i), pow-lt l))

    there : (i : ℕ) → member all i ≡ true → member s i && test i ≡ true
    there i t =
        let (a, l, e, g) = gathered-from n one s i (yes-member all i t) in
        let (p, m) = given-in (test a) (2 ^ a) i g in
        rw (one-alone a i m) (true-both (member s a) (test a) (member-yes s a e) p)

    back : (i : ℕ) → i < n → member s i && test i ≡ true → member all i ≡ true
    back i l t =
        let (m, p) = both_true (member s i) (test i) t in
        member-yes all i (part_in (one i) all (gathered-at n one s i l (yes-member s i m)) i (ap (λ (x : ℕ). bit x i) (given_yes (test i) (2 ^ i) p) ∙ bit-one i))
