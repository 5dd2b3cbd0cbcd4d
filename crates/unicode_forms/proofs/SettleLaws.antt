-- One character more behind an ordered text in an array: it goes down past those that it is exchanged with. Assumes nothing.
use mathlib.Core.Path.{◌≡◌, refl, sym, ap, subst, ◌∙◌}
use mathlib.Core.Bool.{true, false}
use mathlib.Core.List.{List, [], ◌∷◌, ◌++◌, append_assoc}
use Prim.Native.Nat.{ℕ, zero, suc, ◌+◌, ◌-◌, ◌<◌, ◌≤◌}
use native.Mathlib.Omega.{arith}
use lib.ListN.{length, take, drop, get_or, set, length-append, length-drop, length-set, drop_of_length-le, take-append-drop}
use lib.Seq.{take-suc, drop-cons, take_at, take_all, set_split, get_or-set_same, get_or_at, length-take-le}
use Rattle.sets.proofs.Ranges.{both_true}
use Rattle.unicode_forms.specs.Utf8.{covers, covers_all}
use Rattle.unicode_forms.specs.Canonical.{reorderable, InOrder}
use Rattle.unicode_forms.specs.Forms.{ordered}
use Rattle.unicode_forms.proofs.OrderLaws.{reorder-from, reorder-no, exchanged, order-kept, order-tail, order-made}

-- ---- texts without a reorderable pair, in parts

pub order-drop : (k : ℕ) (l : List ℕ) → InOrder l → InOrder (drop k l)
order-drop zero l c = c
order-drop (suc k) [] c = tt
order-drop (suc k) (x ∷ l) c = order-drop k l (order-tail x l c)

order-prefix : (xs : List ℕ) (p : ℕ) (l : List ℕ) → InOrder (xs ++ (p ∷ l)) → InOrder (xs ++ (p ∷ []))
order-prefix [] p l c = tt
order-prefix (x ∷ []) p l (h, c) = (h, tt)
order-prefix (x ∷ y ∷ xs) p l (h, c) = (h, order-prefix (y ∷ xs) p l c)

order-join : (xs : List ℕ) (p : ℕ) (l : List ℕ) → InOrder (xs ++ (p ∷ [])) → InOrder (p ∷ l) → InOrder (xs ++ (p ∷ l))
order-join [] p l c d = d
order-join (x ∷ []) p l (h, c) d = (h, d)
order-join (x ∷ y ∷ xs) p l (h, c) d = (h, order-join (y ∷ xs) p l c d)

pub covers_at : (l : List ℕ) (i : ℕ) → covers_all l ≡ true → i < length l → covers (get_or l i 0) ≡ true
unfolding covers_all
covers_at [] i h lt = absurd (omega arith)
covers_at (x ∷ l) zero h lt = (both_true (covers x) (covers_all l) h).0
covers_at (x ∷ l) (suc i) h lt = covers_at l i (both_true (covers x) (covers_all l) h).1 (omega arith)

-- ---- two places of a list exchanged

swap : (xs : List ℕ) (p c : ℕ) (l : List ℕ) (k : ℕ) → length xs ≡ k → set (set (xs ++ (p ∷ c ∷ l)) (suc k) p) k c ≡ xs ++ (c ∷ p ∷ l)
swap [] p c l zero e = refl
swap [] p c l (suc k) e = absurd (omega arith)
swap (x ∷ xs) p c l zero e = absurd (omega arith)
swap (x ∷ xs) p c l (suc k) e = ap (λ (r : List ℕ). x ∷ r) (swap xs p c l k (omega arith))

-- ---- the state of the loop: c stands at `at`, and the ordered text o around it

pub record Settling (o t : List ℕ) (c at : ℕ) (next : List ℕ) : Type 0 where
  pub low : at ≤ length o
  pub shape : next ≡ take at o ++ (c ∷ (drop at o ++ t))
  pub tidy : InOrder (c ∷ drop at o)
  pub same : ordered (take at o ++ (c ∷ drop at o)) ≡ ordered (o ++ (c ∷ []))

pub settle-start : (o t : List ℕ) (c : ℕ) → Settling o t c (length o) (o ++ (c ∷ t))
settle-start o t c = record {
  low = omega arith;
  shape = rw (whole, past) refl;
  tidy = rw past tt;
  same = rw (whole, past) refl;
}
  where
    whole : take (length o) o ≡ o
    whole = take_all (length o) o (omega arith)

    past : drop (length o) o ≡ []
    past = drop_of_length-le o {i = length o} (omega arith)

module _ (o t : List ℕ) (c k : ℕ) (next : List ℕ) (s : Settling o t c (suc k) next) where
  abbrev p : ℕ
  p = get_or o k 0

  inside : k < length o
  inside = let h = s.low in omega arith

  front : take (suc k) o ≡ take k o ++ (p ∷ [])
  front = take-suc o k 0 inside

  back : drop k o ≡ p ∷ drop (suc k) o
  back = drop-cons o k 0 inside

  shaped : next ≡ take k o ++ (p ∷ c ∷ (drop (suc k) o ++ t))
  shaped = s.shape ∙ ap (λ (x : List ℕ). x ++ (c ∷ (drop (suc k) o ++ t))) front ∙ append_assoc (take k o) (p ∷ []) (c ∷ (drop (suc k) o ++ t))

  settle-length : length (take k o) ≡ k
  settle-length = length-take-le k o (omega (arith, inside))

  pub settle_read : get_or next k 0 ≡ p
  settle_read = ap (λ (x : List ℕ). get_or x k 0) shaped ∙ get_or_at (take k o) p (c ∷ (drop (suc k) o ++ t)) 0 k settle-length

  pub settle-next : InOrder o → reorderable p c ≡ true → Settling o t c k (set (set next (suc k) p) k c)
  settle-next tidy e = record {
    low = omega (arith, inside);
    shape = ap (λ (x : List ℕ). set (set x (suc k) p) k c) shaped ∙ swap (take k o) p c (drop (suc k) o ++ t) k settle-length ∙ ap (λ (x : List ℕ). take k o ++ (c ∷ (x ++ t))) (sym back);
    tidy = rw back (reorder-no c p (let (u, v) = reorder-from p c e in omega arith), rw back at (order-drop k o tidy));
    same = ap (λ (x : List ℕ). ordered (take k o ++ (c ∷ x))) back
        ∙ sym (exchanged (take k o) p c (drop (suc k) o) e)
        ∙ sym (ap ordered (append_assoc (take k o) (p ∷ []) (c ∷ drop (suc k) o)))
        ∙ ap (λ (x : List ℕ). ordered (x ++ (c ∷ drop (suc k) o))) (sym front)
        ∙ s.same;
  }

  pub settle-stop : InOrder o → reorderable p c ≡ false → ordered (take (suc k) o ++ (c ∷ drop (suc k) o)) ≡ take (suc k) o ++ (c ∷ drop (suc k) o)
  settle-stop tidy e =
      order-kept (take (suc k) o ++ (c ∷ drop (suc k) o))
      (subst InOrder (sym (ap (λ (x : List ℕ). x ++ (c ∷ drop (suc k) o)) front ∙ append_assoc (take k o) (p ∷ []) (c ∷ drop (suc k) o)))
      (order-join (take k o) p (c ∷ drop (suc k) o)
      (order-prefix (take k o) p (drop (suc k) o) (subst InOrder (sym (ap (λ (x : List ℕ). take k o ++ x) (sym back) ∙ take-append-drop k o)) tidy))
      (e, s.tidy)))

-- once c stands where it belongs, the text in front is the ordered one
pub settled-front : (o t : List ℕ) (c at : ℕ) (next : List ℕ) → Settling o t c at next
    → ordered (take at o ++ (c ∷ drop at o)) ≡ take at o ++ (c ∷ drop at o) → take (suc (length o)) next ≡ ordered (o ++ (c ∷ []))
settled-front o t c at next s e =
    ap (take (suc (length o))) (s.shape ∙ sym (append_assoc (take at o) (c ∷ drop at o) t))
    ∙ take_at (take at o ++ (c ∷ drop at o)) t (suc (length o)) long
    ∙ sym e ∙ s.same
  where
    long : length (take at o ++ (c ∷ drop at o)) ≡ suc (length o)
    long = simp length-append (omega (arith, length-take-le at o s.low, length-drop at o, s.low))

pub settled-all : (o t : List ℕ) (c : ℕ) (next : List ℕ) → Settling o t c 0 next → take (suc (length o)) next ≡ ordered (o ++ (c ∷ []))
settled-all o t c next s = settled-front o t c 0 next s (order-kept (c ∷ o) s.tidy)

-- ---- as the loop has it: the array m with c at n, where l stood before

pub front_kept : (l : List ℕ) (n c : ℕ) → n < length l → take n (set l n c) ≡ take n l
front_kept l n c h = ap (take n) (set_split l n c h) ∙ take_at (take n l) (c ∷ drop (suc n) l) n (length-take-le n l (omega arith))

pub settle-begin : (m : List ℕ) (n c : ℕ) → n < length m → get_or m n 0 ≡ c → Settling (take n m) (drop (suc n) m) c n m
settle-begin m n c h e =
    subst (λ (l : List ℕ). Settling (take n m) (drop (suc n) m) c n l) whole
    (subst (λ (k : ℕ). Settling (take n m) (drop (suc n) m) c k (take n m ++ (c ∷ drop (suc n) m))) (length-take-le n m (omega arith)) (settle-start (take n m) (drop (suc n) m) c))
  where
    whole : take n m ++ (c ∷ drop (suc n) m) ≡ m
    whole = ap (λ (x : ℕ). take n m ++ (x ∷ drop (suc n) m)) (sym e) ∙ ap (λ (x : List ℕ). take n m ++ x) (sym (drop-cons m n 0 h)) ∙ take-append-drop n m

-- the state with the text's own facts
pub record Going (n c : ℕ) (m : List ℕ) (at : ℕ) (next : List ℕ) : Type 0 where
  pub state : Settling (take n m) (drop (suc n) m) c at next
  pub long : length (take n m) ≡ n
  pub covered : covers_all (take n m) ≡ true
  pub tidy : InOrder (take n m)
  pub char : covers c ≡ true

pub going_start : (l : List ℕ) (n c : ℕ) → n < length l → covers c ≡ true → covers_all (take n l) ≡ true → ordered (take n l) ≡ take n l → Going n c (set l n c) n (set l n c)
going_start l n c h v a o = record {
  state = settle-begin (set l n c) n c (rw length-set h) (get_or-set_same l n c 0 h);
  long = length-take-le n (set l n c) (rw length-set (omega arith));
  covered = rw (front_kept l n c h) a;
  tidy = rw (front_kept l n c h) (subst InOrder o (order-made (take n l)));
  char = v;
}

module _ (n c : ℕ) (m : List ℕ) (at : ℕ) (next : List ℕ) (g : Going n c m at next) (pos : 0 < at) where
  down : at ≡ suc (at - 1)
  down = omega arith

  here : Settling (take n m) (drop (suc n) m) c (suc (at - 1)) next
  here = subst (λ (k : ℕ). Settling (take n m) (drop (suc n) m) c k next) down g.state

  pub going-read : get_or next (at - 1) 0 ≡ get_or (take n m) (at - 1) 0
  going-read = settle_read (take n m) (drop (suc n) m) c (at - 1) next here

  pub going-covered : covers (get_or next (at - 1) 0) ≡ true
  going-covered = rw going-read (covers_at (take n m) (at - 1) g.covered (let h = g.state.low in omega arith))

  -- c stands at `at`
  going-char : get_or next at 0 ≡ c
  going-char = ap (λ (x : List ℕ). get_or x at 0) g.state.shape ∙ get_or_at (take at (take n m)) c (drop at (take n m) ++ drop (suc n) m) 0 at (length-take-le at (take n m) g.state.low)

  going-down : reorderable (get_or next (at - 1) 0) c ≡ true → Going n c m (at - 1) (set (set next at (get_or next (at - 1) 0)) (at - 1) c)
  going-down e = record {
    state = subst (λ (k : ℕ). Settling (take n m) (drop (suc n) m) c (at - 1) (set (set next k (get_or next (at - 1) 0)) (at - 1) c)) (sym down)
        (subst (λ (p : ℕ). Settling (take n m) (drop (suc n) m) c (at - 1) (set (set next (suc (at - 1)) p) (at - 1) c)) (sym going-read)
        (settle-next (take n m) (drop (suc n) m) c (at - 1) next here g.tidy (rw going-read at e)));
    long = g.long;
    covered = g.covered;
    tidy = g.tidy;
    char = g.char;
  }

  -- as the code exchanges the two
  pub going_next : reorderable (get_or next (at - 1) 0) c ≡ true → Going n c m (at - 1) (set (set next (at - 1 + 1) (get_or next (at - 1) 0)) (at - 1) (get_or next (at - 1 + 1) 0))
  going_next e = let up : at - 1 + 1 ≡ at = omega arith in rw (up, going-char) (going-down e)

  pub going-stop : reorderable (get_or next (at - 1) 0) c ≡ false → take (n + 1) next ≡ ordered (take n m ++ (c ∷ []))
  going-stop e =
      ap (λ (k : ℕ). take k next) (let q : n + 1 ≡ suc (length (take n m)) = omega (arith, g.long) in q)
      ∙ settled-front (take n m) (drop (suc n) m) c (suc (at - 1)) next here (settle-stop (take n m) (drop (suc n) m) c (at - 1) next here g.tidy (rw going-read at e))

pub going_end : (n c : ℕ) (m : List ℕ) (at : ℕ) (next : List ℕ) → Going n c m at next → at ≤ 0 → take (n + 1) next ≡ ordered (take n m ++ (c ∷ []))
going_end n c m at next g z =
    ap (λ (k : ℕ). take k next) (let q : n + 1 ≡ suc (length (take n m)) = omega (arith, g.long) in q)
    ∙ settled-all (take n m) (drop (suc n) m) c next (subst (λ (k : ℕ). Settling (take n m) (drop (suc n) m) c k next) (let q : at ≡ 0 = omega arith in q) g.state)
