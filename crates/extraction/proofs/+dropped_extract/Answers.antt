use borrow.Author.Rules.{rules}
use mathlib.Core.Path.{◌≡◌, refl, sym, subst}
use Prim.Native.Nat.{ℕ, ◌+◌, ◌-◌, ◌*◌, ◌^◌, ◌<◌}
use native.Mathlib.Nat.{le_trans}
use native.Mathlib.Omega.{arith}
use lib.ListN.{get_or, set}
use Rattle.sets.specs.Sets.{◌⊆◌}
use Rattle.sets.proofs.Bits.{bit-empty, bit-without, part-refl, part_in, part-le, less-lt}
use Rattle.network.specs.Network.{listed, Cover}
use Rattle.supports.specs.Supports.{row_of, Opens}
use Rattle.supports.proofs.LayerLaws.{lowest-one, asked}
use Rattle.extraction.specs.Extraction.{all_facts, Graph, graph, needs_of, Held}
use Rattle.extraction.proofs.NogoodLaws.{noted-refutes}
use Rattle.extraction.proofs.ExtractLaws.{held_more, bottom-held, bottom-lacks, blocked-refutes, refutes-blocked, known-refutes, open-picks, open-needs, leaf, turning-start, turning-more, turning-last, layer-asked, entry-asked, refutes-whole, stored_refused}
use Rattle.extraction.proofs.+dropped_extract.Goals as goal

-- ---- what the answers share

-- the needs of a selection of open vertices lie in the box
needs-within : (T : Graph) (j may v g x n : ℕ) → Opens T.needs (get_or T.members j 0) may v → Cover (listed 64 T.gives (row_of T.words j)) v g x → n ≡ needs_of T x → n ⊆ may
needs-within T j may v g x n o p e = subst (λ (m : ℕ). m ⊆ may) (sym e) (open-needs T j may v o g x p)

-- ---- the answers of dropped

pub dropped-returns-then-not-many : goal.dropped-returns-then-not-many
dropped-returns-then-not-many t c =
    let a = c.args in
    let T = graph a.needs.now a.gives.now a.members.now a.words.now a.start in
    let (fine, known) = c.requires.fine in
    let (few, room, (inside, none)) = c.requires.j_in_bounds in
    (part-refl a.refuted, (inside, none), known)

pub dropped-loop-left-init : goal.dropped-loop-left-init
dropped-loop-left-init t c =
    let a = c.args in
    let T = graph a.needs.now a.gives.now a.members.now a.words.now a.start in
    let (fine, known) = c.requires.fine in
    let (few, room, (inside, none)) = c.requires.j_in_bounds in
    (refl, refl, known, part-refl a.refuted, none, c.droppable-left.ensures.1)

pub dropped-extract-inner-requires : goal.dropped-extract-inner-requires
dropped-extract-inner-requires t c =
    let a = c.args in
    let T = graph a.needs.now a.gives.now a.members.now a.words.now a.start in
    let (fine, known) = c.requires.fine in
    let (few, room, (inside, none)) = c.requires.j_in_bounds in
    let l = c.loop-left in
    let (plan-kept, table_kept, right, part, out, rest) = l.invariant in
    let b = c.lowest-b.result in
    let m = lowest-one 64 l.left c.lowest-b.ensures.value c.lowest-b.ensures.upper_bound in
    let falls : a.j * 2 ^ 33 + all_facts < t = omega (arith, c.decreases) in
    let goal : c.less.result ⊆ all_facts = subst (λ (g : ℕ). g ⊆ all_facts) (sym c.less.ensures) (λ i. omega (arith, bit-without l.least (2 ^ b) i, part i, inside i)) in
    (falls, ((fine, right), (few, omega (arith, room, plan-kept), goal, part-refl all_facts, λ i. omega (arith, bit-empty i))))

pub dropped-loop-left-smaller-in_default : goal.dropped-loop-left-smaller-in_default
dropped-loop-left-smaller-in_default t c =
    let l = c.loop-left in
    let (plan-kept, table_kept, right, part, out, rest) = l.invariant in
    let b = c.lowest-b.result in
    let m = lowest-one 64 l.left c.lowest-b.ensures.value c.lowest-b.ensures.upper_bound in
    omega (arith, c.less-others.ensures, less-lt l.left b m)

pub dropped-loop-left-preserved-in_default : goal.dropped-loop-left-preserved-in_default
dropped-loop-left-preserved-in_default t c =
    let l = c.loop-left in
    let (plan-kept, table_kept, right, part, out, rest) = l.invariant in
    let b = c.lowest-b.result in
    let m = lowest-one 64 l.left c.lowest-b.ensures.value c.lowest-b.ensures.upper_bound in (
      omega (arith, c.extract-inner.auto.plan, plan-kept),
      omega (arith, c.extract-inner.auto.table, table_kept),
      c.extract-inner.ensures.1,
      part,
      out,
      subst (λ (s : ℕ). s ⊆ l.least) (sym c.less-others.ensures) (λ i. omega (arith, bit-without l.left (2 ^ b) i, rest i)),
    )

pub dropped-loop-left-smaller : goal.dropped-loop-left-smaller
dropped-loop-left-smaller t c =
    let l = c.loop-left in
    let (plan-kept, table_kept, right, part, out, rest) = l.invariant in
    let b = c.lowest-b.result in
    let m = lowest-one 64 l.left c.lowest-b.ensures.value c.lowest-b.ensures.upper_bound in
    omega (arith, part-le c.droppable-left-in-loop-left.result c.less-others.result c.droppable-left-in-loop-left.ensures.0, c.less-others.ensures, less-lt l.left b m)

pub dropped-loop-left-preserved : goal.dropped-loop-left-preserved
dropped-loop-left-preserved t c =
    let a = c.args in
    let T = graph a.needs.now a.gives.now a.members.now a.words.now a.start in
    let (fine, known) = c.requires.fine in
    let (few, room, (inside, none)) = c.requires.j_in_bounds in
    let l = c.loop-left in
    let (plan-kept, table_kept, right, part, out, rest) = l.invariant in
    let b = c.lowest-b.result in
    let m = lowest-one 64 l.left c.lowest-b.ensures.value c.lowest-b.ensures.upper_bound in
    let q = c.extract-inner.new.plan in
    let (sub, gone) = refutes-whole T a.carriers.now fine a.j c.less.result 0 c.in-Err.e c.in-Err.ensures.0 in
    let fewer : c.less.result ⊆ l.least = subst (λ (s : ℕ). s ⊆ l.least) (sym c.less.ensures) (λ i. omega (arith, bit-without l.least (2 ^ b) i)) in (
      omega (arith, c.extract-inner.auto.plan, plan-kept),
      omega (arith, c.extract-inner.auto.table, table_kept),
      c.extract-inner.ensures.1,
      λ i. le_trans (sub i) (le_trans (fewer i) (part i)),
      gone,
      c.droppable-left-in-loop-left.ensures.1,
    )

pub dropped-returns : goal.dropped-returns
dropped-returns t c =
    let a = c.args in
    let T = graph a.needs.now a.gives.now a.members.now a.words.now a.start in
    let (fine, known) = c.requires.fine in
    let (few, room, (inside, none)) = c.requires.j_in_bounds in
    let (plan-kept, table_kept, right, part, out, rest) = c.loop-left.invariant in
    (part, (λ i. le_trans (part i) (inside i), out), right)

-- ---- the answers of extract

pub extract-returns-then-lack-eq0 : goal.extract-returns-then-lack-eq0
extract-returns-then-lack-eq0 t c =
    let a = c.args in
    let T = graph a.needs.now a.gives.now a.members.now a.words.now a.start in
    (bottom-held T a.k a.goal c.without-lack.result _ c.if-k-eq0.true c.without-lack.ensures c.if-lack-eq0.true, c.requires.fine.1)

pub extract-returns-then-k-eq0 : goal.extract-returns-then-k-eq0
extract-returns-then-k-eq0 t c =
    let a = c.args in
    let T = graph a.needs.now a.gives.now a.members.now a.words.now a.start in
    let (fine, known) = c.requires.fine in
    let (few, room, goal-in, may-in, why-in) = c.requires.k_in_bounds in
    let lack = c.without-lack.result in
    let f = c.lowest.result in (
      bottom-lacks T a.k a.goal a.may a.must a.why lack f c.more.result c.if-k-eq0.true c.without-lack.ensures
          (lowest-one 64 lack c.lowest.ensures.value c.lowest.ensures.upper_bound) why-in c.more.ensures,
      known,
    )

pub extract-returns-in-Some : goal.extract-returns-in-Some
extract-returns-in-Some t c =
    let a = c.args in
    let T = graph a.needs.now a.gives.now a.members.now a.words.now a.start in
    let (fine, known) = c.requires.fine in
    let (few, room, goal-in, may-in, why-in) = c.requires.k_in_bounds in
    let (part, none) = noted-refutes T a.carriers.now fine a.table.now known a.k a.goal c.in-Some.c (omega (arith, c.if-k-eq0.false)) c.in-Some.ensures in
    (known-refutes T a.k a.goal a.may a.must a.why c.in-Some.c c.if-k-eq0.false part none why-in, known)

pub extract-ask-picked-requires : goal.extract-ask-picked-requires
extract-ask-picked-requires t c =
    let a = c.args in
    let T = graph a.needs.now a.gives.now a.members.now a.words.now a.start in
    layer-asked T a.carriers.now c.requires.fine.0 a.k c.if-k-eq0.false c.requires.k_in_bounds.0

pub extract-explain-e-requires : goal.extract-explain-e-requires
extract-explain-e-requires t c =
    let a = c.args in
    let T = graph a.needs.now a.gives.now a.members.now a.words.now a.start in
    let (fine, known) = c.requires.fine in
    let (few, room, goal-in, may-in, why-in) = c.requires.k_in_bounds in
    record {
      j_bound = layer-asked T a.carriers.now fine a.k c.if-k-eq0.false few;
      why = (
        why-in,
        asked (listed 64 a.gives.now (row_of a.words.now (a.k - 1))) c.open_to-open.result a.goal c.open_to-open.type_inv c.in_default-picked.ensures,
      );
    }

pub extract-store-requires : goal.extract-store-requires
extract-store-requires t c =
    let a = c.args in
    let T = graph a.needs.now a.gives.now a.members.now a.words.now a.start in
    let (fine, known) = c.requires.fine in
    let (few, room, goal-in, may-in, why-in) = c.requires.k_in_bounds in
    entry-asked T a.carriers.now fine a.k a.goal c.explain-e.result few goal-in c.explain-e.ensures.part

pub extract-returns-in_default-picked : goal.extract-returns-in_default-picked
extract-returns-in_default-picked t c =
    let a = c.args in
    let T = graph a.needs.now a.gives.now a.members.now a.words.now a.start in
    let (fine, known) = c.requires.fine in
    let (few, room, goal-in, may-in, why-in) = c.requires.k_in_bounds in
    let e = c.explain-e.result in
    let (_, small) = entry-asked T a.carriers.now fine a.k a.goal e few goal-in c.explain-e.ensures.part in
    let refused = blocked-refutes T a.k a.goal a.may a.must a.why e c.if-k-eq0.false
    (leaf T (a.k - 1) a.may c.open_to-open.result c.open_to-open.ensures a.goal a.must a.why e (c.type_inv.members (a.k - 1)).fits c.explain-e.ensures) in (
      refused,
      stored_refused T a.carriers.now fine c.whole-first.result a.table.now c.store.new.table a.k a.goal a.may a.must a.why e
          c.whole-first.ensures few small refused known c.store.ensures,
    )

pub extract-extract-below-requires : goal.extract-extract-below-requires
extract-extract-below-requires t c =
    let a = c.args in
    let T = graph a.needs.now a.gives.now a.members.now a.words.now a.start in
    let (fine, known) = c.requires.fine in
    let (few, room, goal-in, may-in, why-in) = c.requires.k_in_bounds in
    let covered = asked (listed 64 a.gives.now (row_of a.words.now (a.k - 1))) c.open_to-open.result a.goal c.open_to-open.type_inv c.in-Some-picked.ensures in
    let within = needs-within T (a.k - 1) a.may c.open_to-open.result a.goal c.in-Some-picked.selection c.gather-wanted.result c.open_to-open.ensures covered c.gather-wanted.ensures in
    let falls : (a.k - 1) * 2 ^ 33 + all_facts < t = omega (arith, c.decreases, c.if-k-eq0.false) in
    (falls, ((fine, known), (omega (arith, few), omega (arith, room), λ i. le_trans (within i) (may-in i), part-refl all_facts, λ i. omega (arith, bit-empty i))))

pub extract-offset_bounds-plan-j : goal.extract-offset_bounds-plan-j
extract-offset_bounds-plan-j t c =
    let a = c.args in
    let T = graph a.needs.now a.gives.now a.members.now a.words.now a.start in
    let (low, _, _) = layer-asked T a.carriers.now c.requires.fine.0 a.k c.if-k-eq0.false c.requires.k_in_bounds.0 in
    search rules

pub extract-bounds-plan-j : goal.extract-bounds-plan-j
extract-bounds-plan-j t c = omega (arith, c.requires.k_in_bounds.1, c.if-k-eq0.false, c.extract-below.auto.plan)

pub extract-returns-in_default-below : goal.extract-returns-in_default-below
extract-returns-in_default-below t c =
    let a = c.args in
    let T = graph a.needs.now a.gives.now a.members.now a.words.now a.start in
    let covered = asked (listed 64 a.gives.now (row_of a.words.now (a.k - 1))) c.open_to-open.result a.goal c.open_to-open.type_inv c.in-Some-picked.ensures in
    let y = c.in-Some-picked.selection in
    let n = c.gather-wanted.result in
    let q = c.extract-below.new.plan in (
      subst (λ (i : ℕ). Held T a.k a.goal (set q i c.steps_of.result)) (let place : a.k - 1 ≡ _ = omega arith in place)
          (held_more T a.k a.goal n y c.steps_of.result q c.if-k-eq0.false (omega (arith, c.requires.k_in_bounds.1, c.if-k-eq0.false, c.extract-below.auto.plan))
          (open-picks T (a.k - 1) a.may c.open_to-open.result c.open_to-open.ensures a.goal y covered) c.gather-wanted.ensures c.steps_of.ensures
          c.in_default-below.ensures.0),
      c.extract-below.ensures.1,
    )

pub extract-dropped-c-requires : goal.extract-dropped-c-requires
extract-dropped-c-requires t c =
    let a = c.args in
    let T = graph a.needs.now a.gives.now a.members.now a.words.now a.start in
    let (fine, known) = c.requires.fine in
    let (few, room, goal-in, may-in, why-in) = c.requires.k_in_bounds in
    let covered = asked (listed 64 a.gives.now (row_of a.words.now (a.k - 1))) c.open_to-open.result a.goal c.open_to-open.type_inv c.in-Some-picked.ensures in
    let within = needs-within T (a.k - 1) a.may c.open_to-open.result a.goal c.in-Some-picked.selection c.gather-wanted.result c.open_to-open.ensures covered c.gather-wanted.ensures in
    let refuted = refutes-whole T a.carriers.now fine (a.k - 1) c.gather-wanted.result 0 c.in-Err.refuted c.in-Err.ensures.0 in
    let falls : (a.k - 1) * 2 ^ 33 + 2 ^ 32 < t = omega (arith, c.decreases, c.if-k-eq0.false) in
    (falls, ((fine, c.extract-below.ensures.1), (omega (arith, few), omega (arith, room, c.extract-below.auto.plan), (λ i. le_trans (refuted.0 i) (le_trans (within i) (may-in i)), refuted.1))))

pub extract-loop-left-init : goal.extract-loop-left-init
extract-loop-left-init t c =
    let a = c.args in
    let T = graph a.needs.now a.gives.now a.members.now a.words.now a.start in
    let (fine, known) = c.requires.fine in
    let (few, room, goal-in, may-in, why-in) = c.requires.k_in_bounds in
    let covered = asked (listed 64 a.gives.now (row_of a.words.now (a.k - 1))) c.open_to-open.result a.goal c.open_to-open.type_inv c.in-Some-picked.ensures in
    let within = needs-within T (a.k - 1) a.may c.open_to-open.result a.goal c.in-Some-picked.selection c.gather-wanted.result c.open_to-open.ensures covered c.gather-wanted.ensures in
    let refuted = refutes-whole T a.carriers.now fine (a.k - 1) c.gather-wanted.result 0 c.in-Err.refuted c.in-Err.ensures.0 in
    let d = c.dropped-c in (
      refl,
      refl,
      d.ensures.2,
      turning-start T (a.k - 1) a.goal a.may a.must a.why d.result c.gather-wanted.result c.without-left.result why-in (λ i. le_trans (d.ensures.0 i) (refuted.0 i))
          within c.without-left.ensures,
    )

pub extract-extract-turn-requires : goal.extract-extract-turn-requires
extract-extract-turn-requires t c =
    let l = c.loop-left in
    let a = c.args in
    let T = graph a.needs.now a.gives.now a.members.now a.words.now a.start in
    let (fine, known) = c.requires.fine in
    let (few, room, goal-in, may-in, why-in) = c.requires.k_in_bounds in
    let f = c.lowest-f.result in
    let turned = lowest-one 64 l.left c.lowest-f.ensures.value c.lowest-f.ensures.upper_bound in
    let (plan-kept, table_kept, right, turning) = l.invariant in
    let falls : a.k * 2 ^ 33 + c.less.result < t = omega (arith, c.decreases, c.less.ensures, less-lt a.may f (part_in l.left a.may turning.left f turned)) in
    let inside : c.less.result ⊆ all_facts = subst (λ (m : ℕ). m ⊆ all_facts) (sym c.less.ensures) (λ i. omega (arith, bit-without a.may (2 ^ f) i, may-in i)) in
    (falls, ((fine, right), (few, omega (arith, room, plan-kept, c.extract-below.auto.plan, c.dropped-c.auto.plan), goal-in, inside, turning.part)))

pub extract-shape_of-plan-in_default-turn : goal.extract-shape_of-plan-in_default-turn
extract-shape_of-plan-in_default-turn t c = omega (arith, c.extract-below.auto.plan, c.dropped-c.auto.plan, c.loop-left.invariant.0, c.extract-turn.auto.plan)

pub extract-shape_of-table-in_default-turn : goal.extract-shape_of-table-in_default-turn
extract-shape_of-table-in_default-turn t c = omega (arith, c.extract-below.auto.table, c.dropped-c.auto.table, c.loop-left.invariant.1, c.extract-turn.auto.table)

pub extract-returns-in_default-turn : goal.extract-returns-in_default-turn
extract-returns-in_default-turn t c =
    let l = c.loop-left in
    let a = c.args in
    let T = graph a.needs.now a.gives.now a.members.now a.words.now a.start in
    let q = c.extract-turn.new.plan in
    c.in_default-turn.ensures

pub extract-loop-left-smaller : goal.extract-loop-left-smaller
extract-loop-left-smaller t c =
    let l = c.loop-left in
    omega (arith, c.less-left.ensures, less-lt l.left c.lowest-f.result (lowest-one 64 l.left c.lowest-f.ensures.value c.lowest-f.ensures.upper_bound))

pub extract-loop-left-preserved : goal.extract-loop-left-preserved
extract-loop-left-preserved t c =
    let l = c.loop-left in
    let a = c.args in
    let T = graph a.needs.now a.gives.now a.members.now a.words.now a.start in
    let (plan-kept, table_kept, right, turning) = l.invariant in
    let less = c.less.result in
    let q = c.extract-turn.new.plan in
    let blocked = refutes-blocked T a.k a.goal less l.kept l.reason c.in-Err-turn.e c.if-k-eq0.false
    c.in-Err-turn.ensures.0 in (
      omega (arith, c.extract-turn.auto.plan, plan-kept),
      omega (arith, c.extract-turn.auto.table, table_kept),
      c.extract-turn.ensures.1,
      turning-more T (a.k - 1) a.goal a.may a.must a.why c.dropped-c.result l.left l.kept l.reason c.lowest-f.result less c.in-Err-turn.e
          c.more-kept.result c.less-left.result turning c.less.ensures blocked c.more-kept.ensures c.less-left.ensures,
    )

pub extract-store-requires-2 : goal.extract-store-requires-2
extract-store-requires-2 t c =
    let l = c.loop-left in
    let a = c.args in
    let T = graph a.needs.now a.gives.now a.members.now a.words.now a.start in
    let (fine, known) = c.requires.fine in
    let (few, room, goal-in, may-in, why-in) = c.requires.k_in_bounds in
    entry-asked T a.carriers.now fine a.k a.goal l.reason few goal-in l.invariant.3.part

pub extract-returns : goal.extract-returns
extract-returns t c =
    let l = c.loop-left in
    let a = c.args in
    let T = graph a.needs.now a.gives.now a.members.now a.words.now a.start in
    let (fine, known) = c.requires.fine in
    let (few, room, goal-in, may-in, why-in) = c.requires.k_in_bounds in
    let (_, _, right, turning) = l.invariant in
    let (_, small) = entry-asked T a.carriers.now fine a.k a.goal l.reason few goal-in turning.part in
    let refused = blocked-refutes T a.k a.goal a.may a.must a.why l.reason c.if-k-eq0.false
    (turning-last T (a.k - 1) a.goal a.may a.must a.why c.dropped-c.result l.left l.kept l.reason c.dropped-c.ensures.1.1 turning c.loop-left-test.false) in (
      refused,
      stored_refused T a.carriers.now fine c.whole-first.result l.table c.store-2.new.table a.k a.goal a.may a.must a.why l.reason
          c.whole-first.ensures few small refused right c.store-2.ensures,
    )
