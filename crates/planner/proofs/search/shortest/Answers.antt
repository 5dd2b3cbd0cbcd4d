use borrow.Author.Rules.{rules}
use mathlib.Core.Path.{◌≡◌, refl, ap, subst, ◌∙◌}
use mathlib.Core.List.{◌++◌}
use Prim.Native.Nat.{ℕ, ◌+◌, ◌≤◌, ◌<◌}
use native.Mathlib.Omega.{arith}
use lib.ListN.{length, drop}
use Rattle.std.proofs.Common.{length-take}
use Rattle.sets.proofs.Bits.{bit-empty, part-refl}
use Rattle.planning.specs.Meaning.{fitting_in}
use Rattle.reachability.specs.States.{Hopeless}
use Rattle.extraction.specs.Extraction.{all_facts, graph, Back, Extracted}
use Rattle.extraction.proofs.NogoodLaws.{empty-nogoods}
use Rattle.std.specs.Prelude.{Some, None}
use Rattle.planner.proofs.SearchLaws.{copied-front, copied-length, held_same, refuted-more}
use Rattle.planner.proofs.PlannerLaws.{Searched, tabulated, members-length, unplanned, goal-inside, fine, solved-count, solved-words}
use Rattle.planner.proofs.search.shortest.Goals as goal
use Rattle.planner.proofs.search.shortest.Goals.{In_default}

pub loop-k-init : goal.loop-k-init
loop-k-init c =
    let job = c.args.job in
    let (sized, few, room, lay) = c.requires in
    let v = c.of-vertices in
    let T = graph v.result.needs v.result.gives c.args.members.now c.args.words.now job.start in
    let tab = tabulated (fitting_in job) job.horizon v.result.needs v.result.gives c.args.members.now c.args.words.now sized v.ensures.needs v.ensures.gives lay in (
      refl,
      refl,
      refl,
      empty-nogoods T 8192,
      λ i l. absurd (let f : ⊥ = omega arith in f),
      tab,
      fine (fitting_in job) job.horizon T tab c.transposed-carriers.result few c.transposed-carriers.ensures,
    )

pub extract-outcome-requires : goal.extract-outcome-requires
extract-outcome-requires c =
    let job = c.args.job in
    let l = c.loop-k in
    let (made, table, out, right, none, tab, fine) = l.invariant in
    let k : l.k ≤ length c.args.members.now = omega arith in
    record { fine = (fine, right); k_in_bounds = (k, omega (arith, fine.short, made), goal-inside (fitting_in job) job.horizon _ tab, part-refl all_facts, λ i. omega (arith, bit-empty i)) }

-- how many words the caller has lent, how many of our own there are, and for how many rounds there are layers
sizes : (c : In_default) → (length c.loop-k.out ≡ length c.args.out.now) × (length c.extract-outcome.new.plan ≡ 16) × (length c.args.members.now ≡ c.args.job.horizon)
sizes c =
    let l = c.loop-k in (
      ap length l.invariant.2,
      omega (arith, l.invariant.0, c.extract-outcome.auto.plan),
      members-length (fitting_in c.args.job) c.args.job.horizon _ l.invariant.5,
    )

pub slice_bounds-copy_from_slice-end : goal.slice_bounds-copy_from_slice-end
slice_bounds-copy_from_slice-end c = let (out, own, layers) = sizes c in omega (arith, c.requires.2)

pub slice_bounds-copy_from_slice-end-in_default : goal.slice_bounds-copy_from_slice-end-in_default
slice_bounds-copy_from_slice-end-in_default c =
    let (out, own, layers) = sizes (goal.at.slice_bounds-copy_from_slice-end-in_default c).In_default in
    omega (arith, length-take {A = ℕ}, c.requires.2)

pub copy_from_slice-requires : goal.copy_from_slice-requires
copy_from_slice-requires c =
    let (out, own, layers) = sizes (goal.at.copy_from_slice-requires c).In_default in
    omega (arith, length-take {A = ℕ}, c.requires.1, c.requires.2)

pub returns-in_default : goal.returns-in_default
returns-in_default c =
    let job = c.args.job in
    let F = fitting_in job in
    let h = job.horizon in
    let l = c.loop-k in
    let (same, table, out, right, none, tab, fine) = l.invariant in
    let e = c.extract-outcome in
    let copied = c.copy_from_slice in
    let old = c.args.out.now in
    let new = copied.new.self ++ drop l.k l.out in
    let T = graph c.of-vertices.result.needs c.of-vertices.result.gives c.args.members.now c.args.words.now job.start in
    let made = e.new.plan in
    let held = subst (λ r. Extracted T l.k job.goal all_facts 0 0 made r) c.in_default.is e.ensures.0 in
    let (lent, own, layers) = sizes (goal.at.returns-in_default c).In_default in
    let (front, rest) = copied-front l.k made l.out copied.new.self (omega (arith, c.requires.1)) copied.ensures.after in
    let k : l.k ≤ h = omega arith in
    let searched : Searched T h job.goal old new (Some l.k) = (k, held_same T l.k job.goal made new front held, none, rest ∙ ap (drop l.k) out) in
    let wide : h ≤ length new = omega (arith, copied-length l.k made l.out copied.new.self copied.ensures.after (omega (arith, c.requires.1)) (omega (arith, c.requires.2)), c.requires.2) in
    record { value = solved-count F h T tab old new (Some l.k) searched; words = solved-words F h T tab old new (Some l.k) searched wide }

pub returns-then-stuck : goal.returns-then-stuck
returns-then-stuck c =
    let job = c.args.job in
    let F = fitting_in job in
    let (same, table, out, right, none, tab, fine) = c.loop-k.invariant in
    let T = graph c.of-vertices.result.needs c.of-vertices.result.gives c.args.members.now c.args.words.now job.start in
    let never = unplanned F job.horizon T tab (subst (Hopeless F) c.if-stuck.true c.stuck.ensures) in
    record { value = solved-count F job.horizon T tab _ _ None (out, never); words = out }

pub loop-k-preserved : goal.loop-k-preserved
loop-k-preserved c =
    let job = c.args.job in
    let l = c.loop-k in
    let e = c.extract-outcome in
    let T = graph c.of-vertices.result.needs c.of-vertices.result.gives c.args.members.now c.args.words.now job.start in
    let (same, table, out, right, none, tab, fine) = l.invariant in
    let k : l.k ≤ length c.args.members.now = omega arith in
    let made = e.new.plan in
    let refused = subst (λ r. Extracted T l.k job.goal all_facts 0 0 made r) c.in-Err.is e.ensures.0 in (
      search rules,
      search rules,
      out,
      e.ensures.1,
      subst (λ (n : ℕ). (i : ℕ) → i < n → Back T i job.goal → ⊥) (let next : l.k + 1 ≡ _ = omega arith in next)
          (refuted-more T c.transposed-carriers.result fine l.k job.goal c.in-Err._facts refused none),
      tab,
      fine,
    )

pub returns : goal.returns
returns c =
    let job = c.args.job in
    let F = fitting_in job in
    let (same, table, out, right, none, tab, fine) = c.loop-k.invariant in
    let T = graph c.of-vertices.result.needs c.of-vertices.result.gives c.args.members.now c.args.words.now job.start in
    let many = members-length F job.horizon T tab in
    record { value = solved-count F job.horizon T tab _ _ None (out, λ i l. none i (omega (arith, many))); words = out }
