use borrow.Author.Rules.{rules}
use mathlib.Core.Path.{◌≡◌, ap, sym, subst, ◌∙◌}
use mathlib.Core.List.{List, [], ◌∷◌, ◌++◌}
use Prim.Native.Nat.{ℕ, ◌-◌}
use native.Mathlib.Omega.{arith}
use lib.ListN.{length, set}
use borrow.Author.Tests.{not-true, not-false}
use Rattle.std.proofs.lemmas.Bool.{not_from_false, not_from_true}
use Rattle.unicode_forms.specs.Forms.{ordered}
use Rattle.unicode_forms.proofs.SettleLaws.{Going, front_kept, going_start, going-covered, going_next, going-stop, going_end}
use Rattle.unicode_forms.proofs.order.settled.Goals as goal

pub loop-at-init : goal.loop-at-init
loop-at-init c =
    let len : length c.args.chars ≡ 32 = search rules in
    (c.requires.0, going_start c.args.chars c.args.count c.args.c (omega (arith, c.requires.0)) c.requires.1 c.requires.2 c.requires.3)

pub reorderable-requires : goal.reorderable-requires
reorderable-requires c =
    let l = c.loop-at in
    let a = c.args in
    (going-covered a.count a.c _ l.at l.next l.invariant.1 c.loop-at-test.true, l.invariant.1.char)

pub returns-then-not-reorderable : goal.returns-then-not-reorderable
returns-then-not-reorderable c =
    let l = c.loop-at in
    let a = c.args in
    let len : length a.chars ≡ 32 = search rules in
    going-stop a.count a.c _ l.at l.next l.invariant.1 c.loop-at-test.true (sym c.reorderable.ensures ∙ not-true c.reorderable.result (not_from_false _ c.if-not-reorderable.true))
    ∙ ap (λ (x : List ℕ). ordered (x ++ (a.c ∷ []))) (front_kept a.chars a.count a.c (omega (arith, l.invariant.0)))

pub loop-at-preserved : goal.loop-at-preserved
loop-at-preserved c =
    let l = c.loop-at in
    let a = c.args in
    let m = set a.chars a.count a.c in
    let yes = sym c.reorderable.ensures ∙ not-false c.reorderable.result (not_from_true _ c.if-not-reorderable.false) in
    (l.invariant.0, subst (λ (x : List ℕ). Going a.count a.c m (l.at - 1) x) (sym (c.swap.ensures.by_index.3 0)) (going_next a.count a.c m l.at l.next l.invariant.1 c.loop-at-test.true yes))

pub returns : goal.returns
returns c =
    let l = c.loop-at in
    let a = c.args in
    let len : length a.chars ≡ 32 = search rules in
    going_end a.count a.c _ l.at l.next l.invariant.1 c.loop-at-test.false
    ∙ ap (λ (x : List ℕ). ordered (x ++ (a.c ∷ []))) (front_kept a.chars a.count a.c (omega (arith, l.invariant.0)))
