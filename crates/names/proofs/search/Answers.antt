use borrow.Author.Rules.{rules}
use mathlib.Core.Path.{◌≡◌, sym, ap, ◌∙◌}
use mathlib.Core.Bool.{Bool}
use mathlib.Core.List.{List}
use Prim.Native.Nat.{ℕ, ◌+◌, ◌-◌, ◌^◌, ◌<◌}
use native.Mathlib.Omega.{arith}
use lib.ListN.{get_or, take, drop}
use Rattle.sets.proofs.First.{first-here, first_next, first-nowhere}
use Rattle.sets.specs.First.{first_from}
use Rattle.names.specs.Names.{same_name}
use Rattle.names.proofs.SameLaws.{search-some, search-none, part-short}
use Rattle.names.proofs.search.Invariants.{name_of, has_name}
use Rattle.names.proofs.search.Goals as goal

-- a part from a start to its end has the length between them
seen : (file starts lens name : List ℕ) (i : ℕ) {r : Bool} → r ≡ same_name (take (get_or starts i 0 + get_or lens i 0 - get_or starts i 0) (drop (get_or starts i 0) file)) name → has_name file starts lens name i ≡ r
seen file starts lens name i e =
    let k : get_or lens i 0 ≡ get_or starts i 0 + get_or lens i 0 - get_or starts i 0 = omega arith in
    ap (λ (m : ℕ). same_name (take m (drop (get_or starts i 0) file)) name) k ∙ sym e

pub returns-then-name-eq0 : goal.returns-then-name-eq0
returns-then-name-eq0 c =
    let a = c.args in
    search-none a.name.now a.n (name_of a.file.now a.starts a.lens) (omega (arith, c.if-name-eq0.true))

pub loop-i-init : goal.loop-i-init
loop-i-init c =
    let a = c.args in
    let all : a.n - 0 ≡ a.n = omega arith in
    (omega (arith, c.if-name-eq0.false), ap (λ (m : ℕ). first_from (has_name a.file.now a.starts a.lens a.name.now) m 0) all, c.normalized-wanted.ensures)

pub overflow_add-e : goal.overflow_add-e
overflow_add-e c =
    let a = c.args in
    let room : (i : ℕ) → get_or a.starts i 0 + get_or a.lens i 0 < 2 ^ 64 = λ i. let h = c.requires.1 i in search rules in
    search (rules, room)

pub equal-requires : goal.equal-requires
equal-requires c = (part-short c.args.file.now _ _ 32 (c.requires.2 _), c.loop-i.invariant.2)

pub returns-then-equal : goal.returns-then-equal
returns-then-equal c =
    let a = c.args in
    let l = c.loop-i in
    let test = has_name a.file.now a.starts a.lens a.name.now in
    first-here test (a.n - l.i) l.i (omega (arith, c.loop-i-test.true)) (seen a.file.now a.starts a.lens a.name.now l.i c.equal.ensures ∙ c.if-equal.true)
    ∙ l.invariant.1
    ∙ search-some a.name.now a.n (name_of a.file.now a.starts a.lens) l.invariant.0

pub loop-i-preserved : goal.loop-i-preserved
loop-i-preserved c =
    let a = c.args in
    let l = c.loop-i in
    let test = has_name a.file.now a.starts a.lens a.name.now in
    let left : a.n - (l.i + 1) ≡ a.n - l.i - 1 = omega arith in
    let missed = first_next test (a.n - l.i) l.i (omega (arith, c.loop-i-test.true)) (seen a.file.now a.starts a.lens a.name.now l.i c.equal.ensures ∙ c.if-equal.false) in
    (l.invariant.0, ap (λ (m : ℕ). first_from test m (l.i + 1)) left ∙ sym missed ∙ l.invariant.1, l.invariant.2)

pub returns : goal.returns
returns c =
    let a = c.args in
    let l = c.loop-i in
    let test = has_name a.file.now a.starts a.lens a.name.now in
    first-nowhere test (a.n - l.i) l.i (omega (arith, c.loop-i-test.false))
    ∙ l.invariant.1
    ∙ search-some a.name.now a.n (name_of a.file.now a.starts a.lens) l.invariant.0
