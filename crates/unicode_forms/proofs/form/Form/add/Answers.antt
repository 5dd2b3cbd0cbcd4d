-- `unicode_forms::form::Form::add` meets its contract.
use mathlib.Core.Path.{◌≡◌, sym, ap, ◌∙◌}
use mathlib.Core.List.{List, [], ◌∷◌}
use mathlib.Core.Option.{Option}
use Prim.Native.Nat.{ℕ}
use native.Mathlib.Omega.{arith}
use Rattle.std.specs.Prelude.{Some}
use borrow.Author.Tests.{lt-ltb}
use Rattle.unicode_forms.specs.Canonical.{first_of, second_of, parts}
use Rattle.unicode_forms.specs.Meaning.{told, more, more_all}
use Rattle.unicode_forms.proofs.FormLaws.{apart_by, more-lost, first-covered, second-covered, parts-one, parts-two, more-one, more-two}
use Rattle.unicode_forms.proofs.form.Form.add.Goals as goal

pub returns-then-c-lt192 : goal.returns-then-c-lt192
returns-then-c-lt192 c =
    let o = told (Some c.args.self) in
    c.put.ensures ∙ sym (ap (more_all 32 o) (let q : parts c.args.c ≡ c.args.c ∷ [] = simp (lt-ltb c.args.c 0xc0 c.if-c-lt192.true) in q) ∙ more-one 32 o c.args.c)

pub put-requires-2 : goal.put-requires-2
put-requires-2 c = first-covered c.args.c c.entry-e.result c.requires c.if-c-lt192.false c.entry-e.ensures

pub returns-in_err-one : goal.returns-in_err-one
returns-in_err-one c =
    let o = told (Some c.args.self) in
    let e = c.entry-e in
    ap told c.from_residual.ensures ∙ more-lost 32 o (first_of e.result) _ c.in_err-one.ensures ∙ sym (ap (more_all 32 o) (apart_by c.args.c e.result c.requires c.if-c-lt192.false e.ensures))

pub returns-then-second-eq0 : goal.returns-then-second-eq0
returns-then-second-eq0 c =
    let o = told (Some c.args.self) in
    let e = c.entry-e in
    let single : second_of e.result ≡ 0 = omega (arith, c.if-second-eq0.true) in
    c.in_ok-one.ensures ∙ sym (ap (more_all 32 o) (parts-one c.args.c e.result c.requires c.if-c-lt192.false e.ensures single) ∙ more-one 32 o (first_of e.result))

pub put-requires-3 : goal.put-requires-3
put-requires-3 c = second-covered c.args.c c.entry-e.result c.requires c.if-c-lt192.false c.entry-e.ensures c.if-second-eq0.false

pub returns : goal.returns
returns c =
    let o = told (Some c.args.self) in
    let e = c.entry-e in
    c.put-3.ensures ∙ ap (λ (p : Option (List ℕ)). more 32 p (second_of e.result)) c.in_ok-one.ensures
    ∙ sym (ap (more_all 32 o) (parts-two c.args.c e.result c.requires c.if-c-lt192.false e.ensures c.if-second-eq0.false) ∙ more-two 32 o (first_of e.result) (second_of e.result))
