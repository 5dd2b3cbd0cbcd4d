-- `drafts::name` meets its contract: each return by what the reader, the test and the page told.
use borrow.Author.Rules.{rules}
use mathlib.Core.Path.{refl, ap, ◌∙◌}
use native.Mathlib.Omega.{arith}
use lib.ListN.{length, length-take}
use Rattle.std.proofs.lemmas.Result.{err_from_is_err_and}
use Rattle.changes.specs.Change.{new_name}
use Rattle.drafts.proofs.ReadLaws.{as_read}
use Rattle.drafts.proofs.DraftLaws.{draft-down, draft-absent, writable, name-drafted}
use Rattle.drafts.proofs.name.Goals as goal

pub returns-in_err-read : goal.returns-in_err-read
returns-in_err-read c =
    let x = err_from_is_err_and c.from_residual.result c.from_residual.ensures.1 in
    rw (x.1, x.2) (draft-down c.args.file.now (new_name c.args.article c.args.name.now) c.read_choice.ensures.value c.in_err-read.was)

pub returns-in_err-article : goal.returns-in_err-article
returns-in_err-article c =
    let a = c.args in
    let r = c.in_ok-read in
    let R = as_read a.file.now (λ k. search rules) r.read r.ensures.value r.ensures.choice_bounds in
    let x = err_from_is_err_and c.from_residual-in_err-article.result c.from_residual-in_err-article.ensures.1 in
    rw (x.1, x.2) (draft-absent a.file.now r.read R (new_name c.args.article c.args.name.now) a.article refl c.article.ensures c.in_err-article.was)

pub compose-requires : goal.compose-requires
compose-requires c =
    let a = c.args in
    let r = c.in_ok-read in
    let R = as_read a.file.now (λ k. search rules) r.read r.ensures.value r.ensures.choice_bounds in
    writable a.file.now r.read R c.cut.result.now r.ensures.choice_bounds (omega (arith, ap length c.cut.ensures, length-take 33 a.name.now))

pub returns : goal.returns
returns c =
    let a = c.args in
    let r = c.in_ok-read in
    let R = as_read a.file.now (λ k. search rules) r.read r.ensures.value r.ensures.choice_bounds in
    c.compose.ensures ∙ name-drafted a.file.now r.read R a.article r.ensures.choice_bounds.0 c.article.ensures c.in_ok-article.was a.name.now c.cut.result.now c.cut.ensures
