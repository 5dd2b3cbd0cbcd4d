-- `drafts::clashes` meets its contract: each return by what the reader, the test and the page told.
use borrow.Author.Rules.{rules}
use mathlib.Core.Path.{refl, ◌∙◌}
use mathlib.Core.List.{[]}
use native.Mathlib.Omega.{arith}
use Rattle.std.proofs.lemmas.Result.{err_from_is_err_and}
use Rattle.changes.specs.Change.{new_clashes}
use Rattle.drafts.proofs.ReadLaws.{as_read}
use Rattle.drafts.proofs.DraftLaws.{draft-down, draft-absent, writable, clashes-drafted}
use Rattle.drafts.proofs.clashes.Goals as goal

pub returns-in_err-read : goal.returns-in_err-read
returns-in_err-read c =
    let x = err_from_is_err_and c.from_residual.result c.from_residual.ensures.1 in
    rw (x.1, x.2) (draft-down c.args.file.now (new_clashes c.args.article c.args.clashes) c.read_choice.ensures.value c.in_err-read.was)

pub returns-in_err-article : goal.returns-in_err-article
returns-in_err-article c =
    let a = c.args in
    let r = c.in_ok-read in
    let R = as_read a.file.now (λ k. search rules) r.read r.ensures.value r.ensures.choice_bounds in
    let x = err_from_is_err_and c.from_residual-in_err-article.result c.from_residual-in_err-article.ensures.1 in
    rw (x.1, x.2) (draft-absent a.file.now r.read R (new_clashes c.args.article c.args.clashes) a.article refl c.article.ensures c.in_err-article.was)

pub compose-requires : goal.compose-requires
compose-requires c =
    let a = c.args in
    let r = c.in_ok-read in
    let R = as_read a.file.now (λ k. search rules) r.read r.ensures.value r.ensures.choice_bounds in
    writable a.file.now r.read R [] r.ensures.choice_bounds (omega arith)

pub returns : goal.returns
returns c =
    let a = c.args in
    let r = c.in_ok-read in
    let R = as_read a.file.now (λ k. search rules) r.read r.ensures.value r.ensures.choice_bounds in
    c.compose.ensures ∙ clashes-drafted a.file.now r.read R a.article r.ensures.choice_bounds.0 c.article.ensures c.in_ok-article.was a.clashes 64 [] r.ensures.choice_bounds.0 refl
