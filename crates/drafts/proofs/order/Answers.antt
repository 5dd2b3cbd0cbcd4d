-- `drafts::order` meets its contract: each return by what the reader and the page told.
use borrow.Author.Rules.{rules}
use mathlib.Core.Path.{refl, ◌∙◌}
use mathlib.Core.List.{[]}
use native.Mathlib.Omega.{arith}
use Rattle.std.proofs.lemmas.Result.{err_from_is_err_and}
use Rattle.changes.specs.Change.{new_order}
use Rattle.drafts.proofs.ReadLaws.{as_read}
use Rattle.drafts.proofs.DraftLaws.{draft-down, writable, order-drafted}
use Rattle.drafts.proofs.order.Goals as goal

pub returns-in_err-read : goal.returns-in_err-read
returns-in_err-read c =
    let x = err_from_is_err_and c.from_residual.result c.from_residual.ensures.1 in
    rw (x.1, x.2) (draft-down c.args.file.now (new_order c.args.order) c.read_choice.ensures.value c.in_err-read.was)

pub compose-requires : goal.compose-requires
compose-requires c =
    let a = c.args in
    let r = c.in_ok-read in
    let R = as_read a.file.now (λ k. search rules) r.read r.ensures.value r.ensures.choice_bounds in
    writable a.file.now r.read R [] r.ensures.choice_bounds (omega arith)

pub returns : goal.returns
returns c =
    let a = c.args in
    let r = c.in_ok-read in
    let R = as_read a.file.now (λ k. search rules) r.read r.ensures.value r.ensures.choice_bounds in
    c.compose.ensures ∙ order-drafted a.file.now r.read R a.order 64 [] r.ensures.choice_bounds.0 refl
