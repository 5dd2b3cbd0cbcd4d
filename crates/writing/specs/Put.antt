-- Bytes that are put into a page from a place on: the page after it, and the place after them. The other bytes of the page stay as they are.
use Rattle.std.specs.Prelude.{◌≡◌, List, ℕ, ◌+◌, length}
use Rattle.std.proofs.lemmas.List.Edits.{sets}

pub record Put (old : List ℕ) (at : ℕ) (bytes new : List ℕ) (end : ℕ) : Type 0 where
  pub next : end ≡ at + length bytes
  pub written : new ≡ sets old at bytes
  pub same : length new ≡ length old
