-- What the code's types mean. A form in an array has room for so many characters; one that needs more is none.
use Rattle.std.specs.Prelude.{◌≡◌, true, cond, List, [], ◌∷◌, ◌++◌, ℕ, ◌≤◌, leb, ltb, length, take, drop, Option, Some, None}
use Rattle.std.proofs.Math.Option as maybe
use Rattle.std.proofs.Math.Option.{none, some}
use Rattle.unicode_forms.specs.Utf8.{covers}
use Rattle.unicode_forms.specs.Forms.{before, text_of, ordered}
use Rattle.unicode_forms.specs.declared.form.Form.{Form}
use Rattle.unicode_forms.specs.declared.utf8.Char.{Char}

-- ---- forms

-- the form that an array has
abbrev pub told : Option Form → maybe.Option (List ℕ)
told (Some f) = some (take f.count f.chars)
told None = none

-- a form that has room
abbrev pub short : ℕ → maybe.Option (List ℕ) → maybe.Option (List ℕ)
short room none = none
short room (some f) = cond (leb (length f) room) (some f) none

-- a form with one character more, and with several
abbrev pub more : ℕ → maybe.Option (List ℕ) → ℕ → maybe.Option (List ℕ)
more room none c = none
more room (some f) c = cond (ltb (length f) room) (some (ordered (f ++ (c ∷ [])))) none

unfoldable pub more_all : ℕ → maybe.Option (List ℕ) → List ℕ → maybe.Option (List ℕ)
more_all room o [] = o
more_all room o (c ∷ cs) = more_all room (more room o c) cs

-- ---- the first character of bytes

-- a covered character of so many bytes at the front
pub record Starts (c size : ℕ) (s : List ℕ) : Type 0 where
  pub char : covers c ≡ true
  pub some_bytes : 1 ≤ size
  pub inside : size ≤ length s
  pub is_text : text_of s ≡ before c (text_of (drop size s))

-- there may be none; then the bytes have no text
abbrev pub Read : Option Char → List ℕ → Type 0
Read (Some r) s = Starts r.code r.size s
Read None s = text_of s ≡ none
