-- Characters and their bytes. A character is its number: U+00FC is 0xfc.
use Rattle.std.specs.Prelude.{Bool, true, cond, ◌&&◌, ◌||◌, List, [], ◌∷◌, ◌++◌, ℕ, ◌+◌, ◌/◌, ◌%◌, leb, ltb}

-- the bytes of a character: the encoding form UTF-8 (The Unicode Standard, D92 with table 3-6)
abbrev pub encoded : ℕ → List ℕ
encoded c =
    cond (ltb c 0x80) (c ∷ [])
    (cond (ltb c 0x800) ((0xc0 + c / 64) ∷ (0x80 + c % 64) ∷ [])
    (cond (ltb c 0x10000) ((0xe0 + c / 4096) ∷ (0x80 + c / 64 % 64) ∷ (0x80 + c % 64) ∷ [])
    ((0xf0 + c / 262144) ∷ (0x80 + c / 4096 % 64) ∷ (0x80 + c / 64 % 64) ∷ (0x80 + c % 64) ∷ [])))

-- the bytes of a text. Bytes are UTF-8 if they are those of a text; so bytes that are cut short or longer than needed are not. Surrogates and numbers
-- above U+10FFFF are no characters of a text: they are not covered, and the rule asks for covered ones
unfoldable pub utf8 : List ℕ → List ℕ
utf8 [] = []
utf8 (c ∷ cs) = encoded c ++ utf8 cs

-- the characters that the rule covers: those below U+0180, and U+0300 to U+036F
abbrev pub covers : ℕ → Bool
covers c = ltb c 0x180 || (leb 0x300 c && ltb c 0x370)

unfoldable pub covers_all : List ℕ → Bool
covers_all [] = true
covers_all (c ∷ cs) = covers c && covers_all cs
