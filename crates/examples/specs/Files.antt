-- The files of the examples, byte by byte, by the letters of docs/RULES.md. Multi-byte fields have their lowest byte first.
use Rattle.std.specs.Prelude.{List, [], ◌∷◌, ◌++◌, ℕ, length, take, drop, set}

-- A: articles 0 {wish 0}; 1 {1}, which clashes with 0; 2 {0, 1}; the order is {0, 1}. By lines: kind, articles, wishes; order; then the records,
-- each its bit map, its wishes and, if they are marked, its clashes: 46 bytes
abbrev pub file_a : List ℕ
file_a =
    67 ∷ 3 ∷ 2
    ∷ 3 ∷ 0 ∷ 0 ∷ 0 ∷ 0 ∷ 0 ∷ 0 ∷ 0
    ∷ 1 ∷ 1 ∷ 0 ∷ 0 ∷ 0 ∷ 0 ∷ 0 ∷ 0 ∷ 0
    ∷ 3 ∷ 2 ∷ 0 ∷ 0 ∷ 0 ∷ 0 ∷ 0 ∷ 0 ∷ 0 ∷ 1 ∷ 0 ∷ 0 ∷ 0 ∷ 0 ∷ 0 ∷ 0 ∷ 0
    ∷ 1 ∷ 3 ∷ 0 ∷ 0 ∷ 0 ∷ 0 ∷ 0 ∷ 0 ∷ 0
    ∷ []

-- A without its last byte, and with one more
abbrev pub file_short : List ℕ
file_short = take 45 file_a

abbrev pub file_long : List ℕ
file_long = file_a ++ (0 ∷ [])

-- A without the clashes of article 1: its bit map in byte 20 marks wishes only, and the 8 bytes from 29 on are gone
abbrev pub file_free : List ℕ
file_free = set (take 29 file_a ++ drop 37 file_a) 20 1

-- articles 0 and 1 of A alone: its first 37 bytes, with 2 articles counted in byte 1
abbrev pub file_apart : List ℕ
file_apart = set (take 37 file_a) 1 2

-- articles 0 {wish 0}; 1 without wishes; 2 {1}; 0 clashes with 1 and with 2, which do not clash. The order is {0, 1}. The lines are those of A, but
-- that article 1 has no wishes
abbrev pub file_crossed : List ℕ
file_crossed =
    67 ∷ 3 ∷ 2
    ∷ 3 ∷ 0 ∷ 0 ∷ 0 ∷ 0 ∷ 0 ∷ 0 ∷ 0
    ∷ 1 ∷ 1 ∷ 0 ∷ 0 ∷ 0 ∷ 0 ∷ 0 ∷ 0 ∷ 0
    ∷ 2 ∷ 1 ∷ 0 ∷ 0 ∷ 0 ∷ 0 ∷ 0 ∷ 0 ∷ 0
    ∷ 3 ∷ 2 ∷ 0 ∷ 0 ∷ 0 ∷ 0 ∷ 0 ∷ 0 ∷ 0 ∷ 1 ∷ 0 ∷ 0 ∷ 0 ∷ 0 ∷ 0 ∷ 0 ∷ 0
    ∷ []

-- P: A with the prices -150, -150 and 100, each after the sets of its record: 58 bytes
abbrev pub file_p : List ℕ
file_p =
    67 ∷ 3 ∷ 2
    ∷ 3 ∷ 0 ∷ 0 ∷ 0 ∷ 0 ∷ 0 ∷ 0 ∷ 0
    ∷ 9 ∷ 1 ∷ 0 ∷ 0 ∷ 0 ∷ 0 ∷ 0 ∷ 0 ∷ 0 ∷ 106 ∷ 255 ∷ 255 ∷ 255
    ∷ 11 ∷ 2 ∷ 0 ∷ 0 ∷ 0 ∷ 0 ∷ 0 ∷ 0 ∷ 0 ∷ 1 ∷ 0 ∷ 0 ∷ 0 ∷ 0 ∷ 0 ∷ 0 ∷ 0 ∷ 106 ∷ 255 ∷ 255 ∷ 255
    ∷ 9 ∷ 3 ∷ 0 ∷ 0 ∷ 0 ∷ 0 ∷ 0 ∷ 0 ∷ 0 ∷ 100 ∷ 0 ∷ 0 ∷ 0
    ∷ []

-- P without the clashes of article 1: its bit map in byte 24 marks wishes and price, and the 8 bytes from 33 on are gone
abbrev pub file_p_free : List ℕ
file_p_free = set (take 33 file_p ++ drop 41 file_p) 24 9

-- articles 0 and 1 of P alone: its first 45 bytes, with 2 articles counted in byte 1
abbrev pub file_pair : List ℕ
file_pair = set (take 45 file_p) 1 2

-- P with the least price there is, and with the greatest, for article 0: its bytes 20 to 23
abbrev pub file_least : List ℕ
file_least = take 20 file_p ++ (0 ∷ 0 ∷ 0 ∷ 128 ∷ drop 24 file_p)

abbrev pub file_greatest : List ℕ
file_greatest = take 20 file_p ++ (255 ∷ 255 ∷ 255 ∷ 127 ∷ drop 24 file_p)

-- B: articles 0 {wish 0}; 1 {0, 1}, which clashes with 0; 2 {2}; the order is {0, 1, 2}. The lines are those of A
abbrev pub file_b : List ℕ
file_b =
    67 ∷ 3 ∷ 3
    ∷ 7 ∷ 0 ∷ 0 ∷ 0 ∷ 0 ∷ 0 ∷ 0 ∷ 0
    ∷ 1 ∷ 1 ∷ 0 ∷ 0 ∷ 0 ∷ 0 ∷ 0 ∷ 0 ∷ 0
    ∷ 3 ∷ 3 ∷ 0 ∷ 0 ∷ 0 ∷ 0 ∷ 0 ∷ 0 ∷ 0 ∷ 1 ∷ 0 ∷ 0 ∷ 0 ∷ 0 ∷ 0 ∷ 0 ∷ 0
    ∷ 1 ∷ 4 ∷ 0 ∷ 0 ∷ 0 ∷ 0 ∷ 0 ∷ 0 ∷ 0
    ∷ []

-- no article, no wish, and nothing ordered: kind, articles, wishes; order
abbrev pub file_empty : List ℕ
file_empty =
    67 ∷ 0 ∷ 0
    ∷ 0 ∷ 0 ∷ 0 ∷ 0 ∷ 0 ∷ 0 ∷ 0 ∷ 0
    ∷ []

-- the same, with 65 articles counted in byte 1
abbrev pub file_many : List ℕ
file_many = set file_empty 1 65

-- three articles, no wish, and nothing ordered; articles 1 and 2 have the name of one byte, 97. By lines: kind, articles, wishes; order; then the
-- records, each its bit map and, if it is marked, the length and the byte of its name
abbrev pub file_named : List ℕ
file_named =
    67 ∷ 3 ∷ 0
    ∷ 0 ∷ 0 ∷ 0 ∷ 0 ∷ 0 ∷ 0 ∷ 0 ∷ 0
    ∷ 0
    ∷ 4 ∷ 1 ∷ 97
    ∷ 4 ∷ 1 ∷ 97
    ∷ []

-- a choice without wishes whose articles have these names, and a fitting of one step that has this name
abbrev records : List (List ℕ) → List ℕ
records [] = []
records (name ∷ names) = 4 ∷ length name ∷ (name ++ records names)

abbrev pub file_of : List (List ℕ) → List ℕ
file_of names = 67 ∷ length names ∷ 0 ∷ 0 ∷ 0 ∷ 0 ∷ 0 ∷ 0 ∷ 0 ∷ 0 ∷ 0 ∷ records names

abbrev pub file_step : List ℕ → List ℕ
file_step name = 70 ∷ 1 ∷ 0 ∷ 0 ∷ 0 ∷ 0 ∷ 0 ∷ 0 ∷ 0 ∷ 0 ∷ 0 ∷ 0 ∷ 8 ∷ length name ∷ name

-- "Büfett" as keyboards send it: ü is U+00FC, or u and U+0308; and in one byte, as no UTF-8 has it
abbrev pub buffet : List ℕ
buffet = 0x42 ∷ 0xc3 ∷ 0xbc ∷ 0x66 ∷ 0x65 ∷ 0x74 ∷ 0x74 ∷ []

abbrev pub buffet_apart : List ℕ
buffet_apart = 0x42 ∷ 0x75 ∷ 0xcc ∷ 0x88 ∷ 0x66 ∷ 0x65 ∷ 0x74 ∷ 0x74 ∷ []

abbrev pub buffet_byte : List ℕ
buffet_byte = 0x42 ∷ 0xfc ∷ 0x66 ∷ 0x65 ∷ 0x74 ∷ 0x74 ∷ []

-- a character with an acute accent and a dot below it: U+0301, of class 230, and U+0323, of class 220, in either order
abbrev pub acute_dot : List ℕ → List ℕ
acute_dot base = base ++ (0xcc ∷ 0x81 ∷ 0xcc ∷ 0xa3 ∷ [])

abbrev pub dot_acute : List ℕ → List ℕ
dot_acute base = base ++ (0xcc ∷ 0xa3 ∷ 0xcc ∷ 0x81 ∷ [])

-- F: step 0 needs 0, gives 1 and takes 0; steps 1 and 2 need 1 and give 2 and 3; the start is {0}, the goal {2, 3}. By lines: kind, steps, facts,
-- horizon; start; goal; then the records, each its bit map, and as it marks them needs, gives and takes: 43 bytes
abbrev pub file_f : List ℕ
file_f =
    70 ∷ 3 ∷ 4 ∷ 3
    ∷ 1 ∷ 0 ∷ 0 ∷ 0
    ∷ 12 ∷ 0 ∷ 0 ∷ 0
    ∷ 7 ∷ 1 ∷ 0 ∷ 0 ∷ 0 ∷ 2 ∷ 0 ∷ 0 ∷ 0 ∷ 1 ∷ 0 ∷ 0 ∷ 0
    ∷ 3 ∷ 2 ∷ 0 ∷ 0 ∷ 0 ∷ 4 ∷ 0 ∷ 0 ∷ 0
    ∷ 3 ∷ 2 ∷ 0 ∷ 0 ∷ 0 ∷ 8 ∷ 0 ∷ 0 ∷ 0
    ∷ []

-- the same, with the horizon in byte 3 changed to 1
abbrev pub file_near : List ℕ
file_near = set file_f 3 1

-- G: step 0 gives 0; step 1 gives 1 and takes 0; the start is empty, the goal {0, 1}, the horizon 2. The lines are those of F
abbrev pub file_g : List ℕ
file_g =
    70 ∷ 2 ∷ 2 ∷ 2
    ∷ 0 ∷ 0 ∷ 0 ∷ 0
    ∷ 3 ∷ 0 ∷ 0 ∷ 0
    ∷ 2 ∷ 1 ∷ 0 ∷ 0 ∷ 0
    ∷ 6 ∷ 2 ∷ 0 ∷ 0 ∷ 0 ∷ 1 ∷ 0 ∷ 0 ∷ 0
    ∷ []

-- a step that needs 0, gives 0 and 1 and takes 0; the start is {0}, the goal {0, 1}, the horizon 1. The lines are those of F
abbrev pub file_back : List ℕ
file_back =
    70 ∷ 1 ∷ 2 ∷ 1
    ∷ 1 ∷ 0 ∷ 0 ∷ 0
    ∷ 3 ∷ 0 ∷ 0 ∷ 0
    ∷ 7 ∷ 1 ∷ 0 ∷ 0 ∷ 0 ∷ 3 ∷ 0 ∷ 0 ∷ 0 ∷ 1 ∷ 0 ∷ 0 ∷ 0
    ∷ []
