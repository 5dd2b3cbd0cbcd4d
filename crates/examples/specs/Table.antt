-- The one table of the examples that docs/RULES.md marks with a star, and of others: what the open calls answer, from the bytes of the files, by the
-- numbers of the rules. A must-fail edit of an open call names the row whose right answer its wrong program does not give.
use Rattle.std.specs.Prelude.{◌≡◌, true, false, List, [], ◌∷◌, ◌++◌, ℕ, zero, suc, ◌+◌, ◌-◌, ◌*◌, ◌/◌, ◌%◌, ◌^◌, ℤ, pos, negsuc, length, take, drop, replicate, set}
use Rattle.sets.specs.Sets.{member, count, set_of}
use Rattle.sets.specs.Articles.{taking, giving_up}
use Rattle.reading.specs.Reasons.{answers}
use Rattle.reading.specs.Items.{spots}
use Rattle.jobfile.specs.Job.{Job, size}
use Rattle.jobfile.specs.Read.{read, read_job, choices, fittings, either}
use Rattle.jobfile.specs.Meaning.{spot_in}
use Rattle.planning.specs.Rounds.{fitting_of, is_plan}
use Rattle.arguments.specs.Answers.{Answer, value, on_job, on_value, Said, refused_by, answered, said, Left}
use Rattle.changes.specs.Change.{new_order, new_wishes, new_clashes, new_name}
use Rattle.bill.specs.Price.{Bill, price_by, price_in, price_of, price_words_of}
use Rattle.calls.specs.Partition.{partition_of}
use Rattle.calls.specs.Pass.{Passed, pass_of}
use Rattle.calls.specs.Choose.{Chosen, choose_of}
use Rattle.calls.specs.Offer.{offer_of}
use Rattle.calls.specs.Layers.{fact_layer_of, round_layer_of}
use Rattle.calls.specs.Plan.{plan_of}
use Rattle.calls.specs.Name.{name_of}
use Rattle.calls.specs.Find.{find_of}
use Rattle.calls.specs.Compare.{compare_of}
use Rattle.calls.specs.Save.{save_of}
use Rattle.fair.specs.Fair.{fair_of}
use Rattle.capi.specs.Returned.{Returned, returned, returned_three, nothing, alone, passed_words, both, bill_words, test, spotted}
use Rattle.capi.specs.Version.{interface_number}
use Rattle.report.specs.Outcome.{outcome_of, blank_words, text_of}
use Rattle.examples.specs.Files.{file_a, file_short, file_long, file_free, file_apart, file_p, file_p_free, file_pair, file_least, file_greatest, file_b, file_crossed, file_empty, file_many, file_named, file_of, file_step, buffet, buffet_apart, buffet_byte, acute_dot, dot_acute, file_f, file_near, file_g, file_back}

-- what the definitions give, and what the rules say
pub record Row : Type 1 where
  pub Sort : Type 0
  pub given : Sort
  pub stated : Sort

-- every row is as stated
abbrev pub Hold : List Row → Type 0
Hold [] = Unit
Hold (row ∷ rows) = (row.given ≡ row.stated) × Hold rows

-- a call says this; a call that writes leaves this; a definition is this
abbrev says : {A : Type 0} → Answer A → Said A → Row
says {A} call stated = record { Sort = Said A; given = said call; stated = stated }

abbrev leaves : {A : Type 0} → Left A → Said A → List ℕ → Row
leaves {A} call answer buffer = record { Sort = Left A; given = call; stated = record { answer = answer; buffer = buffer } }

abbrev is : {A : Type 0} → A → A → Row
is {A} given stated = record { Sort = A; given = given; stated = stated }

-- n bytes or words that are lent, each of them 9; n words 0
abbrev nines : ℕ → List ℕ
nines n = replicate {A = ℕ} n 9

abbrev zeros : ℕ → List ℕ
zeros n = replicate {A = ℕ} n 0

-- the groups 0 0 1, which are a partition of A and of B
abbrev groups : List ℕ
groups = 0 ∷ 0 ∷ 1 ∷ []

-- the choice on a file at a floor, by these groups and the goal {0, 1}; and a selection with what is set aside
abbrev at_floor : List ℕ → ℕ → Answer Chosen
at_floor file floor = choose_of file groups (3 ∷ []) floor

abbrev chosen : ℕ → ℕ → Said Chosen
chosen x aside = answered (record { selection = x; aside = aside })

-- what a pass keeps live, and its sum
abbrev keeps : ℕ → ℕ → Said Passed
keeps left sum = answered (record { live = left; sum = sum })

-- a selection with its total and its tax, in cents; an amount below zero
abbrev costs : ℕ → ℤ → ℤ → Said (Bill ℤ)
costs x total tax = answered (record { selection = x; total = total; tax = tax })

abbrev minus : ℕ → ℤ
minus n = negsuc (n - 1)

-- the price of article a in a choice file, and the total and the tax of its cheapest selection; of two files at one rate
pub record Offer : Type 0 where
  pub price : ℤ
  pub total : ℤ
  pub tax : ℤ

abbrev offer : ℕ → ℕ → List ℕ → Said Offer
offer a rate file = said (on_job (read_job choices file) (λ job. on_value (price_in job rate) (λ bill. value (record { price = price_by job a; total = bill.total; tax = bill.tax }))))

abbrev offers : ℕ → ℕ → List ℕ → List ℕ → List (Said Offer)
offers a rate first second = offer a rate first ∷ offer a rate second ∷ []

abbrev at : ℤ → ℤ → ℤ → Said Offer
at price total tax = answered (record { price = price; total = total; tax = tax })

-- the pairs of rounds that are a plan of a fitting: of a job with n steps the pair of a and b is the number a * 2 ^ n + b
abbrev plan_pairs : Job (List ℕ) → ℕ
plan_pairs job = set_of (2 ^ size job * 2 ^ size job) (λ i. is_plan (fitting_of job) (i / 2 ^ size job ∷ i % 2 ^ size job ∷ []))

-- those of the job that a file states
abbrev plan_pairs_of : List ℕ → Answer ℕ
plan_pairs_of file = on_job (read_job fittings file) (λ job. value (plan_pairs job))

-- what a fact layer leaves of 33 nines: the words of facts 0 and 1, of 30 absent facts, and word 32, which stays 9
abbrev fact_words : ℕ → ℕ → List ℕ
fact_words word0 word1 = word0 ∷ word1 ∷ (zeros 30 ++ nines 1)

-- what a round layer of G leaves of 65 nines: the words of the keepers of facts 0 and 1, of the steps 0 and 1, which are vertices 32 and 33, of all
-- absent vertices, and word 64, which stays 9
abbrev round_words : ℕ → ℕ → ℕ → ℕ → List ℕ
round_words keeper0 keeper1 step0 step1 = keeper0 ∷ keeper1 ∷ (zeros 30 ++ (step0 ∷ step1 ∷ (zeros 30 ++ nines 1)))

-- ---- the examples of the rules

-- A: its length and its groups; its selections at floors 0, 5, 6, and none at 7, where no goal falls short; without its last byte, and with one more
abbrev rows_a : List Row
rows_a =
    is (length file_a) 46
    ∷ leaves (partition_of file_a (nines 4)) (answered tt) (0 ∷ 0 ∷ 1 ∷ 9 ∷ [])
    ∷ says (at_floor file_a 0) (chosen 4 0)
    ∷ says (at_floor file_a 5) (chosen 5 0)
    ∷ says (at_floor file_a 6) (chosen 6 0)
    ∷ says (at_floor file_a 7) (refused_by 14 1)
    ∷ says (at_floor file_short 0) (refused_by 2 45)
    ∷ says (at_floor file_long 0) (refused_by 8 46)
    ∷ []

-- P: its length; the price at rates with a tax of 0, of less than half a cent, of half a cent, of 9 and a half, of the total; a rate that is too high;
-- the choice, and the comparison with A; its last byte off, also at such a rate; the last price 0; saved with another order. Two selections have the
-- least total. Then its articles 0 and 1 alone; the least price and the greatest; A, which has no prices; and a file whose choice says 14 at 1
abbrev rows_p : List Row
rows_p =
    is (length file_p) 58
    ∷ says (price_of file_p 0) (costs 5 (minus 50) (pos 0))
    ∷ says (price_of file_p 99) (costs 5 (minus 50) (pos 0))
    ∷ says (price_of file_p 100) (costs 5 (minus 50) (minus 1))
    ∷ says (price_of file_p 1900) (costs 5 (minus 50) (minus 10))
    ∷ says (price_of file_p 10000) (costs 5 (minus 50) (minus 50))
    ∷ says (price_of file_p 10001) (refused_by 17 0)
    ∷ says (at_floor file_p 0) (chosen 4 0)
    ∷ says (compare_of file_a file_p) (answered true)
    ∷ says (price_of (take 57 file_p) 0) (refused_by 2 57)
    ∷ says (price_of (take 57 file_p) 10001) (refused_by 2 57)
    ∷ says (price_of (take 54 file_p ++ zeros 4) 0) (refused_by 5 54)
    ∷ leaves (save_of file_p (new_order 1) (nines 58)) (answered 58) (set file_p 3 1)
    ∷ says (price_of file_pair 1900) (refused_by 14 0)
    ∷ says (price_of file_pair 10001) (refused_by 17 0)
    ∷ says (price_of file_least 1900) (costs 5 (minus 2147483548) (minus 408021874))
    ∷ says (price_of file_greatest 1900) (costs 6 (minus 50) (minus 10))
    ∷ says (price_of file_a 1900) (costs 4 (pos 0) (pos 0))
    ∷ says (offer_of file_crossed) (refused_by 14 1)
    ∷ says (price_of file_crossed 1900) (refused_by 14 0)
    ∷ []

-- one price moves. P, and P with another price of article 2: dearer, also at a rate at which the tax is the total, and cheaper, each time with the total as
-- far as the price; of article 0, where the total stays. Files in which that price stays and something else does not, and the totals with it: another
-- price, the order, the wishes of article 0, the clashes of article 1; and the count of wishes, with which they stay
abbrev rows_moving : List Row
rows_moving =
    is (offers 2 0 file_p (set file_p 54 140)) (at (pos 100) (minus 50) (pos 0) ∷ at (pos 140) (minus 10) (pos 0) ∷ [])
    ∷ is (offers 2 10000 file_p (set file_p 54 140)) (at (pos 100) (minus 50) (minus 50) ∷ at (pos 140) (minus 10) (minus 10) ∷ [])
    ∷ is (offers 2 0 file_p (set file_p 54 60)) (at (pos 100) (minus 50) (pos 0) ∷ at (pos 60) (minus 90) (pos 0) ∷ [])
    ∷ is (offers 0 0 file_p (set file_p 20 146)) (at (minus 150) (minus 50) (pos 0) ∷ at (minus 110) (minus 50) (pos 0) ∷ [])
    ∷ is (offers 0 0 file_p (set file_p 54 140)) (at (minus 150) (minus 50) (pos 0) ∷ at (minus 150) (minus 10) (pos 0) ∷ [])
    ∷ is (offers 2 0 file_p (set file_p 3 1)) (at (pos 100) (minus 50) (pos 0) ∷ at (pos 100) (minus 150) (pos 0) ∷ [])
    ∷ is (offers 2 0 file_p (set file_p 12 3)) (at (pos 100) (minus 50) (pos 0) ∷ at (pos 100) (minus 150) (pos 0) ∷ [])
    ∷ is (offers 2 0 file_p file_p_free) (at (pos 100) (minus 50) (pos 0) ∷ at (pos 100) (minus 300) (pos 0) ∷ [])
    ∷ is (offers 2 0 file_p (set file_p 2 3)) (at (pos 100) (minus 50) (pos 0) ∷ at (pos 100) (minus 50) (pos 0) ∷ [])
    ∷ []

-- B: its groups; the pass with all articles live, for the goals {0, 1, 2} and {0}; the program's choice, with article 0 set aside
abbrev rows_b : List Row
rows_b =
    leaves (partition_of file_b (nines 3)) (answered tt) (0 ∷ 0 ∷ 1 ∷ [])
    ∷ says (pass_of file_b groups 7 7) (keeps 6 3)
    ∷ says (pass_of file_b groups 7 1) (keeps 7 1)
    ∷ says (offer_of file_b) (chosen 6 1)
    ∷ []

-- how far the wishes can go. A: a sum above the count of its goal. B: passes with only article 0 live, and with none; the choice at a floor above its
-- only selection, with a goal whose sum is its count, which does not fall short. Articles 0 and 1 of A alone, in one group: the order falls short; of
-- two goals the second does, since the pass for the first strikes the only article that carries it; a third goal after two that do not; a list without
-- such a goal; no goals
abbrev rows_bound : List Row
rows_bound =
    says (pass_of file_a groups 7 3) (keeps 7 3)
    ∷ says (pass_of file_b groups 1 7) (keeps 0 1)
    ∷ says (pass_of file_b groups 0 7) (keeps 0 0)
    ∷ says (choose_of file_b groups (7 ∷ []) 7) (refused_by 14 1)
    ∷ says (choose_of file_apart groups (3 ∷ []) 0) (refused_by 14 0)
    ∷ says (choose_of file_apart groups (1 ∷ 2 ∷ []) 0) (refused_by 14 1)
    ∷ says (choose_of file_apart groups (1 ∷ 1 ∷ 2 ∷ 1 ∷ []) 0) (refused_by 14 2)
    ∷ says (choose_of file_apart groups (1 ∷ []) 0) (refused_by 14 1)
    ∷ says (choose_of file_apart groups [] 0) (refused_by 14 0)
    ∷ []

-- a fair. Articles 0 and 1 of A alone: an order without a selection, one with it, one with a wish that the file lacks, and an empty one, with a word past
-- their entries; two orders, also with five words; no orders; one order, also with an order of the file's own that has a wish too many; the choice on the
-- file with that order; the file without its last byte, with no words. A, which has more articles than wishes. B, with the set aside. A file whose choice
-- says 14 at 1
abbrev rows_fair : List Row
rows_fair =
    leaves (fair_of file_apart (3 ∷ 1 ∷ 4 ∷ 0 ∷ []) (nines 13)) (answered tt) (14 ∷ 0 ∷ 0 ∷ 0 ∷ 1 ∷ 2 ∷ 18 ∷ 0 ∷ 0 ∷ 0 ∷ 0 ∷ 0 ∷ 9 ∷ [])
    ∷ leaves (fair_of file_apart (1 ∷ 2 ∷ []) (nines 6)) (answered tt) (0 ∷ 1 ∷ 2 ∷ 0 ∷ 2 ∷ 1 ∷ [])
    ∷ leaves (fair_of file_apart (1 ∷ 2 ∷ []) (nines 5)) (refused_by 10 0) (nines 5)
    ∷ leaves (fair_of file_apart [] (nines 2)) (answered tt) (nines 2)
    ∷ leaves (fair_of (set file_apart 3 4) (1 ∷ []) (nines 3)) (refused_by 6 3) (nines 3)
    ∷ leaves (fair_of file_apart (1 ∷ []) (nines 3)) (answered tt) (0 ∷ 1 ∷ 2 ∷ [])
    ∷ says (offer_of (set file_apart 3 1)) (chosen 1 2)
    ∷ leaves (fair_of (take 36 file_apart) (1 ∷ []) []) (refused_by 2 36) []
    ∷ leaves (fair_of file_a (4 ∷ []) (nines 3)) (answered tt) (18 ∷ 0 ∷ 0 ∷ [])
    ∷ leaves (fair_of file_b (7 ∷ 2 ∷ []) (nines 6)) (answered tt) (0 ∷ 6 ∷ 1 ∷ 0 ∷ 2 ∷ 1 ∷ [])
    ∷ leaves (fair_of file_crossed (3 ∷ []) (nines 3)) (answered tt) (14 ∷ 0 ∷ 0 ∷ [])
    ∷ []

-- F: the fewest rounds of a plan, the plans of two rounds, and no plan within horizon 1. G: the same two; fact layers 1 and 2: the two facts are mutex
-- in 1, and not in 2; round layers 1 and 2. A step that gives back what it takes
abbrev rows_f : List Row
rows_f =
    says (plan_of file_f (nines 3)) (answered 2)
    ∷ says (plan_pairs_of file_f) (answered (2 ^ (1 * 8 + 6)))
    ∷ says (plan_of file_near (nines 3)) (refused_by 15 0)
    ∷ says (plan_of file_g (nines 2)) (answered 2)
    ∷ says (plan_pairs_of file_g) (answered (2 ^ (2 * 4 + 1)))
    ∷ leaves (fact_layer_of file_g 1 (nines 33)) (answered 3) (fact_words 2 1)
    ∷ leaves (fact_layer_of file_g 2 (nines 33)) (answered 3) (fact_words 0 0)
    ∷ leaves (round_layer_of file_g 1 (nines 65)) (answered (2 ^ 32 + 2 ^ 33)) (round_words 0 0 (2 ^ 33) (2 ^ 32))
    ∷ leaves (round_layer_of file_g 2 (nines 65)) (answered (1 + 2 + 2 ^ 32 + 2 ^ 33)) (round_words (2 + 2 ^ 33) 1 (2 ^ 33) (1 + 2 ^ 32))
    ∷ says (plan_of file_back (nines 1)) (answered 1)
    ∷ []

-- names: there, none, of an absent article, of a refused file; the lowest article with a name. Comparing: alike, unlike, alike though a name differs
abbrev rows_names : List Row
rows_names =
    is (name_of file_named 1) (97 ∷ [])
    ∷ is (name_of file_named 0) []
    ∷ is (name_of file_named 3) []
    ∷ is (name_of (set file_named 1 65) 1) []
    ∷ says (find_of file_named (97 ∷ [])) (answered 1)
    ∷ says (compare_of file_a file_a) (answered true)
    ∷ says (compare_of file_a file_b) (answered false)
    ∷ says (compare_of file_named (set file_named 14 98)) (answered true)
    ∷ []

-- n times the same bytes
abbrev times : ℕ → List ℕ → List ℕ
times zero bytes = []
times (suc n) bytes = bytes ++ times n bytes

-- one name from two keyboards: found both ways, in a fitting too, and at the lowest number that has it in either writing; the file's own bytes come back.
-- Marks of different classes in either order, also if one is part of a character; two marks of class 230 in either order, and U+0301 and U+0323 with
-- U+034F, of class 0, between them, are not the same. U+0344 is U+0308 U+0301: 32 bytes are found by 64. U+017F is covered; U+0180, U+02FF and U+0370 are
-- not. U+0133 is no i and j, and U+212B no U+00C5. C1 81 is no A, and is found by its own bytes; a byte FC is no ü
abbrev rows_keyboards : List Row
rows_keyboards =
    says (find_of (file_of (buffet ∷ [])) buffet_apart) (answered 0)
    ∷ says (find_of (file_of (buffet_apart ∷ [])) buffet) (answered 0)
    ∷ says (find_of (file_step buffet) buffet_apart) (answered 0)
    ∷ says (find_of (file_of ((97 ∷ []) ∷ buffet ∷ buffet_apart ∷ [])) buffet_apart) (answered 1)
    ∷ is (name_of (file_of (buffet_apart ∷ [])) 0) buffet_apart
    ∷ says (find_of (file_of (acute_dot (0x61 ∷ []) ∷ [])) (dot_acute (0x61 ∷ []))) (answered 0)
    ∷ says (find_of (file_of ((0xc3 ∷ 0xa1 ∷ 0xcc ∷ 0xa3 ∷ []) ∷ [])) (dot_acute (0x61 ∷ []))) (answered 0)
    ∷ says (find_of (file_of ((0x61 ∷ 0xcc ∷ 0x81 ∷ 0xcc ∷ 0x80 ∷ []) ∷ [])) (0x61 ∷ 0xcc ∷ 0x80 ∷ 0xcc ∷ 0x81 ∷ [])) (refused_by 16 0)
    ∷ says (find_of (file_of ((0x61 ∷ 0xcc ∷ 0x81 ∷ 0xcd ∷ 0x8f ∷ 0xcc ∷ 0xa3 ∷ []) ∷ [])) (0x61 ∷ 0xcc ∷ 0xa3 ∷ 0xcd ∷ 0x8f ∷ 0xcc ∷ 0x81 ∷ [])) (refused_by 16 0)
    ∷ says (find_of (file_of (times 16 (0xcd ∷ 0x84 ∷ []) ∷ [])) (times 16 (0xcc ∷ 0x88 ∷ 0xcc ∷ 0x81 ∷ []))) (answered 0)
    ∷ says (find_of (file_of (acute_dot (0xc5 ∷ 0xbf ∷ []) ∷ [])) (dot_acute (0xc5 ∷ 0xbf ∷ []))) (answered 0)
    ∷ says (find_of (file_of (acute_dot (0xc6 ∷ 0x80 ∷ []) ∷ [])) (dot_acute (0xc6 ∷ 0x80 ∷ []))) (refused_by 16 0)
    ∷ says (find_of (file_of (acute_dot (0xcb ∷ 0xbf ∷ []) ∷ [])) (dot_acute (0xcb ∷ 0xbf ∷ []))) (refused_by 16 0)
    ∷ says (find_of (file_of (acute_dot (0xcd ∷ 0xb0 ∷ []) ∷ [])) (dot_acute (0xcd ∷ 0xb0 ∷ []))) (refused_by 16 0)
    ∷ says (find_of (file_of ((0xc4 ∷ 0xb3 ∷ []) ∷ [])) (0x69 ∷ 0x6a ∷ [])) (refused_by 16 0)
    ∷ says (find_of (file_of ((0xe2 ∷ 0x84 ∷ 0xab ∷ []) ∷ [])) (0xc3 ∷ 0x85 ∷ [])) (refused_by 16 0)
    ∷ says (find_of (file_of ((0xc1 ∷ 0x81 ∷ []) ∷ [])) (0x41 ∷ [])) (refused_by 16 0)
    ∷ says (find_of (file_of ((0xc1 ∷ 0x81 ∷ []) ∷ [])) (0xc1 ∷ 0x81 ∷ [])) (answered 0)
    ∷ says (find_of (file_of (buffet_byte ∷ [])) buffet) (refused_by 16 0)
    ∷ []

-- no article, no wish, nothing ordered: the empty selection. Every number of the rules, 2, 8, 14 and 15 above, at a place of its own if it has one;
-- what is tested first; a buffer that is short stays as it was
abbrev rows_numbers : List Row
rows_numbers =
    says (choose_of file_empty [] [] 0) (chosen 0 0)
    ∷ says (choose_of [] [] [] 0) (refused_by 1 0)
    ∷ says (choose_of file_f [] [] 0) (refused_by 1 0)
    ∷ says (choose_of file_many [] [] 0) (refused_by 3 1)
    ∷ says (offer_of (set file_a 11 17)) (refused_by 4 11)
    ∷ says (offer_of (set file_a 12 0)) (refused_by 5 12)
    ∷ says (offer_of (set file_named 13 0)) (refused_by 5 13)
    ∷ says (offer_of (set file_a 3 7)) (refused_by 6 3)
    ∷ says (offer_of (set file_named 13 33)) (refused_by 7 13)
    ∷ leaves (fact_layer_of file_g 3 (nines 1)) (refused_by 9 0) (nines 1)
    ∷ leaves (round_layer_of file_g 0 (nines 1)) (refused_by 9 0) (nines 1)
    ∷ leaves (partition_of file_a (nines 2)) (refused_by 10 0) (9 ∷ 9 ∷ [])
    ∷ says (plan_of file_f (nines 2)) (refused_by 10 0)
    ∷ says (pass_of file_b (3 ∷ []) 7 7) (refused_by 10 0)
    ∷ says (pass_of file_a (0 ∷ 0 ∷ 3 ∷ []) 8 0) (refused_by 11 2)
    ∷ says (pass_of file_a (0 ∷ 1 ∷ 1 ∷ []) 7 3) (refused_by 11 2)
    ∷ says (pass_of file_a groups 8 0) (refused_by 12 0)
    ∷ says (pass_of file_a groups 7 0) (refused_by 13 0)
    ∷ says (choose_of file_a groups (3 ∷ 4 ∷ []) 0) (refused_by 13 1)
    ∷ says (find_of file_named (98 ∷ [])) (refused_by 16 0)
    ∷ says (find_of file_named []) (refused_by 16 0)
    ∷ says (compare_of file_short file_many) (refused_by 2 45)
    ∷ []

-- saving A with another order, with an order of zero, with other wishes of article 1, without its clashes, and with them again; a name that goes and one
-- that comes. What is refused, each with no buffer or one that is short: a name of 33 bytes and one of 257; clashes of article 1 with itself; a wish that
-- A lacks, of article 1 and in the order; a short buffer; article 3, with no wishes and with a name of 33 bytes; the old file before all else
abbrev rows_saving : List Row
rows_saving =
    leaves (save_of file_a (new_order 1) (nines 47)) (answered 46) (set file_a 3 1 ++ nines 1)
    ∷ leaves (save_of file_a (new_order 0) (nines 46)) (answered 46) (set file_a 3 0)
    ∷ leaves (save_of file_a (new_wishes 1 1) (nines 46)) (answered 46) (set file_a 21 1)
    ∷ leaves (save_of file_a (new_clashes 1 0) (nines 39)) (answered 38) (file_free ++ nines 1)
    ∷ leaves (save_of file_free (new_clashes 1 1) (nines 46)) (answered 46) file_a
    ∷ leaves (save_of file_named (new_name 1 []) (nines 16)) (answered 16) (take 12 file_named ++ (0 ∷ 4 ∷ 1 ∷ 97 ∷ []))
    ∷ leaves (save_of file_named (new_name 0 (98 ∷ [])) (nines 20)) (answered 20) (take 11 file_named ++ (4 ∷ 1 ∷ 98 ∷ drop 12 file_named))
    ∷ leaves (save_of file_a (new_name 1 (nines 33)) []) (refused_by 7 37) []
    ∷ leaves (save_of file_a (new_name 1 (nines 257)) []) (refused_by 7 37) []
    ∷ leaves (save_of file_a (new_clashes 1 2) []) (refused_by 6 29) []
    ∷ leaves (save_of file_a (new_wishes 1 4) []) (refused_by 6 21) []
    ∷ leaves (save_of file_a (new_order 4) []) (refused_by 6 3) []
    ∷ leaves (save_of file_a (new_order 1) (nines 45)) (refused_by 10 0) (nines 45)
    ∷ leaves (save_of file_a (new_wishes 3 0) []) (refused_by 9 0) []
    ∷ leaves (save_of file_a (new_name 3 (nines 33)) []) (refused_by 9 0) []
    ∷ leaves (save_of file_short (new_wishes 3 0) []) (refused_by 2 45) []
    ∷ leaves (save_of file_f (new_order 0) []) (refused_by 1 0) []
    ∷ []

-- what each function of the C interface hands back of such answers: a status, and two words, or three; its number
abbrev handed : ℕ → ℕ → ℕ → Returned
handed status first second = record { status = status; words = first ∷ second ∷ [] }

abbrev handed_three : ℕ → ℕ → ℕ → ℕ → Returned
handed_three status first second third = record { status = status; words = first ∷ second ∷ third ∷ [] }

abbrev rows_c : List Row
rows_c =
    is (returned nothing (partition_of file_a (nines 4)).answer) (handed 0 0 0)
    ∷ is (returned nothing (fair_of file_apart (3 ∷ 4 ∷ []) (nines 6)).answer) (handed 0 0 0)
    ∷ is (returned nothing (fair_of file_apart (1 ∷ 2 ∷ []) (nines 5)).answer) (handed 10 0 0)
    ∷ is (returned passed_words (said (pass_of file_b groups 7 7))) (handed 0 6 3)
    ∷ is (returned both (said (choose_of file_b groups (7 ∷ []) 0))) (handed 0 6 1)
    ∷ is (returned both (said (at_floor file_short 0))) (handed 2 45 0)
    ∷ is (returned both (said (at_floor file_a 7))) (handed 14 1 0)
    ∷ is (returned_three bill_words (said (price_words_of file_p 1900))) (handed_three 0 5 (2 ^ 64 - 50) (2 ^ 64 - 10))
    ∷ is (returned_three bill_words (said (price_words_of (take 57 file_p) 1900))) (handed_three 2 57 0 0)
    ∷ is (returned_three bill_words (said (price_words_of file_p 10001))) (handed_three 17 0 0 0)
    ∷ is (returned alone (fact_layer_of file_g 1 (nines 33)).answer) (handed 0 3 0)
    ∷ is (returned alone (round_layer_of file_g 1 (nines 65)).answer) (handed 0 (2 ^ 32 + 2 ^ 33) 0)
    ∷ is (returned alone (said (plan_of file_f (nines 3)))) (handed 0 2 0)
    ∷ is (spotted (spot_in (read spots either file_named) 1)) (handed 0 14 1)
    ∷ is (returned alone (said (find_of file_named (97 ∷ [])))) (handed 0 1 0)
    ∷ is (returned alone (said (find_of (file_of (buffet ∷ [])) buffet_apart))) (handed 0 0 0)
    ∷ is (returned test (said (compare_of file_a file_a))) (handed 0 1 0)
    ∷ is (returned test (said (compare_of file_a file_b))) (handed 0 0 0)
    ∷ is (returned alone (save_of file_a (new_order 1) (nines 47)).answer) (handed 0 46 0)
    ∷ is (returned alone (save_of file_a (new_wishes 1 1) (nines 46)).answer) (handed 0 46 0)
    ∷ is (returned alone (save_of file_a (new_clashes 1 2) []).answer) (handed 6 29 0)
    ∷ is (returned alone (save_of file_a (new_name 1 (nines 257)) []).answer) (handed 7 37 0)
    ∷ is interface_number 7
    ∷ []

-- what the program prints, in bytes: "chosen 1 2" and "aside 0" of B; "rounds 2", "1: 0" and "2: 1 2" of F; "refused 2 at 45"; "refused 14 at 0" of
-- articles 0 and 1 of A alone, and "refused 14 at 1" of two articles that clash and are in different groups
abbrev rows_text : List Row
rows_text =
    is (text_of (outcome_of file_b blank_words) blank_words) (99 ∷ 104 ∷ 111 ∷ 115 ∷ 101 ∷ 110 ∷ 32 ∷ 49 ∷ 32 ∷ 50 ∷ 10 ∷ 97 ∷ 115 ∷ 105 ∷ 100 ∷ 101 ∷ 32 ∷ 48 ∷ 10 ∷ [])
    ∷ is (text_of (outcome_of file_f blank_words) (1 ∷ 6 ∷ [])) (114 ∷ 111 ∷ 117 ∷ 110 ∷ 100 ∷ 115 ∷ 32 ∷ 50 ∷ 10 ∷ 49 ∷ 58 ∷ 32 ∷ 48 ∷ 10 ∷ 50 ∷ 58 ∷ 32 ∷ 49 ∷ 32 ∷ 50 ∷ 10 ∷ [])
    ∷ is (text_of (outcome_of file_short blank_words) blank_words) (114 ∷ 101 ∷ 102 ∷ 117 ∷ 115 ∷ 101 ∷ 100 ∷ 32 ∷ 50 ∷ 32 ∷ 97 ∷ 116 ∷ 32 ∷ 52 ∷ 53 ∷ 10 ∷ [])
    ∷ is (text_of (outcome_of file_apart blank_words) blank_words) (114 ∷ 101 ∷ 102 ∷ 117 ∷ 115 ∷ 101 ∷ 100 ∷ 32 ∷ 49 ∷ 52 ∷ 32 ∷ 97 ∷ 116 ∷ 32 ∷ 48 ∷ 10 ∷ [])
    ∷ is (text_of (outcome_of file_crossed blank_words) blank_words) (114 ∷ 101 ∷ 102 ∷ 117 ∷ 115 ∷ 101 ∷ 100 ∷ 32 ∷ 49 ∷ 52 ∷ 32 ∷ 97 ∷ 116 ∷ 32 ∷ 49 ∷ 10 ∷ [])
    ∷ []

-- a set of articles: it takes one, the same again, one of number 64; it gives one up, one that it lacks, one of number 64; a member, a number that is
-- none, number 64; and how many it has, with article 63 among them
abbrev rows_sets : List Row
rows_sets =
    is (taking 64 0 0) 1
    ∷ is (taking 64 1 0) 1
    ∷ is (taking 64 0 64) 0
    ∷ is (giving_up 64 3 0) 2
    ∷ is (giving_up 64 0 0) 0
    ∷ is (giving_up 64 1 64) 1
    ∷ is (member 1 0) true
    ∷ is (member 1 1) false
    ∷ is (member 0 64) false
    ∷ is (count (1 + 2 ^ 63)) 2
    ∷ []

-- the numbers that are answers to accepted input
abbrev rows_answers : List Row
rows_answers =
    is (answers 13) false
    ∷ is (answers 14) true
    ∷ is (answers 16) true
    ∷ is (answers 17) false
    ∷ is (answers 18) false
    ∷ []

abbrev pub rows : List Row
rows = rows_a ++ (rows_p ++ (rows_moving ++ (rows_b ++ (rows_bound ++ (rows_fair ++ (rows_f ++ (rows_names ++ (rows_keyboards ++ (rows_numbers ++ (rows_saving ++ (rows_c ++ (rows_text ++ (rows_sets ++ rows_answers)))))))))))))
