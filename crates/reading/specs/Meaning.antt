-- What the code's types mean: tests, and items as they are read.
use Rattle.std.specs.Prelude.{Bool, cond, ℕ, ltb, Result, Ok, Err}
use Rattle.reading.specs.declared.Reason.{Reason}
use Rattle.reading.specs.declared.Reason.TheVariants.{TrailingBytes}
use Rattle.reading.specs.declared.Refusal.{Refusal}
use Rattle.reading.specs.declared.Spot.{Spot}
use Rattle.reading.specs.declared.item.Item.{Item}
use Rattle.reading.specs.declared.item.Named.{Named}
use Rattle.reading.specs.Got.{Got, got, refused}

-- ---- tests

-- a fault turns the file down with this reason and place
abbrev pub tested : Bool → Reason → ℕ → Result (Unit {0}) Refusal
tested fault reason place = cond fault (Err (record { reason = reason; place = place })) (Ok tt)

-- reason 8, of a file of this length
abbrev pub finished : ℕ → Result ℕ Refusal → Result ℕ Refusal
finished end (Ok at) = cond (ltb at end) (Err (record { reason = TrailingBytes; place = at })) (Ok at)
finished end (Err r) = Err r

-- ---- items

-- a reader goes on from where reading is; a refusal is handed on
abbrev pub read_from : {A : Type 0} → Result ℕ Refusal → (ℕ → Got A) → Got A
read_from (Ok at) reader = reader at
read_from (Err r) reader = refused r.reason r.place

-- a value, if reading goes on after it at the position that was found
abbrev pub got_by : {A : Type 0} → A → Result ℕ Refusal → Got A
got_by value (Ok next) = got value next
got_by value (Err r) = refused r.reason r.place

abbrev pub item_got : Result Item Refusal → Got ℕ
item_got (Ok i) = got i.value i.next
item_got (Err r) = refused r.reason r.place

abbrev pub name_got : Result Named Refusal → Got Spot
name_got (Ok n) = got n.spot n.next
name_got (Err r) = refused r.reason r.place
